-- Laws of the first member of a set from a number on, and of the test for no member. The search shifts the word that it looks at, so that its bits are
-- those from the number on: where none is set the word has no member from there on, and else the lowest is the first.
use mathlib.Core.Bool.{true, false}
use mathlib.Core.Logic.{⊎_elim}
use mathlib.Core.List.{List, [], ◌∷◌}
use mathlib.Core.Path.{◌≡◌, refl, sym, ap, ap₂, ◌∙◌}
use native.Mathlib.Decide.{ℕ_discrete}
use native.Mathlib.Nat.{div-eq_of_lt, lt_of_lt_of_le}
use native.Mathlib.Omega.{arith}
use Prim.Native.Nat.{ℕ, zero, suc, ◌+◌, ◌-◌, ◌*◌, ◌/◌, ◌%◌, ◌^◌, ◌≤◌, ◌<◌}
use lib.ListN.{length, get_or, replicate}
use lib.Pow.{shr-shr, pow_mono}
use Rattle.std.specs.Prelude.{Option, Some, None, MatchOption}
use Rattle.sets.specs.declared.LocationSet.{LocationSet}
use Rattle.sets.specs.Sets.{bit_of, has, First, FirstFrom, Lowest}
use Rattle.sets.proofs.Bits.{no_bit, trailing_bit}
use Rattle.sets.proofs.Bools.{side}
use Rattle.sets.proofs.SetLaws.{in_word, off_word, high_off}

shifted_bit : (x n j : ℕ) → bit_of (x / 2 ^ n) j ≡ bit_of x (n + j)
unfolding bit_of
shifted_bit x n j = ap (λ (v : ℕ). v % 2) (shr-shr x n j)

high_bit : (x j : ℕ) → x < 2 ^ 64 → bit_of x j ≡ 1 → j < 64
unfolding bit_of
high_bit x j h b = ⊎_elim (λ t. t) (λ t. absurd (none t)) (side j 64)
  where
    none : 64 ≤ j → ⊥
    none t =
        let z : x / 2 ^ j ≡ 0 = div-eq_of_lt (lt_of_lt_of_le h (pow_mono t)) in
        let q : 0 % 2 ≡ 1 = rw z at b in
        omega arith

module _ (s : LocationSet) (start : ℕ) where
  -- no member from the start to n
  abbrev pub NoneBefore : ℕ → Type 0
  NoneBefore n = (j : ℕ) → start ≤ j → j < n → has s j ≡ false

  pub none_from : NoneBefore 256 → (y : ℕ) → start ≤ y → has s y ≡ false
  none_from f y p = ⊎_elim (λ h. f y p h) (λ h. high_off s y h) (side y 256)

  -- word i, looked at from the number b on, which stands in it: shifted, so its bits are those from b on
  module _ (i b : ℕ) (h : i < 4) (e : b / 64 ≡ i) (p : start ≤ b) (before : NoneBefore b) where
    abbrev shifted : ℕ
    shifted = get_or s.words i 0 / 2 ^ (b % 64)

    abbrev off_from : (j : ℕ) → b ≤ j → j < (i + 1) * 64 → bit_of shifted (j - b) ≡ 0 → has s j ≡ false
    off_from j q r z = off_word s j i (b % 64 + (j - b)) (omega arith) h (omega arith) (sym (shifted_bit _ _ _) ∙ z)

    pub none_more : shifted ≡ 0 → NoneBefore ((i + 1) * 64)
    none_more z j q r = ⊎_elim (λ k. before j q k) (λ k. off_from j k r (rw z (no_bit (j - b)))) (side j b)

    pub first_in : (t : ℕ) → get_or s.words i 0 < 2 ^ 64 → Lowest shifted t → FirstFrom s start (b + t)
    first_in t f l =
        let on : bit_of (get_or s.words i 0) (b % 64 + t) ≡ 1 = sym (shifted_bit _ _ _) ∙ l.on in
        let n : b % 64 + t < 64 = high_bit _ _ f on in
        record {
          least = omega arith;
          member = in_word s (b + t) i (b % 64 + t) (omega arith) h n on;
          passed = λ j q r. ⊎_elim (λ k. before j q k) (λ k. off_from j k (omega arith) (l.below (j - b) (omega arith))) (side j b);
        }

module _ (s : LocationSet) where
  -- the first member from 0 on is the first
  pub first_of_all : (r : Option ℕ) → MatchOption r ((y : ℕ) → 0 ≤ y → has s y ≡ false) (FirstFrom s 0) → MatchOption r ((y : ℕ) → has s y ≡ false) (First s)
  first_of_all None h = λ y. h y (omega arith)
  first_of_all (Some x) h = record { member = h.member; passed = λ j q. h.passed j (omega arith) q }

  -- the lowest bit of a word that is not zero is a member
  pub member_in : (i : ℕ) → i < 4 → get_or s.words i 0 < 2 ^ 64 → (get_or s.words i 0 ≡ 0 → ⊥) → (y : ℕ) × (has s y ≡ true)
  member_in i h f n = let t = trailing_bit (get_or s.words i 0) (omega arith) f in (i * 64 + _, in_word s _ i _ refl h t.small t.on)

-- numbers that are not all zero
pub some_word : (n : ℕ) (ws : List ℕ) → length ws ≡ n → (ws ≡ replicate n 0 → ⊥) → (i : ℕ) × (i < n) × (get_or ws i 0 ≡ 0 → ⊥)
some_word zero [] e f = absurd (f refl)
some_word zero (w ∷ ws) e f = absurd (omega arith)
some_word (suc n) [] e f = absurd (omega arith)
some_word (suc n) (w ∷ ws) e f = go (ℕ_discrete w 0) (some_word n ws (omega arith))
  where
    go : Dec (w ≡ 0) → ((ws ≡ replicate n 0 → ⊥) → (i : ℕ) × (i < n) × (get_or ws i 0 ≡ 0 → ⊥)) → (i : ℕ) × (i < suc n) × (get_or (w ∷ ws) i 0 ≡ 0 → ⊥)
    go (no m) later = (0, omega arith, m)
    go (yes p) later = let r = later (λ q. f (ap₂ ◌∷◌ p q)) in (suc r.0, omega (arith, r.1), r.2)
