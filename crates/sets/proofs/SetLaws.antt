-- Laws of the sets, one for each function of a set that makes or asks one. A member is a bit of one of four words, so each law is a law of bits, at the
-- word and the bit where the member stands. With the laws of rows this is the only file that looks into `has`.
use mathlib.Core.Bool.{Bool, true, false, not, ◌&&◌, ◌||◌}
use mathlib.Core.Logic.{⊎_elim}
use mathlib.Core.Path.{◌≡◌, refl, sym, ap, ◌∙◌}
use native.Mathlib.Decide.{ℕ_discrete}
use native.Mathlib.Omega.{arith}
use Prim.Native.Nat.{ℕ, zero, suc, ◌+◌, ◌-◌, ◌*◌, ◌/◌, ◌%◌, ◌^◌, ◌≤◌, ◌<◌}
use borrow.Author.Tests.{eq-eqb, ne_eqb, lt-ltb, le-ltb}
use lib.Bits.{bit_and, bit_or}
use lib.Dec.{eqb, ltb}
use lib.ListN.{length, get_or, set, replicate}
use lib.Pow.{pow-lt}
use lib.Seq.{get_or-set_same, get_or-set_other}
use mir.Syntax.{w64}
use Rattle.std.specs.Int.{bit_not}
use Rattle.sets.specs.declared.LocationSet.{LocationSet}
use Rattle.sets.specs.Sets.{bit_of, has}
use Rattle.sets.proofs.Bits.{or_bit, and_bit, not_bit, no_bit, bit_lt, with_bit, without_bit, has_bit, pick_n}
use Rattle.sets.proofs.Bools.{side, clash}

-- no set has a number from 256 on, so a member is a location
pub high_off : (s : LocationSet) (y : ℕ) → 256 ≤ y → has s y ≡ false
unfolding has
high_off s y h = rw (le-ltb y 256 h)

pub has_lt : (s : LocationSet) (y : ℕ) → has s y ≡ true → y < 256
has_lt s y e = ⊎_elim (λ h. h) (λ h. absurd (clash e (high_off s y h))) (side y 256)

-- a member by its word and its bit
pub in_word : (s : LocationSet) (y i j : ℕ) → y ≡ i * 64 + j → i < 4 → j < 64 → bit_of (get_or s.words i 0) j ≡ 1 → has s y ≡ true
unfolding has
in_word s y i j e h k b =
    let d : y / 64 ≡ i = omega arith in
    let m : y % 64 ≡ j = omega arith in
    rw (lt-ltb y 256 (omega arith), d, m, b)

pub off_word : (s : LocationSet) (y i j : ℕ) → y ≡ i * 64 + j → i < 4 → j < 64 → bit_of (get_or s.words i 0) j ≡ 0 → has s y ≡ false
unfolding has
off_word s y i j e h k b =
    let d : y / 64 ≡ i = omega arith in
    let m : y % 64 ≡ j = omega arith in
    rw (lt-ltb y 256 (omega arith), d, m, b)

-- ---- one number
and_false : (t : Bool) → (t && false) ≡ false
and_false true = refl
and_false false = refl

pub zeros_at : (n i : ℕ) → get_or {A = ℕ} (replicate n 0) i 0 ≡ 0
zeros_at zero i = refl
zeros_at (suc n) zero = refl
zeros_at (suc n) (suc i) = zeros_at n i

-- words of zero have no member
pub zero_has : (s : LocationSet) (y : ℕ) → ((i : ℕ) → get_or s.words i 0 ≡ 0) → has s y ≡ false
unfolding has
zero_has s y z = rw (z (y / 64), no_bit (y % 64)) (and_false (ltb y 256))

pub contains_has : (s : LocationSet) (x : ℕ) → x < 256 → not (eqb (bit_and (get_or s.words (x / 64) 0) (2 ^ (x % 64))) 0) ≡ has s x
unfolding has
contains_has s x h = rw (lt-ltb x 256 h) (has_bit (get_or s.words (x / 64) 0) (x % 64))

pub pick_on : (t : Bool) (n : ℕ) → eqb (pick_n t 1 n) 1 ≡ (t || eqb n 1)
pick_on true n = refl
pick_on false n = refl

pick_off : (t : Bool) (n : ℕ) → eqb (pick_n t 0 n) 1 ≡ (not t && eqb n 1)
pick_off true n = refl
pick_off false n = refl

-- in one word, numbers are equal where their bits are
pub same_place : (x y : ℕ) → y / 64 ≡ x / 64 → eqb (y % 64) (x % 64) ≡ eqb y x
same_place x y e =
    ⊎_elim (λ h. apart (λ q. omega arith)) (λ h. ⊎_elim (λ k. apart (λ q. omega arith)) (λ k. same (omega arith)) (side x y)) (side y x)
  where
    apart : (y ≡ x → ⊥) → eqb (y % 64) (x % 64) ≡ eqb y x
    apart n = rw (ne_eqb y x n, ne_eqb (y % 64) (x % 64) (λ q. n (omega arith)))

    same : y ≡ x → eqb (y % 64) (x % 64) ≡ eqb y x
    same q = ap (λ (z : ℕ). eqb (z % 64) (x % 64)) q ∙ eq-eqb (x % 64) (x % 64) refl ∙ sym (eq-eqb y x q)

-- a set in which one word is changed, at the bit of x alone: g says how
module _ (s : LocationSet) (x new : ℕ) (g : Bool → Bool → Bool) (n : length s.words ≡ 4) (h : x < 256) (off : (t : Bool) → g false t ≡ t)
    (bit : (j : ℕ) → j < 64 → eqb (bit_of new j) 1 ≡ g (eqb j (x % 64)) (eqb (bit_of (get_or s.words (x / 64) 0) j) 1)) where
  changed_has : (y : ℕ) → has (record { words = set s.words (x / 64) new }) y ≡ g (eqb y x) (has s y)
  unfolding has
  changed_has y =
      ⊎_elim (λ b. go b (ℕ_discrete (y / 64) (x / 64))) (λ b. rw (le-ltb y 256 b, ne_eqb y x (omega arith)) (sym (off false))) (side y 256)
    where
      go : y < 256 → Dec (y / 64 ≡ x / 64) → has (record { words = set s.words (x / 64) new }) y ≡ g (eqb y x) (has s y)
      go b (yes e) =
          rw (lt-ltb y 256 b, e, get_or-set_same s.words (x / 64) new 0 (omega arith))
          (bit (y % 64) (omega arith) ∙ ap (λ (t : Bool). g t (eqb (bit_of (get_or s.words (x / 64) 0) (y % 64)) 1)) (same_place x y e))
      go b (no e) =
          rw (lt-ltb y 256 b, get_or-set_other s.words (x / 64) (y / 64) new 0 e, ne_eqb y x (λ q. e (ap (λ (m : ℕ). m / 64) q))) (sym (off _))

pub add_has : (s : LocationSet) (x : ℕ) → length s.words ≡ 4 → x < 256 → (y : ℕ)
    → has (record { words = set s.words (x / 64) (bit_or (get_or s.words (x / 64) 0) (2 ^ (x % 64))) }) y ≡ (eqb y x || has s y)
add_has s x n h =
    changed_has s x _ ◌||◌ n h (λ t. refl)
    (λ j _. ap (λ (m : ℕ). eqb m 1) (with_bit (get_or s.words (x / 64) 0) (x % 64) j) ∙ pick_on (eqb j (x % 64)) _)

pub remove_has : (s : LocationSet) (x : ℕ) → length s.words ≡ 4 → x < 256 → (y : ℕ)
    → has (record { words = set s.words (x / 64) (bit_and (get_or s.words (x / 64) 0) (bit_not w64 (2 ^ (x % 64)))) }) y ≡ (not (eqb y x) && has s y)
remove_has s x n h =
    changed_has s x _ (λ p q. not p && q) n h (λ t. refl)
    (λ j k. ap (λ (m : ℕ). eqb m 1) (without_bit (get_or s.words (x / 64) 0) (x % 64) j (pow-lt {i = x % 64} {j = 64} (omega arith)) k) ∙ pick_off (eqb j (x % 64)) _)

-- ---- two sets, word by word: one law over the operation f on words and what it is on tests, g
record Bitwise (f : ℕ → ℕ → ℕ) (g : Bool → Bool → Bool) : Type 0 where
  none : g false false ≡ false
  bitwise : (a b j : ℕ) → b < 2 ^ 64 → j < 64 → eqb (bit_of (f a b) j) 1 ≡ g (eqb (bit_of a j) 1) (eqb (bit_of b j) 1)

-- each word of r is made by f of the words of s and t
abbrev Made : (ℕ → ℕ → ℕ) → LocationSet → LocationSet → LocationSet → Type 0
Made f s t r = (i : ℕ) → i < 4 → get_or r.words i 0 ≡ f (get_or s.words i 0) (get_or t.words i 0)

abbrev Words : LocationSet → Type 0
Words t = (i : ℕ) → i < 4 → get_or t.words i 0 < 2 ^ 64

made_has : {f : ℕ → ℕ → ℕ} {g : Bool → Bool → Bool} → Bitwise f g → (s t r : LocationSet) → Words t → Made f s t r → (y : ℕ) → has r y ≡ g (has s y) (has t y)
unfolding has
made_has {f} {g} B s t r w m y = ⊎_elim (λ h. below h) (λ h. rw (le-ltb y 256 h) (sym B.none)) (side y 256)
  where
    below : y < 256 → has r y ≡ g (has s y) (has t y)
    below h =
        rw (lt-ltb y 256 h, m (y / 64) (omega arith))
        (B.bitwise (get_or s.words (y / 64) 0) (get_or t.words (y / 64) 0) (y % 64) (w (y / 64) (omega arith)) (omega arith))

-- what holds of the bits 0 and 1 holds of the bits of two words
two : (P : ℕ → ℕ → Type 0) → P 0 0 → P 0 1 → P 1 0 → P 1 1 → (x y : ℕ) → x < 2 → y < 2 → P x y
two P a b c d zero zero h k = a
two P a b c d zero (suc zero) h k = b
two P a b c d (suc zero) zero h k = c
two P a b c d (suc zero) (suc zero) h k = d
two P a b c d (suc (suc x)) y h k = absurd (omega arith)
two P a b c d zero (suc (suc y)) h k = absurd (omega arith)
two P a b c d (suc zero) (suc (suc y)) h k = absurd (omega arith)

abbrev pub lacks : ℕ → ℕ → ℕ
lacks a b = bit_and a (bit_not w64 b)

pub union_has : (s t r : LocationSet) → Words t → Made bit_or s t r → (y : ℕ) → has r y ≡ (has s y || has t y)
union_has = made_has {g = ◌||◌} (record {
  none = refl;
  bitwise = λ a b j _ _. ap (λ (n : ℕ). eqb n 1) (or_bit a b j)
      ∙ two (λ x y. eqb (bit_or x y) 1 ≡ (eqb x 1 || eqb y 1)) refl refl refl refl _ _ (bit_lt a j) (bit_lt b j);
})

pub common_has : (s t r : LocationSet) → Words t → Made bit_and s t r → (y : ℕ) → has r y ≡ (has s y && has t y)
common_has = made_has {g = ◌&&◌} (record {
  none = refl;
  bitwise = λ a b j _ _. ap (λ (n : ℕ). eqb n 1) (and_bit a b j)
      ∙ two (λ x y. eqb (bit_and x y) 1 ≡ (eqb x 1 && eqb y 1)) refl refl refl refl _ _ (bit_lt a j) (bit_lt b j);
})

pub without_has : (s t r : LocationSet) → Words t → Made lacks s t r → (y : ℕ) → has r y ≡ (has s y && not (has t y))
without_has = made_has {g = λ p q. p && not q} (record {
  none = refl;
  bitwise = λ a b j h k. ap (λ (n : ℕ). eqb n 1) (and_bit a _ j ∙ ap (bit_and (bit_of a j)) (not_bit b j h k))
      ∙ two (λ x y. eqb (bit_and x (1 - y)) 1 ≡ (eqb x 1 && not (eqb y 1))) refl refl refl refl _ _ (bit_lt a j) (bit_lt b j);
})
