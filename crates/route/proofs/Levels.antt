-- An end's turn, one law for each way that a word can go. A word of the new level is the common part of what is joined to the newest level and
-- what is left, so what is left loses just that word, and the level meets the other end's set in it where the two have a bit in common.
use mathlib.Core.Bool.{Bool, true, false, not, ◌&&◌, ◌||◌}
use mathlib.Core.Logic.{◌⊎◌, inl, inr, ⊎_elim}
use mathlib.Core.Path.{◌≡◌, refl, sym, ap, ap₂, ◌∙◌}
use native.Mathlib.Omega.{arith}
use Prim.Native.Nat.{ℕ, zero, suc, ◌+◌, ◌-◌, ◌*◌, ◌/◌, ◌%◌, ◌^◌, ◌≤◌, ◌<◌}
use borrow.Author.Tests.{eq-eqb}
use lib.Bits.{bit_and, bit_or, bit_xor, and_le_l}
use lib.Dec.{eqb}
use lib.ListN.{length, get_or, set}
use lib.Seq.{get_or-set_same, get_or-set_other}
use Rattle.sets.specs.declared.LocationSet.{LocationSet}
use Rattle.sets.specs.declared.rows.Rows.{Rows}
use Rattle.sets.specs.Sets.{bit_of, has}
use Rattle.sets.proofs.Bits.{or_bit, and_bit, xor_bit, no_bit, bit_lt, trailing_bit}
use Rattle.sets.proofs.Bools.{clash, or_cases, or_left, and_both, both_and, side}
use Rattle.sets.proofs.SetLaws.{high_off, has_lt}
use Rattle.route.specs.declared.turn.Turn.{Turn}
use Rattle.route.specs.Sweeps.{Word, Put, Joined, Advanced}
use Rattle.route.proofs.Members.{set_word}
use Rattle.route.proofs.Swept.{joined_start, joined_skip, joined_own}

-- ---- bits
two : (P : ℕ → ℕ → Type 0) → P 0 0 → P 0 1 → P 1 0 → P 1 1 → (x y : ℕ) → x < 2 → y < 2 → P x y
two P a b c d zero zero h k = a
two P a b c d zero (suc zero) h k = b
two P a b c d (suc zero) zero h k = c
two P a b c d (suc zero) (suc zero) h k = d
two P a b c d (suc (suc x)) y h k = absurd (omega arith)
two P a b c d zero (suc (suc y)) h k = absurd (omega arith)
two P a b c d (suc zero) (suc (suc y)) h k = absurd (omega arith)

-- a law of two bits is one of two words at each bit
bits_on : (f g : ℕ → ℕ → Bool) → f 0 0 ≡ g 0 0 → f 0 1 ≡ g 0 1 → f 1 0 ≡ g 1 0 → f 1 1 ≡ g 1 1
    → (a b j : ℕ) → f (bit_of a j) (bit_of b j) ≡ g (bit_of a j) (bit_of b j)
bits_on f g p q r s a b j = two (λ x y. f x y ≡ g x y) p q r s _ _ (bit_lt a j) (bit_lt b j)

and_on : (a b j : ℕ) → eqb (bit_of (bit_and a b) j) 1 ≡ (eqb (bit_of a j) 1 && eqb (bit_of b j) 1)
and_on a b j = rw (and_bit a b j) (bits_on (λ x y. eqb (bit_and x y) 1) (λ x y. eqb x 1 && eqb y 1) refl refl refl refl a b j)

or_on : (a b j : ℕ) → eqb (bit_of (bit_or a b) j) 1 ≡ (eqb (bit_of a j) 1 || eqb (bit_of b j) 1)
or_on a b j = rw (or_bit a b j) (bits_on (λ x y. eqb (bit_or x y) 1) (λ x y. eqb x 1 || eqb y 1) refl refl refl refl a b j)

-- a word without what it shares with another
less_on : (a b j : ℕ) → eqb (bit_of (bit_xor b (bit_and a b)) j) 1 ≡ (eqb (bit_of b j) 1 && not (eqb (bit_of (bit_and a b) j) 1))
less_on a b j =
    rw (xor_bit b (bit_and a b) j, and_bit a b j)
    (bits_on (λ x y. eqb (bit_xor y (bit_and x y)) 1) (λ x y. eqb y 1 && not (eqb (bit_and x y) 1)) refl refl refl refl a b j)

-- ---- words
module _ {S : ℕ → Bool} {i w : ℕ} (s : Word S i w) where
  word_at : (y : ℕ) → i * 64 ≤ y → y < i * 64 + 64 → S y ≡ eqb (bit_of w (y - i * 64)) 1
  word_at y h l = ap S (omega arith) ∙ s.bit (y - i * 64) (omega arith)

  word_none : w ≡ 0 → (y : ℕ) → i * 64 ≤ y → y < i * 64 + 64 → S y ≡ false
  word_none e y h l = word_at y h l ∙ ap (λ (v : ℕ). eqb (bit_of v (y - i * 64)) 1) e ∙ ap (λ (d : ℕ). eqb d 1) (no_bit (y - i * 64))

  word_some : w < 2 ^ 64 → (w ≡ 0 → ⊥) → (j : ℕ) × (j < 64) × (bit_of w j ≡ 1)
  word_some f n = let t = trailing_bit w (omega arith) f in (_, t.small, t.on)

-- a set with another word
pub put_word : (s : LocationSet) (i w : ℕ) → i < 4 → length s.words ≡ 4 → Put s i w (record { words = set s.words i w })
put_word s i w h n =
    record {
      here = record { bit = λ j l. (set_word r i h).bit j l ∙ ap (λ (v : ℕ). eqb (bit_of v j) 1) (get_or-set_same s.words i w 0 (omega arith)) };
      under = λ y l. other y (omega arith) (λ e. absurd (omega arith));
      above = λ y l. ⊎_elim (λ b. other y b (λ e. absurd (omega arith))) (λ b. high_off r y b ∙ sym (high_off s y b)) (side y 256);
    }
  where
    r : LocationSet
    r = record { words = set s.words i w }

    other : (y : ℕ) → y < 256 → (y / 64 ≡ i → ⊥) → has (record { words = set s.words i w }) y ≡ has s y
    other y l e =
        let d : y / 64 * 64 + y % 64 ≡ y = omega arith in
        let k : y / 64 < 4 = omega arith in
        let m : y % 64 < 64 = omega arith in
        ap (has (record { words = set s.words i w })) (sym d) ∙ (set_word (record { words = set s.words i w }) (y / 64) k).bit (y % 64) m
        ∙ ap (λ (v : ℕ). eqb (bit_of v (y % 64)) 1) (get_or-set_other s.words i (y / 64) w 0 e)
        ∙ sym ((set_word s (y / 64) k).bit (y % 64) m) ∙ ap (has s) d

all_kept : (t s : Bool) → s ≡ false → t ≡ (t && not s)
all_kept true s e = rw e
all_kept false s e = refl

-- ---- a turn
pub advanced_start : {rows : Rows} {N F : ℕ → Bool} (left out : LocationSet) → ((y : ℕ) → has out y ≡ false)
    → Advanced rows N F (has left) 0 (record { left = left; joined = out; any = 0 })
advanced_start left out e =
    record {
      taken = λ y h. absurd (omega arith);
      later = λ y h. refl;
      next = joined_start e;
      some = λ n. absurd (n refl);
      none = λ a y h. absurd (omega arith);
      apart = λ y h. absurd (omega arith);
    }

module _ {rows : Rows} {N F L : ℕ → Bool} (i : ℕ) {t : Turn} (u : Advanced rows N F L (i * 64) t) where
  -- the word of the new level
  pub level_word : {J : ℕ → Bool} (a : ℕ) → Word J i a → i < 4 → ((y : ℕ) → N y ≡ (J y && L y))
      → Word N i (bit_and a (get_or t.left.words i 0))
  level_word a s h n = record { bit = λ j l. n (i * 64 + j) ∙ ap₂ ◌&&◌ (s.bit j l) (stays j l) ∙ sym (and_on a (get_or t.left.words i 0) j) }
    where
      stays : (j : ℕ) → j < 64 → L (i * 64 + j) ≡ eqb (bit_of (get_or t.left.words i 0) j) 1
      stays j l = sym (u.later (i * 64 + j) (omega arith)) ∙ (set_word t.left i h).bit j l

  -- no location of the new level is in the word
  pub advanced_skip : {w : ℕ} → Word N i w → w ≡ 0 → Advanced rows N F L (i * 64 + 64) t
  advanced_skip s e =
      record {
        taken = λ y h. ⊎_elim (λ l. u.taken y l) (λ l. u.later y l ∙ all_kept (L y) (N y) (word_none s e y l h)) (side y (i * 64));
        later = λ y h. u.later y (omega arith);
        next = joined_skip u.next _ (omega arith) (λ z l h. word_none s e z l h);
        some = u.some;
        none = λ a y h. ⊎_elim (λ l. u.none a y l) (λ l. word_none s e y l h) (side y (i * 64));
        apart = λ y h p q. ⊎_elim (λ l. u.apart y l p q) (λ l. clash p (word_none s e y l h)) (side y (i * 64));
      }

  -- with its own word a set still has what the level is joined to
  pub level_own : {own : LocationSet} {w : ℕ} → Word N i w → i < 4 → Put t.joined i (bit_or (get_or t.joined.words i 0) w) own → Joined rows N (i * 64) own
  level_own {own} {w} s h p =
      joined_own u.next (λ y q f. from y q f (side y (i * 64)) (side y (i * 64 + 64))) (λ y q. to y q (side y (i * 64)) (side y (i * 64 + 64)))
    where
      both : (y : ℕ) → i * 64 ≤ y → y < i * 64 + 64 → has own y ≡ (has t.joined y || N y)
      both y k l =
          word_at p.here y k l ∙ or_on (get_or t.joined.words i 0) w (y - i * 64)
          ∙ ap₂ ◌||◌ (sym (word_at (set_word t.joined i h) y k l)) (sym (word_at s y k l))

      from : (y : ℕ) → has own y ≡ true → N y ≡ false → (y < i * 64) ⊎ (i * 64 ≤ y) → (y < i * 64 + 64) ⊎ (i * 64 + 64 ≤ y)
          → has t.joined y ≡ true
      from y q f (inl k) e = sym (p.under y k) ∙ q
      from y q f (inr k) (inl l) = ⊎_elim (λ a. a) (λ a. absurd (clash a f)) (or_cases (has t.joined y) (N y) (sym (both y k l) ∙ q))
      from y q f (inr k) (inr l) = sym (p.above y l) ∙ q

      to : (y : ℕ) → has t.joined y ≡ true → (y < i * 64) ⊎ (i * 64 ≤ y) → (y < i * 64 + 64) ⊎ (i * 64 + 64 ≤ y) → has own y ≡ true
      to y q (inl k) e = p.under y k ∙ q
      to y q (inr k) (inl l) = both y k l ∙ or_left (has t.joined y) (N y) q
      to y q (inr k) (inr l) = p.above y l ∙ q

  -- the word has locations of the new level
  module _ {J : ℕ → Bool} (a f : ℕ) (sj : Word J i a) (sf : Word F i f) (h : i < 4) (n : (y : ℕ) → N y ≡ (J y && L y)) (fit : a < 2 ^ 64) where
    s : Word N i (bit_and a (get_or t.left.words i 0))
    s = level_word a sj h n

    small : bit_and a (get_or t.left.words i 0) < 2 ^ 64
    small = let l = and_le_l a (get_or t.left.words i 0) in omega arith

    both : Word (λ y. N y && F y) i (bit_and (bit_and a (get_or t.left.words i 0)) f)
    both = record { bit = λ j l. ap₂ ◌&&◌ (s.bit j l) (sf.bit j l) ∙ sym (and_on (bit_and a (get_or t.left.words i 0)) f j) }

    -- one of which is the other end's too
    pub level_meets : (bit_and (bit_and a (get_or t.left.words i 0)) f ≡ 0 → ⊥) → (y : ℕ) × (N y ≡ true) × (F y ≡ true)
    level_meets m =
        let l = and_le_l (bit_and a (get_or t.left.words i 0)) f in
        let k = small in
        let b = word_some both (omega arith) m in
        let r = and_both (N (i * 64 + b.0)) (F (i * 64 + b.0)) (both.bit b.0 b.1 ∙ eq-eqb _ 1 b.2) in
        (i * 64 + b.0, r.0, r.1)

    -- none of which is
    pub advanced_more : {left' out' : LocationSet} → (bit_and a (get_or t.left.words i 0) ≡ 0 → ⊥) → bit_and (bit_and a (get_or t.left.words i 0)) f ≡ 0
        → Put t.left i (bit_xor (get_or t.left.words i 0) (bit_and a (get_or t.left.words i 0))) left' → Joined rows N (i * 64 + 64) out'
        → Advanced rows N F L (i * 64 + 64) (record { left = left'; joined = out'; any = bit_and a (get_or t.left.words i 0) })
    advanced_more {left'} some z p o =
        record {
          taken = λ y l. ⊎_elim (λ k. p.under y k ∙ u.taken y k) (λ k. loses y k l) (side y (i * 64));
          later = λ y l. p.above y l ∙ u.later y (omega arith);
          next = o;
          some = λ _. let b = word_some s small some in (i * 64 + b.0, s.bit b.0 b.1 ∙ eq-eqb _ 1 b.2);
          none = λ e. absurd (some e);
          apart = λ y l q r. ⊎_elim (λ k. u.apart y k q r) (λ k. clash (both_and (N y) (F y) q r) (word_none both z y k l)) (side y (i * 64));
        }
      where
        loses : (y : ℕ) → i * 64 ≤ y → y < i * 64 + 64 → has left' y ≡ (L y && not (N y))
        loses y k l =
            word_at p.here y k l ∙ less_on a (get_or t.left.words i 0) (y - i * 64)
            ∙ ap₂ (λ (p q : Bool). p && not q) (sym (word_at (set_word t.left i h) y k l) ∙ u.later y k) (sym (word_at s y k l))

-- ---- the whole turn
pub level_left : {N : ℕ → Bool} (J L : ℕ → Bool) → ((y : ℕ) → N y ≡ (J y && L y)) → (y : ℕ) → N y ≡ true
    → (J y ≡ true) × (L y ≡ true)
level_left J L n y q = and_both (J y) (L y) (sym (n y) ∙ q)

module _ {rows : Rows} {N F : ℕ → Bool} (J : ℕ → Bool) (before : LocationSet) {t : Turn}
    (n : (y : ℕ) → N y ≡ (J y && has before y))
    (u : Advanced rows N F (has before) 256 t) where
  pub level_lt : (y : ℕ) → N y ≡ true → y < 256
  level_lt y q = has_lt before y (level_left J (has before) n y q).1

  pub all_taken : (y : ℕ) → has t.left y ≡ (has before y && not (N y))
  all_taken y = ⊎_elim (λ h. u.taken y h) (λ h. high_off t.left y h ∙ sym (gone (high_off before y h))) (side y 256)
    where
      gone : has before y ≡ false → (has before y && not (N y)) ≡ false
      gone e = rw e

  pub level_none : t.any ≡ 0 → (y : ℕ) → has before y ≡ true → J y ≡ true → ⊥
  level_none a y l j = clash (n y ∙ both_and (J y) (has before y) j l) (u.none a y (has_lt before y l))

  pub level_apart : (y : ℕ) → N y ≡ true → F y ≡ true → ⊥
  level_apart y q r = u.apart y (level_lt y q) q r
