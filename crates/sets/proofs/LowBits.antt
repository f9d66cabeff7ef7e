-- A word taken by its bits from the lowest on. One less than a word has no lowest bit, all bits below it, and above it the word's own: by halving. So the
-- common part of the two is the word without its lowest bit.
use mathlib.Core.Logic.{⊎_elim}
use mathlib.Core.Path.{◌≡◌, sym, ap, ◌∙◌}
use native.Mathlib.Nat.{div-one}
use native.Mathlib.Numerals.{one-add}
use native.Mathlib.Omega.{arith}
use Prim.Native.Nat.{ℕ, zero, suc, ◌-◌, ◌/◌, ◌%◌, ◌<◌}
use lib.Bits.{bit_and, and_zero_l, and_zero_r, and_self, and_le_r}
use lib.Pow.{shr-shr}
use Rattle.sets.specs.Sets.{bit_of, Cleared}
use Rattle.sets.proofs.Bits.{and_bit}
use Rattle.sets.proofs.Bools.{side}

half_bit : (w j : ℕ) → bit_of w (suc j) ≡ bit_of (w / 2) j
unfolding bit_of
half_bit w j = rw (← one-add j) (ap (λ (x : ℕ). x % 2) (sym (shr-shr w 1 j)))

zero_bit : (w : ℕ) → bit_of w 0 ≡ w % 2
unfolding bit_of
zero_bit w = ap (λ (x : ℕ). x % 2) (div-one w)

one_less : (t w : ℕ) → bit_of w t ≡ 1 → ((j : ℕ) → j < t → bit_of w j ≡ 0)
    → (bit_of (w - 1) t ≡ 0) × ((j : ℕ) → t < j → bit_of (w - 1) j ≡ bit_of w j)
one_less zero w on below = (zero_bit (w - 1) ∙ (omega (arith, odd)), above)
  where
    odd : w % 2 ≡ 1
    odd = sym (zero_bit w) ∙ on

    half : (w - 1) / 2 ≡ w / 2
    half = omega (arith, odd)

    above : (j : ℕ) → 0 < j → bit_of (w - 1) j ≡ bit_of w j
    above zero h = absurd (omega arith)
    above (suc j) h = half_bit (w - 1) j ∙ ap (λ (x : ℕ). bit_of x j) half ∙ sym (half_bit w j)
one_less (suc t) w on below = go (one_less t (w / 2) (sym (half_bit w t) ∙ on) (λ j h. sym (half_bit w j) ∙ below (suc j) (omega arith)))
  where
    half : (w - 1) / 2 ≡ w / 2 - 1
    half = let e : w % 2 ≡ 0 = sym (zero_bit w) ∙ below 0 (omega arith) in omega arith

    go : (bit_of (w / 2 - 1) t ≡ 0) × ((j : ℕ) → t < j → bit_of (w / 2 - 1) j ≡ bit_of (w / 2) j)
        → (bit_of (w - 1) (suc t) ≡ 0) × ((j : ℕ) → suc t < j → bit_of (w - 1) j ≡ bit_of w j)
    go r = (half_bit (w - 1) t ∙ ap (λ (x : ℕ). bit_of x t) half ∙ r.0, above)
      where
        above : (j : ℕ) → suc t < j → bit_of (w - 1) j ≡ bit_of w j
        above zero h = absurd (omega arith)
        above (suc j) h = half_bit (w - 1) j ∙ ap (λ (x : ℕ). bit_of x j) half ∙ r.1 j (omega arith) ∙ sym (half_bit w j)

pub cleared : (w : ℕ) → 0 < w → Cleared w (bit_and w (w - 1))
cleared w p =
    record {
      less = let l = and_le_r w (w - 1) in omega arith;
      off = λ t l. and_bit w (w - 1) t ∙ rw (one_less t w l.on l.below).0 (and_zero_r (bit_of w t));
      same = λ t j l n. ⊎_elim
          (λ h. and_bit w (w - 1) j ∙ rw (l.below j h) (and_zero_l (bit_of (w - 1) j)))
          (λ h. and_bit w (w - 1) j ∙ rw ((one_less t w l.on l.below).1 j (omega arith)) (and_self (bit_of w j)))
          (side j t);
    }
