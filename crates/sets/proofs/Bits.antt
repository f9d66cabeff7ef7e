-- Laws of bits: what the union, the common part and the difference of words, a bit set, a bit cleared and the lowest bit come to at bit j. Those of two
-- words go through at each bit since they go through shifts and remainders; those of one bit are the library's.
use mathlib.Core.Bool.{Bool, true, false, not}
use mathlib.Core.Path.{◌≡◌, refl, ap, ◌∙◌}
use native.Mathlib.Decide.{ℕ_discrete}
use native.Mathlib.Nat.{div-eq_of_lt}
use native.Mathlib.Omega.{arith}
use Prim.Native.Nat.{ℕ, zero, suc, ◌-◌, ◌*◌, ◌/◌, ◌%◌, ◌^◌, ◌<◌}
use borrow.Author.Tests.{eq-eqb, ne_eqb}
use lib.Bits.{bit_and, bit_or, bit_xor, or_shr, or_mod, xor_shr, xor_mod, and_shr, and_mod, or_zero_r, and_zero_r}
use lib.Dec.{eqb}
use lib.Pow.{pow_pos}
use mir.Syntax.{w64}
use Rattle.std.specs.Int.{bit_not, trailing_zeros}
use Rattle.std.proofs.lemmas.Nat.Bits.{bit_at-pow_same, bit_at-pow_other, and_pow, bit_at_not, bit_at-trailing_zeros}
use Rattle.sets.specs.Sets.{bit_of, Lowest}

abbrev pub pick_n : Bool → ℕ → ℕ → ℕ
pick_n true a b = a
pick_n false a b = b

pub or_bit : (a b j : ℕ) → bit_of (bit_or a b) j ≡ bit_or (bit_of a j) (bit_of b j)
unfolding bit_of
or_bit a b j = rw (or_shr a b j) (or_mod (a / 2 ^ j) (b / 2 ^ j) 1)

pub and_bit : (a b j : ℕ) → bit_of (bit_and a b) j ≡ bit_and (bit_of a j) (bit_of b j)
unfolding bit_of
and_bit a b j = rw (and_shr a b j) (and_mod (a / 2 ^ j) (b / 2 ^ j) 1)

pub xor_bit : (a b j : ℕ) → bit_of (bit_xor a b) j ≡ bit_xor (bit_of a j) (bit_of b j)
unfolding bit_of
xor_bit a b j = rw (xor_shr a b j) (xor_mod (a / 2 ^ j) (b / 2 ^ j) 1)

pub bit_lt : (a j : ℕ) → bit_of a j < 2
unfolding bit_of
bit_lt a j = omega arith

pub no_bit : (j : ℕ) → bit_of 0 j ≡ 0
unfolding bit_of
no_bit j = ap (λ (x : ℕ). x % 2) (div-eq_of_lt (pow_pos j))

-- the bits that a word has not, among its 64
pub not_bit : (a j : ℕ) → a < 2 ^ 64 → j < 64 → bit_of (bit_not w64 a) j ≡ 1 - bit_of a j
unfolding bit_of
not_bit a j h k = bit_at_not w64 a j h k

-- a word of one bit
pub one_bit : (i j : ℕ) → bit_of (2 ^ i) j ≡ pick_n (eqb j i) 1 0
unfolding bit_of
one_bit i j = go (ℕ_discrete j i)
  where
    go : Dec (j ≡ i) → bit_of (2 ^ i) j ≡ pick_n (eqb j i) 1 0
    go (yes e) = rw (eq-eqb j i e, e) (bit_at-pow_same i)
    go (no n) = rw (ne_eqb j i n) (bit_at-pow_other i j n)

or_pick : (t : Bool) (b : ℕ) → b < 2 → bit_or b (pick_n t 1 0) ≡ pick_n t 1 b
or_pick true zero h = refl
or_pick true (suc zero) h = refl
or_pick true (suc (suc b)) h = absurd (omega arith)
or_pick false b h = or_zero_r b

-- a bit set
pub with_bit : (x i j : ℕ) → bit_of (bit_or x (2 ^ i)) j ≡ pick_n (eqb j i) 1 (bit_of x j)
with_bit x i j = or_bit x (2 ^ i) j ∙ rw (one_bit i j) (or_pick (eqb j i) (bit_of x j) (bit_lt x j))

and_pick : (t : Bool) (b : ℕ) → b < 2 → bit_and b (1 - pick_n t 1 0) ≡ pick_n t 0 b
and_pick true b h = and_zero_r b
and_pick false zero h = refl
and_pick false (suc zero) h = refl
and_pick false (suc (suc b)) h = absurd (omega arith)

-- a bit cleared
pub without_bit : (x i j : ℕ) → 2 ^ i < 2 ^ 64 → j < 64 → bit_of (bit_and x (bit_not w64 (2 ^ i))) j ≡ pick_n (eqb j i) 0 (bit_of x j)
without_bit x i j h k = and_bit x _ j ∙ rw (not_bit (2 ^ i) j h k, one_bit i j) (and_pick (eqb j i) (bit_of x j) (bit_lt x j))

test_bit : (b p : ℕ) → b < 2 → 0 < p → not (eqb (b * p) 0) ≡ eqb b 1
test_bit zero p h k = rw (eq-eqb (0 * p) 0 (omega arith))
test_bit (suc zero) p h k = rw (ne_eqb (1 * p) 0 (omega arith))
test_bit (suc (suc b)) p h k = absurd (omega arith)

-- a bit asked
pub has_bit : (x i : ℕ) → not (eqb (bit_and x (2 ^ i)) 0) ≡ eqb (bit_of x i) 1
unfolding bit_of
has_bit x i = rw (and_pow x i) (test_bit (bit_of x i) (2 ^ i) (bit_lt x i) (pow_pos i))

-- the number of trailing zeros is the place of the lowest bit
pub trailing_bit : (n : ℕ) → 0 < n → n < 2 ^ 64 → Lowest n (trailing_zeros w64 n)
unfolding bit_of
trailing_bit n h l = let t = bit_at-trailing_zeros w64 n h l in record { small = t.0; on = t.1; below = t.2 }
