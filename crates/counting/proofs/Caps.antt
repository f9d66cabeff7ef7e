-- Sums of capped counts: a cap inside a sum changes nothing once the sum is capped, so counts may be added one by one and capped each time.
use mathlib.Core.Path.{◌≡◌}
use native.Mathlib.Omega.{arith}
use Prim.Native.Nat.{ℕ, ◌+◌, ◌≤◌}
use Rattle.counting.specs.Counting.{cap}

pub cap_small : (a : ℕ) → a ≤ 65536 → a ≡ cap a
cap_small a h = omega arith

-- a count c and what is left, y and z: y is counted too
pub cap_step : (x c y z y' c' : ℕ) → cap x ≡ cap (c + (y + z)) → y' ≡ cap y → c' ≡ cap (c + y') → cap x ≡ cap (c' + z)
cap_step x c y z y' c' h e i = omega arith

-- nothing is left
pub cap_last : (x c : ℕ) → cap x ≡ cap (c + 0) → c ≤ 65536 → c ≡ cap x
cap_last x c h l = omega arith

-- one more than a count, and than two
pub cap_one : (x a a' n : ℕ) → x ≡ 1 + a → a' ≡ cap a → n ≡ cap (1 + a') → n ≡ cap x
cap_one x a a' n e f i = omega arith

pub cap_two : (x a b a' b' k n : ℕ) → x ≡ 1 + a + b → a' ≡ cap a → b' ≡ cap b → k ≡ cap (a' + b') → n ≡ cap (1 + k) → n ≡ cap x
cap_two x a b a' b' k n e f g h i = omega arith
