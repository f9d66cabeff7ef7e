-- The invariant: m levels are there, the newest and what is left make up what was left before, and the hops lead down the levels.
use mathlib.Core.Bool.{true, false}
use mathlib.Core.Path.{◌≡◌}
use Prim.Native.Nat.{ℕ, ◌+◌, ◌≤◌}
use Rattle.rules.specs.Region.{Region, joined}
use Rattle.sets.specs.Sets.{has}
use Rattle.device.specs.Reader.{RowsOf}
use Rattle.route.proofs.Hunt.{Hunt, whole}
use Rattle.route.proofs.Sizes.{count}
use Rattle.route.proofs.search.search.Given as goal

abbrev pub invariant-loop-k : goal.invariant-loop-k
invariant-loop-k l = (m : ℕ) × (l.k ≡ m + 1) × (m + count (whole l.front.left l.front.next) 256 ≤ 255)
    × ((y : ℕ) → has l.front.next y ≡ true → has l.front.left y ≡ false)
    × ((R : Region) → RowsOf R l.rows
    → Hunt (joined R) (whole l.initial.front.left l.initial.front.next) l.a l.b (has l.first) l.front.left l.front.next l.hop m)
