-- The invariant: it is one end's turn, m levels are there, and the levels and the locations that are left are no more than the device has.
use mathlib.Core.Path.{◌≡◌}
use Prim.Native.Nat.{ℕ, ◌+◌, ◌≤◌}
use Rattle.rules.specs.Region.{Region, joined}
use Rattle.sets.specs.Sets.{has}
use Rattle.device.specs.Reader.{RowsOf}
use Rattle.route.proofs.Sizes.{count}
use Rattle.route.proofs.Turns.{Turns}
use Rattle.route.proofs.distance.Given as goal

abbrev pub invariant-loop-turn : goal.invariant-loop-turn
invariant-loop-turn l = (m : ℕ) × (l.k ≡ m + 1) × (m + count (has l.left) 256 ≤ 255)
    × ((R : Region) → RowsOf R l.rows → Turns (joined R) (has l.initial.left) l.a l.b (has l.joined) (has l.other) (has l.left) m)

abbrev pub decreases-loop-turn : goal.decreases-loop-turn
decreases-loop-turn l = count (has l.left) 256
