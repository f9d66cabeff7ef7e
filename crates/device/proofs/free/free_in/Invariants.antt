-- The invariant: the set of taken locations has those before x.
use mathlib.Core.Bool.{◌&&◌}
use mathlib.Core.Path.{◌≡◌}
use Prim.Native.Nat.{ℕ}
use lib.Dec.{ltb}
use Rattle.sets.specs.Sets.{has}
use Rattle.device.proofs.FreeLaws.{taken_by}
use Rattle.device.proofs.free.free_in.Given as goal

abbrev pub invariant-loop-x : goal.invariant-loop-x
invariant-loop-x l = (y : ℕ) → has l.taken y ≡ (ltb y l.x && taken_by l.occupancy y)
