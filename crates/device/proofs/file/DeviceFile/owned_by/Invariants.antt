-- The invariant: the set has those of the locations before x whose owner byte names the job.
use mathlib.Core.Bool.{◌&&◌}
use mathlib.Core.Path.{◌≡◌}
use Prim.Native.Nat.{ℕ}
use lib.Dec.{ltb}
use Rattle.sets.specs.Sets.{has}
use Rattle.device.specs.Parts.{owned_by}
use Rattle.device.proofs.file.DeviceFile.owned_by.Given as goal

abbrev pub invariant-loop-x : goal.invariant-loop-x
invariant-loop-x l = (y : ℕ) → has l.owned y ≡ (ltb y l.x && owned_by l.self.bytes.now l.job y)
