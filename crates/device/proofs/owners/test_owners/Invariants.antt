-- The invariant: the bytes not yet tested decide as all of them do.
use mathlib.Core.Path.{◌≡◌}
use Prim.Native.Nat.{◌+◌, ◌-◌}
use Rattle.rules.specs.Device.{owners}
use Rattle.device.specs.Parts.{tested}
use Rattle.device.proofs.owners.test_owners.Given as goal

abbrev pub invariant-loop-i : goal.invariant-loop-i
invariant-loop-i l = tested (owners l.s 9 l.n) ≡ tested (owners l.s (9 + l.i) (l.n - l.i))
