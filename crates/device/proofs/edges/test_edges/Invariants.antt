-- The invariant: the edges not yet tested, after the one before them, decide as all of them do.
use mathlib.Core.Option.{none}
use mathlib.Core.Path.{◌≡◌}
use Prim.Native.Nat.{◌+◌, ◌-◌, ◌*◌}
use Rattle.rules.specs.Device.{edges}
use Rattle.device.specs.Parts.{tested, edge_before}
use Rattle.device.proofs.edges.test_edges.Given as goal

abbrev pub invariant-loop-i : goal.invariant-loop-i
invariant-loop-i l = tested (edges l.s l.n none l.start l.e) ≡ tested (edges l.s l.n (edge_before l.s l.start l.i) (l.start + 2 * l.i) (l.e - l.i))
