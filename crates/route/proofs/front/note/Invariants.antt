-- The invariant: the members in the words before word i are noted.
use Prim.Native.Nat.{◌*◌}
use Rattle.sets.specs.Sets.{has}
use Rattle.route.specs.Sweeps.{Noted}
use Rattle.route.proofs.front.note.Given as goal

abbrev pub invariant-loop-i : goal.invariant-loop-i
invariant-loop-i l = Noted (has l.s) l.v (l.i * 64) l.initial.hop l.hop
