-- The invariant: the members in the words before word i are done.
use Prim.Native.Nat.{◌*◌}
use Rattle.sets.specs.Sets.{has}
use Rattle.route.specs.Sweeps.{Spread}
use Rattle.route.proofs.front.further.Given as goal

abbrev pub invariant-loop-i : goal.invariant-loop-i
invariant-loop-i l = Spread l.rows (has l.from.next) (l.i * 64) (has l.from.left) l.initial.hop l.front.left l.front.next l.hop
