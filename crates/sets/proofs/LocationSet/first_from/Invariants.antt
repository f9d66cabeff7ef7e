-- The invariant: no member from the start to the word that comes next.
use Prim.Native.Nat.{◌*◌}
use Rattle.sets.proofs.FirstLaws.{NoneBefore}
use Rattle.sets.proofs.LocationSet.first_from.Given as goal

abbrev pub invariant-loop-i : goal.invariant-loop-i
invariant-loop-i l = NoneBefore l.self l.start (l.i * 64)
