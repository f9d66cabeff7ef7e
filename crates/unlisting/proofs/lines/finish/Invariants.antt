-- Blocks end while one is open and no else is due; then the header is put.
use Rattle.unlisting.proofs.Ending.{Ending}
use Rattle.unlisting.proofs.lines.finish.Given as goal

abbrev pub invariant-loop-c : goal.invariant-loop-c
invariant-loop-c l = Ending l.initial.c l.initial.out l.c l.out

abbrev pub decreases-loop-c : goal.decreases-loop-c
decreases-loop-c l = l.c.depth
