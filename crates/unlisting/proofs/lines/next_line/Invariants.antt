-- From the innermost block outwards: while blocks are open, the lines offered are those of the program with the blocks inside closed (Reaches). The line is
-- then a statement of the innermost block, its else, or, with no block open, a line outside functions; each answer there is the one for any line.
use Rattle.unlisting.proofs.Outward.{Reaches}
use Rattle.unlisting.proofs.lines.next_line.Given as goal

abbrev pub invariant-loop-c : goal.invariant-loop-c
invariant-loop-c l = Reaches l.line.text.now l.at l.line.end l.line.stop l.initial.c l.initial.out l.c l.out

abbrev pub decreases-loop-c : goal.decreases-loop-c
decreases-loop-c l = l.c.depth
