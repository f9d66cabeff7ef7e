-- Each argument in turn.
use Rattle.steps.proofs.Entering.{Bound}
use Rattle.steps.proofs.call.callee.Given as goal

abbrev pub invariant-loop-i : goal.invariant-loop-i
invariant-loop-i l = Bound l.places l.i l.slots
