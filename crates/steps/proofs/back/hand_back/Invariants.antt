-- From the last argument to the first.
use Rattle.steps.proofs.Returning.{Back}
use Rattle.steps.proofs.back.hand_back.Given as goal

abbrev pub invariant-loop-i : goal.invariant-loop-i
invariant-loop-i l = Back l.given l.callee l.initial.slots l.i l.slots
