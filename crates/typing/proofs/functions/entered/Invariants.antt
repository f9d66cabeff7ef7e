-- The slots below i hold the arguments.
use Rattle.typing.proofs.Entries.{Entering}
use Rattle.typing.proofs.functions.entered.Given as goal

abbrev pub invariant-loop-i : goal.invariant-loop-i
invariant-loop-i l = Entering l.initial.env.free l.i l.env
