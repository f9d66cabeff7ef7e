-- The slots below x are closed.
use Rattle.typing.proofs.BlockEnds.{Narrowing}
use Rattle.typing.proofs.env.Env.narrowed.Given as goal

abbrev pub invariant-loop-x : goal.invariant-loop-x
invariant-loop-x l = Narrowing l.entry l.fn.self l.slots l.x
