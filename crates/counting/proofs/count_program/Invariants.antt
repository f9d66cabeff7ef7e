-- The functions in their order, then main.
use Rattle.counting.proofs.Whole.{Before}
use Rattle.counting.proofs.count_program.Given as goal

abbrev pub invariant-loop-f : goal.invariant-loop-f
invariant-loop-f l = Before l.body l.f l.memory
