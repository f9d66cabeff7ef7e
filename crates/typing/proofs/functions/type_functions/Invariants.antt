-- The functions below f are typed.
use Rattle.program.specs.In.{ProgramIn}
use Rattle.program.specs.Reader.{Heads}
use Rattle.rules.specs.Syntax.{Program}
use Rattle.typing.proofs.FunctionTypes.{Upto}
use Rattle.typing.proofs.functions.type_functions.Given as goal

abbrev pub invariant-loop-f : goal.invariant-loop-f
invariant-loop-f l = (p : Program) → ProgramIn l.s p → Heads p.functions l.functions → Upto p.functions l.f l.endings
