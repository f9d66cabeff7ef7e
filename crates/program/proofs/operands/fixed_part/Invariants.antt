-- The operands before the one that the loop is at are in range; at its end all are.
use Rattle.rules.specs.Basics.{byte}
use Rattle.rules.specs.Program.{Scope}
use Rattle.program.specs.Reader.{Behind}
use Rattle.program.proofs.OperandLaws.{Goods}
use Rattle.program.proofs.operands.fixed_part.Given as goal

abbrev pub invariant-loop-n : goal.invariant-loop-n
invariant-loop-n l = (S : Scope) → Behind S l.scope → Goods l.s S l.at (byte l.s l.at) l.n
