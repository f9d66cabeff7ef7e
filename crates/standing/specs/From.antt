-- What is left of a statement's line.
use Rattle.std.specs.Prelude.{List, ◌∷◌, ◌++◌, ℕ, eqb}
use Rattle.rules.specs.declared.statements.Operand.{Operand}
use Rattle.rules.specs.Basics.{chosen}
use Rattle.rules.specs.Table.{Row}
use Rattle.rules.specs.Grammar.{Grammar}
use Rattle.rules.specs.Unlisting.{Sofar, others, operands, made}

-- The line from operand number n of statement b on: its operands os are still to come, xs are the bytes of those before, f the first of them.
unfoldable pub from_operand : Sofar → Row → ℕ → ℕ → ℕ → List Operand → List ℕ → Grammar Sofar
from_operand p row b n f os xs = chosen (eqb n 1) (operands p.scope os λ ys. made p row.meaning (b ∷ ys))
    (others p.scope f os λ ys. made p row.meaning (b ∷ (xs ++ ys)))
