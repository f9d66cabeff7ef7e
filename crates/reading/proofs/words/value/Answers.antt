-- By the cases of the kind.
use borrow.Author.Rules.{rules}
use Rattle.reading.proofs.Written.{other_valued}
use Rattle.reading.proofs.words.value.Goals as goal

pub returns-in_default : goal.returns-in_default
returns-in_default c = other_valued _ (search rules) (c.in_default.not-Gate, c.in_default.not-Basis) _ _ c.number.ensures
