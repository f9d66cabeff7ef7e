-- Bit by bit, in each of the four words.
use Rattle.sets.proofs.SetLaws.{common_has}
use borrow.Author.Rules.{rules}
use Rattle.sets.proofs.LocationSet.common.Goals as goal

pub returns : goal.returns
returns c = common_has _ _ _ (λ i h. search rules) (λ i h. let e = c.zip_with.ensures i h in search rules)
