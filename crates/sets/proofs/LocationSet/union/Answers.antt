-- Bit by bit, in each of the four words.
use Rattle.sets.proofs.SetLaws.{union_has}
use borrow.Author.Rules.{rules}
use Rattle.sets.proofs.LocationSet.union.Goals as goal

pub returns : goal.returns
returns c = union_has _ _ _ (λ i h. search rules) (λ i h. let e = c.zip_with.ensures i h in search rules)
