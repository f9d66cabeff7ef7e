-- The bit of the number in its word.
use Rattle.sets.proofs.SetLaws.{contains_has}
use borrow.Author.Rules.{rules}
use Rattle.sets.proofs.LocationSet.contains.Goals as goal

pub returns : goal.returns
returns c = rw (c.word_of.ensures, c.bit.ensures) (contains_has c.args.self c.args.x (search rules))
