-- One bit of one word is set.
use Rattle.sets.proofs.SetLaws.{add_has}
use borrow.Author.Rules.{rules}
use Rattle.sets.proofs.LocationSet.insert.Goals as goal

pub returns : goal.returns
returns c = rw (c.word_of.ensures, c.bit.ensures) (add_has c.args.self.now c.args.x (search rules) (search rules))
