-- One bit of one word is cleared.
use Rattle.sets.proofs.SetLaws.{remove_has}
use borrow.Author.Rules.{rules}
use Rattle.sets.proofs.LocationSet.erase.Goals as goal

pub returns : goal.returns
returns c = rw (c.word_of.ensures, c.bit.ensures) (remove_has c.args.self.now c.args.x (search rules) (search rules))
