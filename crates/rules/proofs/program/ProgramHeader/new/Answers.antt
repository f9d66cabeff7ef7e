-- The constructor of a program header answers 4 at f where there are more than 15 functions.
use borrow.Author.Tests.{le-leb, lt-leb}
use Rattle.answers.specs.Check.{◌>>=◌, ◌>>◌}
use Rattle.rules.proofs.program.ProgramHeader.new.Goals as goal

pub returns-then-functions-gt-MOST_FUNCTIONS : goal.returns-then-functions-gt-MOST_FUNCTIONS
unfolding ◌>>=◌ ◌>>◌
returns-then-functions-gt-MOST_FUNCTIONS c = rw (c.at.ensures, lt-leb _ 15 c.if-functions-gt-MOST_FUNCTIONS.true)

pub returns : goal.returns
unfolding ◌>>=◌ ◌>>◌
returns c = rw (le-leb _ 15 c.if-functions-gt-MOST_FUNCTIONS.false)
