-- The constructor of a function header answers 4 at k over 16, then 4 at m over 8 or over k.
use borrow.Author.Tests.{le-leb, lt-leb}
use Rattle.answers.specs.Check.{◌>>=◌, ◌>>◌}
use Rattle.rules.proofs.program.FunctionHeader.new.Goals as goal

pub returns-then-locations-gt-MOST_LOCATIONS : goal.returns-then-locations-gt-MOST_LOCATIONS
unfolding ◌>>=◌ ◌>>◌
returns-then-locations-gt-MOST_LOCATIONS c = rw (c.at.ensures, lt-leb _ 16 c.if-locations-gt-MOST_LOCATIONS.true)

pub returns-then-arguments-gt-MOST_ARGUMENTS : goal.returns-then-arguments-gt-MOST_ARGUMENTS
unfolding ◌>>=◌ ◌>>◌
returns-then-arguments-gt-MOST_ARGUMENTS c = rw (c.at-then-arguments-gt-MOST_ARGUMENTS.ensures, le-leb _ 16 c.if-locations-gt-MOST_LOCATIONS.false, lt-leb _ 8 c.if-arguments-gt-MOST_ARGUMENTS.true)

pub returns-then-locations-arguments : goal.returns-then-locations-arguments
unfolding ◌>>=◌ ◌>>◌
returns-then-locations-arguments c = rw (c.at-then-locations-arguments.ensures, le-leb _ 16 c.if-locations-gt-MOST_LOCATIONS.false, le-leb _ 8 c.if-arguments-gt-MOST_ARGUMENTS.false, lt-leb c.args.arguments c.args.locations c.if-locations-arguments.true)

pub returns : goal.returns
unfolding ◌>>=◌ ◌>>◌
returns c = rw (le-leb _ 16 c.if-locations-gt-MOST_LOCATIONS.false, le-leb _ 8 c.if-arguments-gt-MOST_ARGUMENTS.false, le-leb c.args.arguments c.args.locations c.if-locations-arguments.false)
