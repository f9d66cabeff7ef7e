-- The constructor of a device header answers 4 at the field whose number is outside its limits, n before e.
use borrow.Author.Tests.{le-leb, lt-leb}
use Rattle.answers.specs.Check.{◌>>=◌, ◌>>◌}
use Rattle.rules.proofs.device.DeviceHeader.new.Goals as goal

pub returns-then-locations-lt-FEWEST_LOCATIONS : goal.returns-then-locations-lt-FEWEST_LOCATIONS
unfolding ◌>>=◌ ◌>>◌
returns-then-locations-lt-FEWEST_LOCATIONS c = rw (c.at.ensures, lt-leb 1 _ c.if-locations-lt-FEWEST_LOCATIONS.true)

pub returns-then-locations-gt-MOST_LOCATIONS : goal.returns-then-locations-gt-MOST_LOCATIONS
unfolding ◌>>=◌ ◌>>◌
returns-then-locations-gt-MOST_LOCATIONS c = rw (c.at-then-locations-gt-MOST_LOCATIONS.ensures, le-leb 1 _ c.if-locations-lt-FEWEST_LOCATIONS.false, lt-leb _ 256 c.if-locations-gt-MOST_LOCATIONS.true)

pub returns-then-edges-gt-MOST_EDGES : goal.returns-then-edges-gt-MOST_EDGES
unfolding ◌>>=◌ ◌>>◌
returns-then-edges-gt-MOST_EDGES c = rw (c.at-then-edges-gt-MOST_EDGES.ensures, le-leb 1 _ c.if-locations-lt-FEWEST_LOCATIONS.false, le-leb _ 256 c.if-locations-gt-MOST_LOCATIONS.false, lt-leb _ 1024 c.if-edges-gt-MOST_EDGES.true)

pub returns : goal.returns
unfolding ◌>>=◌ ◌>>◌
returns c = rw (le-leb 1 _ c.if-locations-lt-FEWEST_LOCATIONS.false, le-leb _ 256 c.if-locations-gt-MOST_LOCATIONS.false, le-leb _ 1024 c.if-edges-gt-MOST_EDGES.false)
