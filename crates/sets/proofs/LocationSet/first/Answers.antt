use Rattle.sets.proofs.FirstLaws.{first_of_all}
use Rattle.sets.proofs.LocationSet.first.Goals as goal

pub returns : goal.returns
returns c = first_of_all _ _ c.first_from.ensures
