-- Four words of zero have no bit.
use Rattle.sets.proofs.SetLaws.{zero_has, zeros_at}
use Rattle.sets.proofs.LocationSet.empty.Goals as goal

pub returns : goal.returns
returns c = λ y. zero_has _ y (zeros_at 4)
