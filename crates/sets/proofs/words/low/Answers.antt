-- The number of trailing zeros is the place of the lowest bit.
use Rattle.sets.proofs.Bits.{trailing_bit}
use Rattle.sets.proofs.words.low.Goals as goal

pub returns : goal.returns
returns c = trailing_bit _ c.requires c.ranges.w.fits
