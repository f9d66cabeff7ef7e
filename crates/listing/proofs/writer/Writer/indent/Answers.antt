use Rattle.std.proofs.Common.{sym}
use Rattle.listing.proofs.Putting.{puts_as, puts_then}
use Rattle.listing.proofs.LineLaws.{spaces_next}
use Rattle.listing.proofs.writer.Writer.indent.Goals as goal

pub loop-preserved : goal.loop-preserved
loop-preserved c = puts_as (sym (spaces_next c.loop.counter)) (puts_then c.loop.invariant c.characters.ensures)
