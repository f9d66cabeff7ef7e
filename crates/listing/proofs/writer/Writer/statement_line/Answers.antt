use Rattle.listing.proofs.Putting.{puts_then}
use Rattle.listing.proofs.writer.Writer.statement_line.Goals as goal

pub returns : goal.returns
returns c = puts_then c.fixed_part.ensures c.character.ensures
