use Rattle.listing.proofs.Putting.{puts_as, puts_then}
use Rattle.listing.proofs.LineLaws.{call_text}
use Rattle.listing.proofs.writer.Writer.call_line.Goals as goal

pub returns : goal.returns
returns c =
    puts_as (call_text c.args.s.now c.args.depth c.args.at c.requires.1)
    (puts_then (puts_then c.fixed_part.ensures (puts_then c.list.ensures c.list-2.ensures)) c.character.ensures)
