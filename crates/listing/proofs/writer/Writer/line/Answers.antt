use Rattle.listing.specs.Lines.{text_of_item}
use Rattle.listing.proofs.Putting.{puts_as, puts_then, left_next, left_none}
use Rattle.listing.proofs.LineLaws.{behind_next, behind_none, join_indented}
use Rattle.listing.proofs.writer.Writer.line.Goals as goal

pub loop-item-preserved : goal.loop-item-preserved
loop-item-preserved c = left_next c.loop-item.invariant (behind_next text_of_item _ _ _ c.loop-item-test.true) c.item.ensures

pub returns : goal.returns
returns c =
    let items = left_none c.loop-item.invariant (behind_none text_of_item _ _ c.loop-item-test.false) in
    puts_then (puts_as (join_indented c.args.depth _ _) (puts_then c.indent.ensures (puts_then c.word.ensures items))) c.character.ensures
