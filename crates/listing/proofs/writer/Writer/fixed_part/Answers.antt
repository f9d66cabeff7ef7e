use Rattle.std.proofs.Common.{◌+◌}
use Rattle.listing.proofs.Putting.{puts_as, puts_then, left_next, left_none}
use Rattle.listing.proofs.LineLaws.{operands_next, operands_none, fixed_text}
use Rattle.listing.proofs.writer.Writer.fixed_part.Goals as goal

pub loop-i-preserved : goal.loop-i-preserved
loop-i-preserved c =
    left_next c.loop-i.invariant (operands_next c.args.s.now (c.args.at + 1) _ c.loop-i.i _ c.loop-i-test.true) c.operand.ensures

pub returns : goal.returns
returns c =
    let operands = left_none c.loop-i.invariant (operands_none c.args.s.now (c.args.at + 1) _ c.loop-i.i c.loop-i-test.false) in
    puts_as (fixed_text c.args.s.now c.args.depth c.args.at c.requires.0 c.operands-operands.ensures)
    (puts_then c.indent.ensures (puts_then c.word.ensures operands))
