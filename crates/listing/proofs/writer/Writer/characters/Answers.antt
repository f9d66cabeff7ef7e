use Rattle.std.proofs.Common.{refl, add-one, drop-cons, drop_of_length-le}
use Rattle.listing.proofs.Putting.{left_start, left_next, left_none}
use Rattle.listing.proofs.writer.Writer.characters.Goals as goal

pub loop-c-init : goal.loop-c-init
loop-c-init c = left_start refl

pub loop-c-preserved : goal.loop-c-preserved
loop-c-preserved c =
    let l = c.loop-c-test.true in left_next c.loop-c.invariant (rw (add-one, drop-cons c.args.text.now c.loop-c.c-index 0)) c.character.ensures

pub returns : goal.returns
returns c = left_none c.loop-c.invariant (drop_of_length-le _ c.loop-c-test.false)
