use Rattle.std.proofs.Common.{refl, arith}
use Rattle.std.proofs.lemmas.Grind.{common_steps}
use Rattle.rules.specs.Words.{decimal}
use Rattle.listing.proofs.Putting.{left_start, left_next, left_none}
use Rattle.listing.proofs.LineLaws.{behind_next, behind_none, list_some}
use Rattle.listing.proofs.writer.Writer.list.Goals as goal

pub loop-n-init : goal.loop-n-init
loop-n-init c = left_next (left_start refl) (list_some _ c.args.numbers.now (grind (arith, common_steps))) c.item.ensures

pub loop-n-preserved : goal.loop-n-preserved
loop-n-preserved c = left_next c.loop-n.invariant (behind_next decimal _ _ _ c.loop-n-test.true) c.item-in-loop-n.ensures

pub returns : goal.returns
returns c = left_none c.loop-n.invariant (behind_none decimal _ _ c.loop-n-test.false)
