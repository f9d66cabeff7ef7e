use Rattle.std.proofs.Common.{arith}
use Rattle.unlisting.proofs.Ending.{not_in_main, ending_first, ending_due, ending_next, ending_few, ending_header}
use Rattle.unlisting.proofs.lines.finish.Goals as goal

pub returns-then-not-from : goal.returns-then-not-from
returns-then-not-from c = not_in_main _ _ _ c.if-not-from.true

pub loop-c-init : goal.loop-c-init
loop-c-init c = ending_first _ _ c.if-not-from.false c.requires

pub returns-then-c : goal.returns-then-c
returns-then-c c = ending_due _ _ _ _ c.loop-c.invariant _ c.loop-c-test.true c.if-c.true

pub loop-c-preserved : goal.loop-c-preserved
loop-c-preserved c = ending_next _ _ _ _ c.loop-c.invariant _ _ c.loop-c-test.true c.if-c.false c.put_innermost.ensures c.closed-c.ensures

pub overflow_cast-c : goal.overflow_cast-c
overflow_cast-c c = omega (arith, ending_few _ _ _ _ c.loop-c.invariant)

pub returns : goal.returns
returns c = ending_header _ _ _ _ c.loop-c.invariant _ (omega (arith, c.loop-c-test.false)) c.put_bytes.ensures
