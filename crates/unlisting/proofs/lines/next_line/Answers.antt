use Rattle.std.proofs.Common.{arith}
use Rattle.unlisting.proofs.Outward.{line_statement, line_begun, line_else, reached_more, line_top}
use Rattle.unlisting.proofs.lines.next_line.Goals as goal

pub returns-in-Ok : goal.returns-in-Ok
returns-in-Ok c =
    line_statement _ _ _ _ _ _ _ _ c.loop-c.invariant c.loop-c-test.true _ c.statement_lives.ensures _ c.in-Ok.ensures.indents c.in-Ok.ensures.blank _ _
    c.statement_line.ensures

pub returns-in-Err-Begun : goal.returns-in-Err-Begun
returns-in-Err-Begun c =
    line_begun _ _ _ _ _ _ _ _ c.loop-c.invariant c.loop-c-test.true _ c.statement_lives.ensures
    (rw c.in-Err-Begun.field-0-is at c.in-Err-Begun.ensures.indents) _

pub returns-then-c : goal.returns-then-c
returns-then-c c =
    line_else _ _ _ _ _ _ _ _ c.loop-c.invariant c.loop-c-test.true _ c.statement_lives.ensures
    (rw c.in-Err-Not.field-0-is at c.in-Err-Not.ensures.indents) c.if-c.true _ _ c.else_line.ensures

pub loop-c-preserved : goal.loop-c-preserved
loop-c-preserved c =
    reached_more _ _ _ _ _ _ _ _ c.loop-c.invariant c.loop-c-test.true _ c.statement_lives.ensures
    (rw c.in-Err-Not.field-0-is at c.in-Err-Not.ensures.indents) c.if-c.false _ c.put_innermost.ensures _ c.closed-c.ensures

pub returns : goal.returns
returns c = line_top _ _ _ _ _ _ _ _ c.loop-c.invariant (omega (arith, c.loop-c-test.false)) _ _ c.top_line.ensures
