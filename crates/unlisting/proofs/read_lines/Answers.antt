use Rattle.std.proofs.Common.{arith}
use Rattle.unlisting.proofs.Following.{followed_none, refused_line, refused_last, line_took, refused_end, end_yes}
use Rattle.unlisting.proofs.read_lines.Goals as goal

pub loop-at-init : goal.loop-at-init
loop-at-init c = (omega arith, followed_none _ _ _ c.fresh-c.ensures)

pub returns-in-Err-Not : goal.returns-in-Err-Not
returns-in-Err-Not c =
    let is = c.line_at-line.ensures in
    let none =
    refused_line _ _ _ _ _ c.loop-at.invariant.1 c.loop-at-test.true c.line_at-line.result is.text is.from is.end is.stop _
    (rw c.in-Err-Not.field-0-is at c.in-Err-Not.ensures) _ c.no_line.ensures _ in
    record { answer = none.0; bytes = none.1 }

pub returns-in-Err-Begun : goal.returns-in-Err-Begun
returns-in-Err-Begun c =
    let is = c.line_at-line.ensures in
    let none =
    refused_last _ _ _ _ _ c.loop-at.invariant.1 c.loop-at-test.true c.line_at-line.result is.text is.from is.end is.stop _
    (rw c.in-Err-Begun.field-0-is at c.in-Err-Begun.ensures) _ c.no_line-in-Err-Begun.ensures _ in
    record { answer = none.0; bytes = none.1 }

pub loop-at-preserved : goal.loop-at-preserved
loop-at-preserved c =
    let is = c.line_at-line.ensures in (
      is.stop.within,
      line_took _ _ _ _ _ c.loop-at.invariant.1 c.loop-at-test.true c.line_at-line.result is.text is.from is.end is.stop _ _ c.in-Ok.ensures,
    )

pub returns-then-finish : goal.returns-then-finish
returns-then-finish c =
    let end = end_yes _ _ _ _ _ c.loop-at.invariant.1 c.loop-at-test.false _ _ c.finish.ensures c.if-finish.true in
    record { answer = end.0; bytes = end.1 }

pub returns-else-finish : goal.returns-else-finish
returns-else-finish c =
    let end = refused_end _ _ _ _ _ c.loop-at.invariant.1 c.loop-at-test.false _ _ c.finish.ensures c.if-finish.false _ c.no_line-else-finish.ensures _ in
    record { answer = end.0; bytes = end.1 }
