-- By the test for an empty range.
use Rattle.steps.proofs.Cells.{pushed_none, pushed_one}
use Rattle.steps.proofs.frames.Frame.push.Goals as goal

pub returns-then-at-end : goal.returns-then-at-end
returns-then-at-end c = pushed_one _ _ _ c.if-at-end.true

pub returns-else-at-end : goal.returns-else-at-end
returns-else-at-end c = pushed_none _ _ _ c.if-at-end.false
