-- By the test for main.
use Rattle.steps.proofs.Cells.{located_main, located_call}
use Rattle.steps.proofs.job.Job.located.Goals as goal

pub returns-then-self-eq0 : goal.returns-then-self-eq0
returns-then-self-eq0 c = located_main _ _ c.if-self-eq0.true

pub returns-else-self-eq0 : goal.returns-else-self-eq0
returns-else-self-eq0 c = located_call _ _ _ c.if-self-eq0.false c.locate.ensures
