-- By the test for the range's end.
use Rattle.steps.proofs.Cells.{advanced_ends, advanced_goes}
use Rattle.steps.proofs.frames.Frame.advance.Goals as goal

pub returns-then-at-self : goal.returns-then-at-self
returns-then-at-self c = advanced_ends _ _ c.if-at-self.true

pub returns-else-at-self : goal.returns-else-at-self
returns-else-at-self c = advanced_goes _ _ c.if-at-self.false
