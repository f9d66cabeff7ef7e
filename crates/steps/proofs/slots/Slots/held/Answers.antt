-- The slot that is read is the one that is asked for.
use Rattle.steps.proofs.Cells.{slots_held}
use Rattle.steps.proofs.slots.Slots.held.Goals as goal

pub returns : goal.returns
returns c = slots_held _ _ _ c.index.ensures.value
