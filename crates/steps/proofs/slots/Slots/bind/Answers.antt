-- A store into the array is one into the slots.
use Rattle.steps.proofs.Cells.{slots_bound}
use Rattle.steps.proofs.slots.Slots.bind.Goals as goal

pub returns : goal.returns
returns c = slots_bound _ _ _ c.index.ensures.value _
