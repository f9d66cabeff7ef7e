-- Thirty-two unbound slots of the code are thirty-two of the rules.
use mathlib.Core.Path.{refl}
use Rattle.steps.specs.State.{slots_of}
use Rattle.steps.proofs.slots.Slots.empty.Goals as goal

pub returns : goal.returns
unfolding slots_of
returns c = refl
