-- The slot that is asked for has the number of the argument.
use mathlib.Core.Path.{ap, ◌∙◌}
use Rattle.rules.specs.Slots.{slot, is_qubit_at}
use Rattle.steps.specs.State.{place_of, slots_of, location_at}
use Rattle.steps.proofs.frames.Frame.keeps.Goals as goal

pub returns : goal.returns
returns c =
    let f = c.args.self.now in
    c.holds_at.ensures ∙ ap (λ (x : _). is_qubit_at (slot (slots_of f.slots) x) (place_of (location_at f.places c.args.i))) c.known-slot.ensures
