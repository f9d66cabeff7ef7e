use mathlib.Core.Path.{ap, ◌∙◌}
use native.Mathlib.Omega.{arith}
use lib.ListN.{set}
use Rattle.rules.specs.Slots.{qubit}
use Rattle.std.proofs.Common.{rules}
use Rattle.steps.specs.State.{place_of, slots_of, location_at}
use Rattle.steps.proofs.Entering.{bound_none, bound_more, bound_all}
use Rattle.steps.proofs.call.callee.Goals as goal

pub loop-i-init : goal.loop-i-init
loop-i-init c = bound_none _ _ c.empty-slots.ensures

pub loop-i-preserved : goal.loop-i-preserved
loop-i-preserved c =
    bound_more _ _ _ _ c.loop-i.invariant (search rules) (omega arith)
    (c.occupy-slots.ensures ∙ ap (λ (i : _). set (slots_of c.loop-i.slots) i (qubit (place_of (location_at c.args.places c.loop-i.i)))) c.known.ensures)

pub returns : goal.returns
returns c = bound_all _ _ _ _ _ _ c.loop-i.invariant (omega arith) c.new.ensures
