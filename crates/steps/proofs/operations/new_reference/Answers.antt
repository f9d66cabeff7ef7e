-- A law for each exit.
use mathlib.Core.Path.{ap}
use Rattle.std.specs.Prelude.{Ok}
use Rattle.steps.proofs.Passed.{passed_as}
use Rattle.steps.proofs.Perform.{new_unbound, new_stops, new_goes}
use Rattle.steps.proofs.operations.new_reference.Goals as goal

pub returns-in_err-may_bind : goal.returns-in_err-may_bind
returns-in_err-may_bind c = new_unbound _ _ _ (passed_as _ c.from_residual.ensures.1) _ c.in_err-may_bind.ensures _

pub returns-in_err-b : goal.returns-in_err-b
returns-in_err-b c = new_stops _ _ _ (passed_as _ c.from_residual-in_err-b.ensures.1) _ c.in_ok-may_bind.ensures _ c.in_err-b.ensures

pub returns : goal.returns
returns c = new_goes _ _ _ (ap Ok c.new.ensures) _ c.in_ok-may_bind.ensures _ _ c.in_ok-b.ensures c.bind.ensures
