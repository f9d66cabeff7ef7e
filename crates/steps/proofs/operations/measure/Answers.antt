-- A law for each exit.
use mathlib.Core.Path.{ap}
use Rattle.std.specs.Prelude.{Ok}
use Rattle.steps.proofs.Passed.{passed_as}
use Rattle.steps.proofs.Perform.{measure_unbound, measure_stops, measure_goes}
use Rattle.steps.proofs.operations.measure.Goals as goal

pub returns-in_err-may_bind : goal.returns-in_err-may_bind
returns-in_err-may_bind c = measure_unbound _ _ _ (passed_as _ c.from_residual.ensures.1) _ c.in_err-may_bind.ensures _ _

pub returns-in_err-qubit : goal.returns-in_err-qubit
returns-in_err-qubit c = measure_stops _ _ _ (passed_as _ c.from_residual-in_err-qubit.ensures.1) _ c.in_ok-may_bind.ensures _ c.in_err-qubit.ensures _

pub returns : goal.returns
returns c = measure_goes _ _ _ (ap Ok c.new.ensures) _ c.in_ok-may_bind.ensures _ _ _ c.in_ok-qubit.ensures c.bind.ensures
