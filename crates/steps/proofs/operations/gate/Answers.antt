-- A law for each exit.
use mathlib.Core.Path.{ap}
use Rattle.std.specs.Prelude.{Ok}
use Rattle.steps.proofs.Passed.{passed_as}
use Rattle.steps.proofs.Perform.{gate_stops, gate_goes}
use Rattle.steps.proofs.operations.gate.Goals as goal

pub returns-in_err-qubit : goal.returns-in_err-qubit
returns-in_err-qubit c = gate_stops _ _ _ (passed_as _ c.from_residual.ensures.1) _ c.in_err-qubit.ensures

pub returns : goal.returns
returns c = gate_goes _ (c.args.slots.now) _ _ _ c.in_ok-qubit.ensures (ap Ok c.new.ensures)
