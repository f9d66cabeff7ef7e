-- A law for each exit.
use mathlib.Core.Path.{ap}
use Rattle.std.specs.Prelude.{Ok}
use Rattle.steps.proofs.Passed.{passed_as}
use Rattle.steps.proofs.Perform.{set_no_reference, set_no_bool, set_goes}
use Rattle.steps.proofs.operations.set_reference.Goals as goal

pub returns-in_err-reference : goal.returns-in_err-reference
returns-in_err-reference c = set_no_reference _ _ _ (passed_as _ c.from_residual.ensures.1) _ _ c.in_err-reference.ensures

pub returns-in_err-b : goal.returns-in_err-b
returns-in_err-b c = set_no_bool _ _ _ (passed_as _ c.from_residual-in_err-b.ensures.1) _ _ _ c.in_ok-reference.ensures c.in_err-b.ensures

pub returns : goal.returns
returns c = set_goes _ _ _ (ap Ok c.new.ensures) _ _ _ _ c.in_ok-reference.ensures c.in_ok-b.ensures c.bind.ensures
