-- A law for each exit.
use mathlib.Core.Path.{ap}
use Rattle.std.specs.Prelude.{Ok}
use Rattle.steps.proofs.Passed.{passed_as}
use Rattle.steps.proofs.Perform.{constant_unbound, constant_goes}
use Rattle.steps.proofs.operations.constant.Goals as goal

pub returns-in_err-may_bind : goal.returns-in_err-may_bind
returns-in_err-may_bind c = constant_unbound _ _ _ (passed_as _ c.from_residual.ensures.1) _ c.in_err-may_bind.ensures _

pub returns : goal.returns
returns c = constant_goes _ _ _ (ap Ok c.new.ensures) _ c.in_ok-may_bind.ensures _ c.bind.ensures
