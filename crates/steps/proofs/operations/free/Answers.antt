-- A law for each exit.
use mathlib.Core.Path.{ap}
use Rattle.std.specs.Prelude.{Ok}
use Rattle.steps.proofs.Passed.{passed_as}
use Rattle.steps.proofs.Perform.{free_stops, free_goes}
use Rattle.steps.proofs.operations.free.Goals as goal

pub returns-in_err-l : goal.returns-in_err-l
returns-in_err-l c = free_stops _ _ _ (passed_as _ c.from_residual.ensures.1) _ c.in_err-l.ensures

pub returns : goal.returns
returns c = free_goes _ _ _ _ _ c.in_ok-l.ensures c.release.ensures (ap Ok c.new.ensures)
