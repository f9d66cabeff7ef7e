-- A law for each act.
use native.Mathlib.Omega.{arith}
use Rattle.steps.proofs.Applying.{applied_quiet, applied_taken, applied_given}
use Rattle.steps.proofs.apply.apply.Goals as goal

pub returns-in-Quiet : goal.returns-in-Quiet
returns-in-Quiet c = applied_quiet _ _ c.args.map.now c.in-Quiet.is

pub returns-in-Takes : goal.returns-in-Takes
returns-in-Takes c = applied_taken _ _ c.args.map.now _ c.in-Takes.is (omega arith)

pub returns-in-Gives : goal.returns-in-Gives
returns-in-Gives c = applied_given _ _ c.args.map.now _ c.in-Gives.is
