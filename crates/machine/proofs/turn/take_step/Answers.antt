-- The step's promise and the act's.
use Rattle.machine.proofs.Turning.{taken}
use Rattle.machine.proofs.turn.take_step.Goals as goal

pub returns : goal.returns
returns c = taken c.args.player.now c.args.map.now c.args.job.now _ c.args.number c.args.outcome _ _ c.step-stepped.ensures c.apply.ensures
