-- By which job the byte names.
use Rattle.machine.proofs.Turning.{of_second, first_ready, second_ready, turned_first, turned_second}
use Rattle.machine.proofs.turn.turn.Goals as goal

pub take_step-requires : goal.take_step-requires
take_step-requires c = first_ready _ _ _ c.requires

pub take_step-requires-else-byte-eq1 : goal.take_step-requires-else-byte-eq1
take_step-requires-else-byte-eq1 c = second_ready _ _ _ c.requires

pub returns-then-byte-eq1 : goal.returns-then-byte-eq1
returns-then-byte-eq1 c = turned_first c.args.players.now c.args.machine.now c.args.byte _ _ _ c.if-byte-eq1.true c.take_step.ensures

pub returns-else-byte-eq1 : goal.returns-else-byte-eq1
returns-else-byte-eq1 c = turned_second c.args.players.now c.args.machine.now c.args.byte _ _ _ (of_second _ c.requires.a_turn c.if-byte-eq1.false)
    c.take_step-else-byte-eq1.ensures
