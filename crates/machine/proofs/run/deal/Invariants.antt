-- The laws of the loop over the schedule.
use Rattle.machine.proofs.Dealing.{Under}
use Rattle.machine.proofs.run.deal.Given as goal

abbrev pub invariant-loop-i : goal.invariant-loop-i
invariant-loop-i l = Under l.players l.schedule.bytes.now l.initial.records l.initial.machine l.i l.machine l.moved.first l.moved.second l.records
