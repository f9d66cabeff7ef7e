use Rattle.steps.proofs.Returning.{back_none, back_kept, back_lost, back_all}
use Rattle.steps.proofs.back.hand_back.Goals as goal

pub loop-i-init : goal.loop-i-init
loop-i-init c = back_none _ _ _

pub loop-i-preserved-then-keeps : goal.loop-i-preserved-then-keeps
loop-i-preserved-then-keeps c = back_kept _ _ _ _ _ c.loop-i.invariant c.loop-i-test.true c.loop-i.auto.i _ c.keeps.ensures c.if-keeps.true

pub loop-i-preserved : goal.loop-i-preserved
loop-i-preserved c = back_lost _ _ _ _ _ c.loop-i.invariant c.loop-i-test.true c.loop-i.auto.i _ c.keeps.ensures c.if-keeps.false _ c.known.ensures _
    c.release-slots.ensures

pub returns : goal.returns
returns c = back_all _ _ _ _ _ c.loop-i.invariant c.loop-i-test.false
