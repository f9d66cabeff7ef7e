use mathlib.Core.Path.{refl}
use Rattle.counting.proofs.Whole.{placed, main_asks, before_start, before_step, program_exit}
use Rattle.counting.proofs.count_program.Goals as goal

pub loop-f-init : goal.loop-f-init
loop-f-init c = rw c.blank-memory.ensures (before_start _)

pub count_callee-requires : goal.count_callee-requires
count_callee-requires c = let (p, P, T) = c.requires in (c.loop-f-test.true, (p, placed _ refl P T))

pub loop-f-preserved : goal.loop-f-preserved
loop-f-preserved c = before_step c.loop-f.invariant c.count_callee.ensures.found c.count_callee.ensures.known

pub count_block-sum-requires : goal.count_block-sum-requires
count_block-sum-requires c = main_asks refl c.loop-f.invariant c.requires

pub returns : goal.returns
returns c =
    let sum = c.count_block-sum.ensures in
    record { counts = program_exit refl c.loop-f.invariant c.loop-f-test.false sum.found; main_bound = sum.capped }
