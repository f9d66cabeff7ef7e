-- A law for each exit; what is asked follows from the while that stands there.
use native.Mathlib.Omega.{arith}
use Rattle.steps.proofs.Passed.{passed_as}
use Rattle.steps.proofs.Branching.{while_there, repeat_stuck, repeat_goes, repeat_ends}
use Rattle.steps.proofs.blocks.repeat.Goals as goal

pub slot-requires : goal.slot-requires
slot-requires c = let f = while_there c.requires.0 c.requires.1 in (omega (arith, f.fits), f.slot)

pub returns-in_err-b : goal.returns-in_err-b
returns-in_err-b c = repeat_stuck c.requires.0 _ c.slot.ensures _ _ (passed_as _ c.from_residual.ensures.1) c.requires.1 c.in_err-b.ensures

pub block_end-end-requires : goal.block_end-end-requires
block_end-end-requires c = let f = while_there c.requires.0 c.requires.1 in (omega (arith, f.fits), f.size)

pub push-requires : goal.push-requires
push-requires c = let f = while_there c.requires.0 c.requires.1 in
    (f.room, omega (arith, f.fits, f.size), omega (arith, f.fits, f.size, c.block_end-end.ensures))

pub advance-requires : goal.advance-requires
advance-requires c = let f = while_there c.requires.0 c.requires.1 in (f.some, omega (arith, f.room), omega (arith, f.fits, f.size, c.block_end-end.ensures))

pub returns-then-b : goal.returns-then-b
returns-then-b c = repeat_goes c.requires.0 _ c.slot.ensures _ c.requires.1 c.in_ok-b.ensures _ c.block_end-end.ensures _ c.if-b.true c.push.ensures

pub returns-else-b : goal.returns-else-b
returns-else-b c = repeat_ends c.requires.0 _ c.slot.ensures _ c.requires.1 c.in_ok-b.ensures _ c.block_end-end.ensures _ c.if-b.false c.advance.ensures
