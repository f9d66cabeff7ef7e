-- A law for each exit; what is asked follows from the if that stands there.
use native.Mathlib.Omega.{arith}
use Rattle.steps.proofs.Passed.{passed_as}
use Rattle.steps.proofs.Branching.{if_there, stop_is, branch_stuck, branch_then, branch_else}
use Rattle.steps.proofs.blocks.branch.Goals as goal

pub slot-requires : goal.slot-requires
slot-requires c = let f = if_there c.requires.0 c.requires.1 in (omega (arith, f.fits), f.slot)

pub returns-in_err-b : goal.returns-in_err-b
returns-in_err-b c = branch_stuck c.requires.0 _ c.slot.ensures _ _ (passed_as _ c.from_residual.ensures.1) c.requires.1 c.in_err-b.ensures

pub block_end-middle-requires : goal.block_end-middle-requires
block_end-middle-requires c = let f = if_there c.requires.0 c.requires.1 in (omega (arith, f.fits), f.size)

pub block_end-end-requires : goal.block_end-end-requires
block_end-end-requires c = let f = if_there c.requires.0 c.requires.1 in (omega (arith, f.fits, c.block_end-middle.ensures), f.size)

pub advance-requires : goal.advance-requires
advance-requires c = let f = if_there c.requires.0 c.requires.1 in
    (f.some, omega (arith, f.room), omega (arith, f.fits, f.size, stop_is c.args.s.now c.args.at _ _ c.block_end-middle.ensures c.block_end-end.ensures))

pub push-requires : goal.push-requires
push-requires c = let f = if_there c.requires.0 c.requires.1 in
    (f.past _ _ c.advance.ensures, omega (arith, f.fits, f.size), omega (arith, f.fits, f.size, c.block_end-middle.ensures))

pub push-requires-else-b : goal.push-requires-else-b
push-requires-else-b c = let f = if_there c.requires.0 c.requires.1 in (
  f.past _ _ c.advance.ensures,
  omega (arith, f.fits, f.size, c.block_end-middle.ensures),
  omega
      (arith, f.fits, f.size, stop_is c.args.s.now c.args.at _ _ c.block_end-middle.ensures c.block_end-end.ensures),
)

pub returns-then-b : goal.returns-then-b
returns-then-b c = branch_then c.requires.0 _ c.slot.ensures _ c.requires.1 c.in_ok-b.ensures _ _ c.block_end-middle.ensures c.block_end-end.ensures _ _
    c.advance.ensures c.if-b.true c.push.ensures

pub returns-else-b : goal.returns-else-b
returns-else-b c = branch_else c.requires.0 _ c.slot.ensures _ c.requires.1 c.in_ok-b.ensures _ _ c.block_end-middle.ensures c.block_end-end.ensures _ _
    c.advance.ensures c.if-b.false c.push-else-b.ensures
