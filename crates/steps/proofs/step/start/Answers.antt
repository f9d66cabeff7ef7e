-- Where main is, and the law of a job that has taken no step.
use native.Mathlib.Omega.{arith}
use Rattle.std.proofs.Common.{rules}
use Rattle.steps.proofs.Deciding.{main_there, fresh_room, starts}
use Rattle.steps.proofs.step.start.Goals as goal

pub overflow_add-main : goal.overflow_add-main
overflow_add-main c = let f = main_there c.requires in omega (arith, f.0, f.1)

pub block_end-requires : goal.block_end-requires
block_end-requires c = let f = main_there c.requires in (omega (arith, f.0), f.1)

pub push-requires : goal.push-requires
push-requires c = let f = main_there c.requires in (fresh_room _ _ _ c.new-top.ensures, omega (arith, f.0, f.1), omega (arith, f.0, f.1, c.block_end.ensures))

pub returns : goal.returns
returns c = starts c.args.s.now _ _ _ _ _ _ _ (search rules) c.empty.ensures c.new-top.ensures c.block_end.ensures c.push.ensures
