-- The walk over blocks, and over the statements that recurse. The measure: the functions that come before the body, then the bytes left, then which of
-- the two it is.
use Prim.Native.Nat.{◌+◌, ◌-◌, ◌*◌}
use lib.ListN.{length}
use Rattle.walking.specs.Names.{names_of}
use Rattle.walking.proofs.Steps.{Loop}
use Rattle.walking.proofs.walk.Walk.+walk_block_walk_call_walk_if_walk_while.Given as goal

abbrev pub decreases-walk_block : goal.decreases-walk_block
decreases-walk_block l = 8200 * l.body.now.before + 2 * (length l.self.now.bytes.now - l.at) + 1

abbrev pub decreases-walk_call : goal.decreases-walk_call
decreases-walk_call l = 8200 * l.body.now.before + 2 * (length l.self.now.bytes.now - l.at)

abbrev pub decreases-walk_if : goal.decreases-walk_if
decreases-walk_if l = 8200 * l.body.now.before + 2 * (length l.self.now.bytes.now - l.at)

abbrev pub decreases-walk_while : goal.decreases-walk_while
decreases-walk_while l = 8200 * l.body.now.before + 2 * (length l.self.now.bytes.now - l.at)

abbrev pub invariant-walk_block-loop-p : goal.invariant-walk_block-loop-p
invariant-walk_block-loop-p l = Loop l.self l.body.before (names_of l.body) l.at l.stop l.initial.frame l.initial.free l.p l.frame l.free

abbrev pub decreases-walk_block-loop-p : goal.decreases-walk_block-loop-p
decreases-walk_block-loop-p l = l.stop - l.p
