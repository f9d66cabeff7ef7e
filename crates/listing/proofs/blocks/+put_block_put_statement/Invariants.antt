-- Nesting goes down: no line is deeper than 8. In a block the statements from p on are left to be put.
use Rattle.std.proofs.Common.{◌+◌, ◌-◌, ◌*◌}
use Rattle.listing.proofs.Along.{Along}
use Rattle.listing.proofs.blocks.+put_block_put_statement.Given as goal

abbrev pub decreases-put_block : goal.decreases-put_block
decreases-put_block l = 2 * (9 - l.depth) + 1

abbrev pub decreases-put_statement : goal.decreases-put_statement
decreases-put_statement l = 2 * (9 - l.depth)

abbrev pub invariant-put_block-loop-p : goal.invariant-put_block-loop-p
invariant-put_block-loop-p l = Along l.s l.depth (l.at + 2) l.stop l.initial.out l.p l.out

abbrev pub decreases-put_block-loop-p : goal.decreases-put_block-loop-p
decreases-put_block-loop-p l = l.stop - l.p
