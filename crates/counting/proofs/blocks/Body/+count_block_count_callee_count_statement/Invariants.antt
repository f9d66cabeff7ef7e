-- The count of blocks, statements and callees. The measure: the functions that come before the body, then the bytes left, then which of the two it is.
use Prim.Native.Nat.{◌≤◌, ◌+◌, ◌-◌, ◌*◌}
use lib.ListN.{length}
use Rattle.counting.proofs.Along.{Along}
use Rattle.counting.proofs.blocks.Body.+count_block_count_callee_count_statement.Given as goal

abbrev pub decreases-count_block : goal.decreases-count_block
decreases-count_block l = 8194 * l.self.now.before + 2 * (length l.self.now.bytes.now - l.at) + 1

abbrev pub decreases-count_callee : goal.decreases-count_callee
decreases-count_callee l = 8194 * (l.f + 1)

abbrev pub decreases-count_statement : goal.decreases-count_statement
decreases-count_statement l = 8194 * l.self.now.before + 2 * (length l.self.now.bytes.now - l.at)

abbrev pub invariant-count_block-loop-next : goal.invariant-count_block-loop-next
invariant-count_block-loop-next l = record {
  in_file : (l.at + 2 ≤ l.next) × (l.next ≤ length l.self.bytes.now);
  capped : l.count ≤ 65536;
  along : Along l.self (l.at + 2) l.end l.initial.memory l.next l.count l.memory;
}

abbrev pub decreases-count_block-loop-next : goal.decreases-count_block-loop-next
decreases-count_block-loop-next l = length l.self.bytes.now - l.next
