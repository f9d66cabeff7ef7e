-- The cycle of blocks and statements: at each call the remaining bytes fall. In the loop over a block's statements, what is left to read from the
-- position on gives what the block gives.
use mathlib.Core.Path.{◌≡◌}
use Prim.Native.Nat.{ℕ, ◌+◌, ◌-◌, ◌*◌, ◌≤◌}
use lib.ListN.{length}
use Rattle.rules.specs.Syntax.{Side}
use Rattle.rules.specs.Program.{Scope}
use Rattle.program.specs.Reader.{Behind, block_past}
use Rattle.program.proofs.BlockLaws.{rest_past}
use Rattle.program.proofs.blocks.+read_block_read_statement.Given as goal

abbrev pub decreases-read_block : goal.decreases-read_block
decreases-read_block l = 2 * (length l.s.now - l.at)

abbrev pub decreases-read_statement : goal.decreases-read_statement
decreases-read_statement l = 2 * (length l.s.now - l.at) + 1

abbrev pub invariant-read_block-loop-next : goal.invariant-read_block-loop-next
invariant-read_block-loop-next l = (l.at + 2 ≤ l.next) × (l.next ≤ l.end) × ((more : ℕ) × (l.end - l.next ≤ more)
    × ((d : Side) (S : Scope) → Behind S l.scope → block_past l.s d S l.depths l.at l.limit ≡ rest_past l.s d S (l.depths - 1) more l.next l.end))

abbrev pub decreases-read_block-loop-next : goal.decreases-read_block-loop-next
decreases-read_block-loop-next l = l.end - l.next
