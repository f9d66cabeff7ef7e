-- The cycle: a block is its statements and its closing, the statements are a loop over a statement, a statement goes by its kind, an if and a while
-- over their blocks. Every call but two starts at a later byte: a block's statements stand where the block does, an if or a while where its
-- statement does. So a block and a statement measure one more than what they call there.
use Prim.Native.Nat.{◌+◌, ◌-◌, ◌*◌, ◌≤◌}
use lib.ListN.{length}
use Rattle.typing.specs.Cases.{BlockCase}
use Rattle.typing.proofs.BlockLoops.{Onward}
use Rattle.typing.proofs.body.Body.+blocks.Given as goal

abbrev pub decreases-type_block : goal.decreases-type_block
decreases-type_block l = 2 * (length l.self.now.bytes.now - l.at) + 1

abbrev pub decreases-type_if : goal.decreases-type_if
decreases-type_if l = 2 * (length l.self.now.bytes.now - l.at)

abbrev pub decreases-type_statement : goal.decreases-type_statement
decreases-type_statement l = 2 * (length l.self.now.bytes.now - l.at) + 1

abbrev pub decreases-type_statements : goal.decreases-type_statements
decreases-type_statements l = 2 * (length l.self.now.bytes.now - l.at)

abbrev pub decreases-type_while : goal.decreases-type_while
decreases-type_while l = 2 * (length l.self.now.bytes.now - l.at)

abbrev pub invariant-type_statements-loop-typed : goal.invariant-type_statements-loop-typed
invariant-type_statements-loop-typed l =
    (l.at + 2 ≤ l.typed.next) × (l.typed.next ≤ l.stop) × ((b : BlockCase l.self l.initial.typed.env l.at) → Onward b l.stop l.typed)

abbrev pub decreases-type_statements-loop-typed : goal.decreases-type_statements-loop-typed
decreases-type_statements-loop-typed l = l.stop - l.typed.next
