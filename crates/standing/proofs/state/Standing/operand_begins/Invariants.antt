-- None of the words that the loop has tried is begun with some line behind it.
use Rattle.std.proofs.Common.{ℕ, ◌<◌, ◌≡◌, false}
use Rattle.rules.specs.Kinds.{byte_of}
use Rattle.standing.specs.Numbers.{offers}
use Rattle.standing.proofs.state.Standing.operand_begins.Given as goal

abbrev pub invariant-loop-v : goal.invariant-loop-v
invariant-loop-v l = (j : ℕ) → j < l.v → offers l.self l.part (byte_of l.kind) l.n l.first j ≡ false
