-- The operands from this one on are left to be put.
use Rattle.std.proofs.Common.{◌+◌, drop}
use Rattle.rules.specs.Words.{space, behind}
use Rattle.rules.specs.Listing.{words}
use Rattle.listing.proofs.Putting.{Left}
use Rattle.listing.proofs.writer.Writer.fixed_part.Given as goal

abbrev pub invariant-loop-i : goal.invariant-loop-i
invariant-loop-i l =
    Left l.initial.self (behind space (words l.s (l.at + 1) l.operands)) l.self (behind space (words l.s (l.at + 1 + l.i) (drop l.i l.operands)))
