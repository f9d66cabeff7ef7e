-- The numbers from this one on are left to be put.
use Rattle.std.proofs.Common.{map, drop}
use Rattle.rules.specs.Words.{space, behind, decimal}
use Rattle.rules.specs.Kinds.{text_of}
use Rattle.rules.specs.Listing.{listed}
use Rattle.listing.proofs.Putting.{Left}
use Rattle.listing.proofs.writer.Writer.list.Given as goal

abbrev pub invariant-loop-n : goal.invariant-loop-n
invariant-loop-n l =
    Left l.fn.self (behind space (listed (text_of l.fn.word) l.numbers)) l.self (behind space (map decimal (drop l.n-index l.numbers)))
