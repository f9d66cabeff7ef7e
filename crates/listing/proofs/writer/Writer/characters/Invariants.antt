-- The characters from this one on are left to be put.
use Rattle.std.proofs.Common.{drop}
use Rattle.listing.proofs.Putting.{Left}
use Rattle.listing.proofs.writer.Writer.characters.Given as goal

abbrev pub invariant-loop-c : goal.invariant-loop-c
invariant-loop-c l = Left l.initial.self l.text l.self (drop l.c-index l.text)
