-- The spaces of as many depths are put.
use Rattle.listing.specs.Puts.{Puts}
use Rattle.listing.specs.Lines.{spaces}
use Rattle.listing.proofs.writer.Writer.indent.Given as goal

abbrev pub invariant-loop : goal.invariant-loop
invariant-loop l = Puts l.initial.self (spaces l.counter) l.self
