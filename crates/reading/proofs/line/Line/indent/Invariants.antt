-- The loop goes over empty words, one after the other; where another stands, or none, it ends.
use Rattle.reading.proofs.Indenting.{Passed}
use Rattle.reading.proofs.line.Line.indent.Given as goal

abbrev pub invariant-loop : goal.invariant-loop
invariant-loop l = Passed l.self.text.now l.at l.self.end l.self.stop l.depth l.p l.counter
