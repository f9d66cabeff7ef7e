-- The characters so far are digits, and make n.
use Rattle.reading.proofs.Numerals.{Made}
use Rattle.reading.proofs.words.number.Given as goal

abbrev pub invariant-loop-c : goal.invariant-loop-c
invariant-loop-c l = Made l.part l.c-index l.n
