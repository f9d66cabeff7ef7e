-- Where the word ends tells which of the three it is.
use native.Mathlib.Omega.{arith}
use Rattle.reading.proofs.Expecting.{nothing_next, unfinished_next, to_next}
use Rattle.reading.proofs.line.Line.next_word.Goals as goal

pub returns-then-self-at : goal.returns-then-self-at
returns-then-self-at c = nothing_next _ _ _ c.args.self.now.stop (omega arith)

pub returns-then-to-self : goal.returns-then-to-self
returns-then-to-self c = unfinished_next _ _ _ _ _ (omega arith) (omega arith) (omega arith) c.word_end-to.ensures.word_end (omega arith)

pub returns-else-to-self : goal.returns-else-to-self
returns-else-to-self c = to_next _ _ _ _ _ (omega arith) (omega arith) (omega arith) c.word_end-to.ensures.word_end c.if-to-self.false
