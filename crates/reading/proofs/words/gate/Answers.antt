-- A gate that is not written is none of those that are.
use mathlib.Core.Path.{◌∙◌}
use Rattle.reading.proofs.Placing.{gate_tested, gates_next}
use borrow.Author.Rules.{rules}
use Rattle.reading.proofs.words.gate.Goals as goal

pub loop-g-preserved : goal.loop-g-preserved
loop-g-preserved c =
    gates_next _ _ c.loop-g.invariant
    (gate_tested _ _ (search rules) _ c.word_for.ensures _ c.is_word.ensures ∙ c.if-is_word.false)
