-- By the next word, as the laws of expecting say.
use mathlib.Core.Path.{sym, ◌∙◌}
use Rattle.reading.specs.Cursor.{part}
use Rattle.reading.proofs.Expecting.{expects_nothing, expects_dead, expects_begun, expects_other, expects_is, expects_not}
use Rattle.reading.proofs.line.Line.expect.Goals as goal

pub returns-in-Unfinished-clause-expects : goal.returns-in-Unfinished-clause-expects
unfolding part
returns-in-Unfinished-clause-expects c =
    expects_begun _ _ _ _ _ _ c.in-Unfinished.ensures (sym c.begins.ensures ∙ c.if-begins.true) c.if-lives.true

pub returns-in-To-clause-expects : goal.returns-in-To-clause-expects
unfolding part
returns-in-To-clause-expects c = expects_is _ _ _ _ _ _ _ c.in-To.ensures (sym c.is_word.ensures ∙ c.if-is_word.true)

pub returns-in_default-clause-expects : goal.returns-in_default-clause-expects
unfolding part
returns-in_default-clause-expects c = expects_other _ _ _ _ _ _ c.in-Unfinished.ensures (sym c.begins.ensures ∙ c.if-begins.false)

pub returns-in_default-2-clause-expects : goal.returns-in_default-2-clause-expects
returns-in_default-2-clause-expects c = expects_dead _ _ _ _ _ _ c.in-Unfinished.ensures c.if-lives.false

pub returns-in_default-3-clause-expects : goal.returns-in_default-3-clause-expects
unfolding part
returns-in_default-3-clause-expects c = expects_not _ _ _ _ _ _ _ c.in-To.ensures (sym c.is_word.ensures ∙ c.if-is_word.false)

pub returns-in_default-4-clause-expects : goal.returns-in_default-4-clause-expects
returns-in_default-4-clause-expects c = expects_nothing _ _ _ _ _ _ c.in_default.ensures
