-- Three words, one after the other.
use Rattle.std.proofs.Common.{◌∙◌}
use Rattle.rules.specs.Names.{locations}
use Rattle.rules.specs.Words.{decimal}
use Rattle.rules.specs.Grammar.{word}
use Rattle.reading.specs.Hearing.{Expects}
use Rattle.reading.proofs.Hearings.{live_word}
use Rattle.unlisting.specs.Lines.{FunctionWords}
use Rattle.unlisting.proofs.Said.{onward_unread}
use Rattle.unlisting.proofs.Heads.{live_two}
use Rattle.unlisting.proofs.lines.function_words.Goals as goal

pub returns-in_err-at-clause-words : goal.returns-in_err-at-clause-words
unfolding FunctionWords Expects
returns-in_err-at-clause-words c = λ g l.
    let n = decimal c.args.n in
    onward_unread _ _ _ _ c.from_residual.ensures.1 (c.in_err-at.ensures.expects (word n (word locations g)) (live_two n locations g l))

pub returns-in_err-at-2-clause-words : goal.returns-in_err-at-2-clause-words
unfolding FunctionWords Expects
returns-in_err-at-2-clause-words c = λ g l.
    let n = decimal c.args.n in
    onward_unread _ _ _ _ c.from_residual-in_err-at-2.ensures.1
    (c.in_ok-at.ensures.expects (word n (word locations g)) (live_two n locations g l)
    ∙ c.in_err-at-2.ensures.expects (word locations g) (live_word locations g ∙ l))

pub returns-clause-words : goal.returns-clause-words
unfolding FunctionWords Expects
returns-clause-words c = λ g l.
    let n = decimal c.args.n in
    c.in_ok-at.ensures.expects (word n (word locations g)) (live_two n locations g l)
    ∙ c.in_ok-at-2.ensures.expects (word locations g) (live_word locations g ∙ l)
    ∙ c.expect-3.ensures.expects g l
