-- A word, then a number below the most.
use Rattle.std.proofs.Common.{ℕ, ◌∙◌, arith}
use Rattle.std.proofs.Math.Option.{none}
use mathlib.Core.Path.{subst}
use Rattle.rules.specs.Basics.{up_to}
use Rattle.rules.specs.Words.{decimal}
use Rattle.rules.specs.Grammar.{ask}
use Rattle.reading.specs.Hearing.{Expects, Numbers}
use Rattle.unlisting.specs.Lines.{Arguments, most_arguments}
use Rattle.unlisting.proofs.Said.{onward_unread}
use Rattle.unlisting.proofs.Heads.{live_decimals}
use Rattle.unlisting.proofs.lines.read_arguments.Goals as goal

pub returns-in_err-at-clause-arguments : goal.returns-in_err-at-clause-arguments
unfolding Arguments Expects
returns-in_err-at-clause-arguments c = λ g l.
    let most = most_arguments c.args.k in
    onward_unread _ _ _ _ c.from_residual.ensures.1
    (c.in_err-at.ensures.expects (ask none (up_to 0 most decimal) g) (live_decimals most g (omega arith) (l 0 (omega arith))))

pub returns-clause-arguments : goal.returns-clause-arguments
unfolding Arguments Expects Numbers
returns-clause-arguments c = λ g l.
    let most = most_arguments c.args.k in
    c.in_ok-at.ensures.expects (ask none (up_to 0 most decimal) g) (live_decimals most g (omega arith) (l 0 (omega arith)))
    ∙ subst (λ (n : ℕ). Numbers c.args.line.now.text.now c.in_ok-at.at c.args.line.now.end c.args.line.now.stop n c.number_below.result)
    c.most_arguments.ensures.value c.number_below.ensures.numbers g l
