-- The first line: its two words, one after the other, and nothing behind them.
use Rattle.std.proofs.Common.{ap, ◌∙◌}
use Rattle.rules.specs.Unlisting.{program_begun}
use Rattle.standing.specs.Numbers.{begun_of}
use Rattle.standing.proofs.Meaning.{means_begun}
use Rattle.unlisting.specs.Lines.{FirstLine}
use Rattle.unlisting.proofs.Said.{line_unread, line_taken, ends_heard}
use Rattle.unlisting.proofs.Heads.{program_heard, version_heard}
use Rattle.unlisting.proofs.lines.first_line.Goals as goal

pub returns-in_err-at : goal.returns-in_err-at
unfolding FirstLine
returns-in_err-at c = λ D after s.
    line_unread _ D after _ _ c.from_residual.ensures.1 (program_heard _ _ _ _ _ c.in_err-at.ensures.expects)

pub returns-in_err-at-2 : goal.returns-in_err-at-2
unfolding FirstLine
returns-in_err-at-2 c = λ D after s.
    line_unread _ D after _ _ c.from_residual-in_err-at-2.ensures.1
    (program_heard _ _ _ _ _ c.in_ok-at.ensures.expects ∙ version_heard _ _ _ _ _ c.in_err-at-2.ensures.expects)

pub returns-in_err-ends : goal.returns-in_err-ends
unfolding FirstLine
returns-in_err-ends c = λ D after s.
    line_unread _ D after _ _ c.from_residual-in_err-ends.ensures.1
    (program_heard _ _ _ _ _ c.in_ok-at.ensures.expects ∙ version_heard _ _ _ _ _ c.in_ok-at-2.ensures.expects
    ∙ ends_heard _ _ _ _ _ _ c.in_err-ends.ensures c.in_ok-at-2.ensures.onto.1)

pub returns : goal.returns
unfolding FirstLine
returns c = λ D after s.
    line_taken _ D after _ program_begun
    (program_heard _ _ _ _ _ c.in_ok-at.ensures.expects ∙ version_heard _ _ _ _ _ c.in_ok-at-2.ensures.expects
    ∙ ends_heard _ _ _ _ _ _ c.in_ok-ends.ensures c.in_ok-at-2.ensures.onto.1)
    (rw (c.begun.ensures ∙ ap begun_of c.requires.1) means_begun) s
