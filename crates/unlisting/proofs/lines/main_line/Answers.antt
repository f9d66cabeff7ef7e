-- Main's line is one word, behind which an empty length word is put.
use Rattle.std.proofs.Common.{◌∙◌}
use Rattle.stating.specs.Statements.{ReadsLine}
use Rattle.unlisting.proofs.Said.{line_unread, line_taken, ends_heard}
use Rattle.unlisting.proofs.Tops.{main_heard, main_laid, main_means}
use Rattle.unlisting.proofs.lines.main_line.Goals as goal

pub returns-in_err-at : goal.returns-in_err-at
unfolding ReadsLine
returns-in_err-at c = λ p D m b.
    line_unread _ D _ _ _ c.from_residual.ensures.1 (main_heard _ c.requires.3 p m _ _ _ _ _ c.in_err-at.ensures.expects)

pub returns-in_err-ends : goal.returns-in_err-ends
unfolding ReadsLine
returns-in_err-ends c = λ p D m b.
    line_unread _ D _ _ _ c.from_residual-in_err-ends.ensures.1
    (main_heard _ c.requires.3 p m _ _ _ _ _ c.in_ok-at.ensures.expects ∙ ends_heard _ _ _ _ _ _ c.in_err-ends.ensures c.in_ok-at.ensures.onto.1)

pub returns : goal.returns
unfolding ReadsLine
returns c = λ p D m b.
    line_taken _ D _ _ _
    (main_heard _ c.requires.3 p m _ _ _ _ _ c.in_ok-at.ensures.expects ∙ ends_heard _ _ _ _ _ _ c.in_ok-ends.ensures c.in_ok-at.ensures.onto.1)
    (rw c.main.ensures (main_means _ c.requires.3 p m c.requires.2 D _ b))
    (main_laid _ c.requires.3 p m c.requires.2 D _ b _ c.put_length.ensures)
