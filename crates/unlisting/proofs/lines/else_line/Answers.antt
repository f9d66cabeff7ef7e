-- The else: its indent and its word; then the block's length word is put, and an empty one behind it.
use Rattle.std.proofs.Common.{◌∙◌, arith}
use Rattle.stating.specs.Statements.{ReadsLine}
use Rattle.unlisting.proofs.Said.{line_unread, line_taken, ends_heard}
use Rattle.unlisting.proofs.Turning.{due_owed, indent_heard, else_heard, turned_means, turned_laid}
use Rattle.unlisting.proofs.lines.else_line.Goals as goal

pub returns-in_err-at : goal.returns-in_err-at
unfolding ReadsLine
returns-in_err-at c = λ p D m b.
    line_unread _ D _ _ _ c.from_residual.ensures.1 (indent_heard _ c.requires.2 p m _ _ _ _ _ c.in_err-at.ensures.indents)

pub returns-in_err-at-2 : goal.returns-in_err-at-2
unfolding ReadsLine
returns-in_err-at-2 c = λ p D m b.
    line_unread _ D _ _ _ c.from_residual-in_err-at-2.ensures.1
    (indent_heard _ c.requires.2 p m _ _ _ _ _ c.in_ok-at.ensures.indents ∙ else_heard _ c.requires.2 p m _ _ _ _ _ c.in_err-at-2.ensures.expects)

pub returns-in_err-ends : goal.returns-in_err-ends
unfolding ReadsLine
returns-in_err-ends c = λ p D m b.
    line_unread _ D _ _ _ c.from_residual-in_err-ends.ensures.1
    (indent_heard _ c.requires.2 p m _ _ _ _ _ c.in_ok-at.ensures.indents ∙ else_heard _ c.requires.2 p m _ _ _ _ _ c.in_ok-at-2.ensures.expects
    ∙ ends_heard _ _ _ _ _ _ c.in_err-ends.ensures c.in_ok-at-2.ensures.onto.1)

pub turned-requires : goal.turned-requires
turned-requires c =
    let m = c.requires.1.1 in
    (omega (arith, m.fits), c.requires.2, m.deep, due_owed _ _ m c.requires.2 c.requires.3)

pub returns : goal.returns
unfolding ReadsLine
returns c = λ p D m b.
    line_taken _ D _ _ _
    (indent_heard _ c.requires.2 p m _ _ _ _ _ c.in_ok-at.ensures.indents ∙ else_heard _ c.requires.2 p m _ _ _ _ _ c.in_ok-at-2.ensures.expects
    ∙ ends_heard _ _ _ _ _ _ c.in_ok-ends.ensures c.in_ok-at-2.ensures.onto.1)
    (rw c.turned.ensures (turned_means _ c.requires.2 p m c.requires.3))
    (turned_laid _ c.requires.2 p m D _ _ _ b c.put_innermost.ensures c.put_length.ensures)
