-- The name of a statement that fits, its operands, and what it makes of the program.
use mathlib.Core.Path.{sym, ◌∙◌}
use Rattle.reading.specs.Cursor.{part}
use Rattle.standing.proofs.Meaning.{means_short}
use Rattle.stating.proofs.Passed.{passed_as}
use Rattle.stating.proofs.Stating.{line_nothing, line_begun, line_unbegun, line_unknown, line_unfit, line_operands, callee_there, line_statement}
use Rattle.stating.proofs.statement.statement_line.Goals as goal

pub program_fits-requires : goal.program_fits-requires
program_fits-requires c = means_short _ _ c.requires.1.1

pub returns-in-Unfinished : goal.returns-in-Unfinished
unfolding part
returns-in-Unfinished c = line_begun _ _ _ _ _ _ _ c.in-Unfinished.ensures (sym c.name_begins.ensures ∙ c.if-name_begins.true)

pub returns-in_default : goal.returns-in_default
unfolding part
returns-in_default c = line_unbegun _ _ _ _ _ _ _ c.in-Unfinished.ensures (sym c.name_begins.ensures ∙ c.if-name_begins.false)

pub returns-in_default-2 : goal.returns-in_default-2
returns-in_default-2 c = line_nothing _ _ _ _ _ _ _ c.in_default.ensures

pub returns-in_default-kind_named : goal.returns-in_default-kind_named
unfolding part
returns-in_default-kind_named c =
    line_unfit _ _ _ _ _ _ _ c.in-To.ensures _ c.in-Some.ensures _ (sym c.program_fits.ensures ∙ c.if-program_fits.false)

pub returns-in_default-kind_named-2 : goal.returns-in_default-kind_named-2
unfolding part
returns-in_default-kind_named-2 c = line_unknown _ _ _ _ _ _ _ c.in-To.ensures _ c.in_default-kind_named.ensures

pub returns-in_err-operands-in-Some : goal.returns-in_err-operands-in-Some
unfolding part
returns-in_err-operands-in-Some c =
    rw (passed_as _ c.from_residual.ensures.1)
    (line_operands _ _ _ _ _ _ _ c.in-To.ensures _ c.in-Some.ensures (sym c.program_fits.ensures ∙ c.if-program_fits.true) _ _ _
    c.in_err-operands-in-Some.ensures.reads_operands)

pub behind_operands-requires : goal.behind_operands-requires
unfolding part
behind_operands-requires c = (
  c.in_ok-operands-in-Some.ensures.onto.1,
  c.requires.1,
  sym c.program_fits.ensures ∙ c.if-program_fits.true,
  callee_there _ _ _ _ _ _ _ c.in-To.ensures _ c.in-Some.ensures (sym c.program_fits.ensures ∙ c.if-program_fits.true) _ _
      c.in_ok-operands-in-Some.ensures.reads_operands c.requires.1.0 c.requires.1.1,
)

pub returns-in_ok-operands-in-Some : goal.returns-in_ok-operands-in-Some
unfolding part
returns-in_ok-operands-in-Some c =
    line_statement _ _ _ _ _ _ _ c.in-To.ensures _ c.in-Some.ensures (sym c.program_fits.ensures ∙ c.if-program_fits.true) _ _
    c.in_ok-operands-in-Some.ensures.reads_operands _ _ c.behind_operands.ensures
