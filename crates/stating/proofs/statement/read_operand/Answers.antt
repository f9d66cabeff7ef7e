-- By the next word: it is an operand of those there are, or another word; it is unfinished, and begins one or not; or none is left.
use mathlib.Core.Path.{sym, ap, ◌∙◌}
use native.Mathlib.Omega.{arith}
use Rattle.reading.specs.Cursor.{part}
use Rattle.standing.specs.Numbers.{count_of}
use Rattle.stating.proofs.Operating.{operand_nothing, operand_begun, operand_unbegun, operand_none, operand_above, operand_word}
use Rattle.stating.proofs.statement.read_operand.Goals as goal

pub returns-in-Unfinished-clause-reads_operand : goal.returns-in-Unfinished-clause-reads_operand
unfolding part
returns-in-Unfinished-clause-reads_operand c =
    operand_begun _ _ _ _ _ _ _ _ c.requires.1 c.requires.2 c.requires.3 c.in-Unfinished.ensures
    (sym c.operand_begins.ensures ∙ c.if-operand_begins.true)

pub returns-in-Some-clause-reads_operand : goal.returns-in-Some-clause-reads_operand
unfolding part
returns-in-Some-clause-reads_operand c =
    let many = c.program_count.ensures.value ∙ ap (count_of c.args.c.now) c.operand-operand.ensures in
    operand_word _ _ _ _ _ _ _ _ c.requires.1 c.requires.2 c.requires.3 _ c.in-To.ensures _ (rw c.operand-operand.ensures at c.in-Some.ensures)
    (omega (arith, many, c.if-v-program_count.true))

pub returns-in_default-value-clause-reads_operand : goal.returns-in_default-value-clause-reads_operand
unfolding part
returns-in_default-value-clause-reads_operand c =
    let many = c.program_count.ensures.value ∙ ap (count_of c.args.c.now) c.operand-operand.ensures in
    operand_above _ _ _ _ _ _ _ _ c.requires.1 c.requires.2 c.requires.3 _ c.in-To.ensures _ (rw c.operand-operand.ensures at c.in-Some.ensures)
    (rw many at c.if-v-program_count.false)

pub returns-in_default-value-2-clause-reads_operand : goal.returns-in_default-value-2-clause-reads_operand
unfolding part
returns-in_default-value-2-clause-reads_operand c =
    operand_none _ _ _ _ _ _ _ _ c.requires.1 c.requires.2 c.requires.3 _ c.in-To.ensures
    (rw c.operand-operand.ensures at c.in_default-value.ensures)

pub returns-in_default-clause-reads_operand : goal.returns-in_default-clause-reads_operand
unfolding part
returns-in_default-clause-reads_operand c =
    operand_unbegun _ _ _ _ _ _ _ _ c.requires.1 c.requires.2 c.requires.3 c.in-Unfinished.ensures
    (sym c.operand_begins.ensures ∙ c.if-operand_begins.false)

pub returns-in_default-2-clause-reads_operand : goal.returns-in_default-2-clause-reads_operand
returns-in_default-2-clause-reads_operand c =
    operand_nothing _ _ _ _ _ _ _ _ c.requires.1 c.requires.2 c.requires.3 c.in_default.ensures
