-- Each way out is by the characters read so far: none or too many, a leading zero, a character that is no digit, or the digits of the number.
use mathlib.Core.Bool.{false≢true}
use mathlib.Core.Logic.{inl, inr}
use mathlib.Core.Path.{sym, subst, ◌∙◌}
use borrow.Author.Tests.{eqb-true, eq-eqb}
use native.Mathlib.Omega.{arith}
use borrow.Author.Rules.{rules}
use Rattle.reading.specs.Cursor.{Numeral}
use Rattle.reading.proofs.Numerals.{sized_numeral, zero_numeral, other_numeral, made_more, made_small, made_numeral}
use Rattle.reading.proofs.Numerals.{digit_small}
use Rattle.reading.proofs.words.number.Goals.{else-part-gt1-via-then-part-gt1+else-part-eq48, else-part-gt1-via-else-part-gt1}
use Rattle.reading.proofs.words.number.Goals as goal

pub returns-then-is_empty : goal.returns-then-is_empty
returns-then-is_empty c =
    sized_numeral _ (λ some few. elim c.then-is_empty.either [
      | inl none ↦ omega (arith, eqb-true _ 0 (sym c.is_empty.ensures ∙ none))
      | inr long ↦ omega (arith, long.1)
    ])

pub returns-then-part-eq48 : goal.returns-then-part-eq48
returns-then-part-eq48 c = zero_numeral _ (omega arith) (search rules)

pub overflow_mul-n : goal.overflow_mul-n
overflow_mul-n c = omega (arith, made_small _ _ _ c.loop-c.invariant (omega arith))

pub returns-in_err-n : goal.returns-in_err-n
returns-in_err-n c = subst (Numeral c.args.part.now) (sym c.from_residual.ensures) (other_numeral _ _ c.loop-c-test.true c.in_err-n.ensures)

pub overflow_add-n : goal.overflow_add-n
overflow_add-n c = omega (arith, made_small _ _ _ c.loop-c.invariant (omega arith), digit_small _ _ c.in_ok-n.ensures)

pub loop-c-preserved : goal.loop-c-preserved
loop-c-preserved c = made_more _ _ _ _ c.loop-c.invariant c.loop-c-test.true c.in_ok-n.ensures

pub returns : goal.returns
returns c = made_numeral _ _ _ c.loop-c.invariant (omega arith) (λ none. false≢true (sym c.if-is_empty.false ∙ c.is_empty.ensures ∙ eq-eqb _ 0 none))
    (omega arith) (λ h z. elim c.else-part-gt1.branch [
      | else-part-gt1-via-then-part-gt1+else-part-eq48 w ↦ w.if-part-eq48.false z
      | else-part-gt1-via-else-part-gt1 w ↦ omega (arith, w.if-part-gt1.false)
    ])
