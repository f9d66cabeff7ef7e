-- A call's list is refused where it does not fit, else read as its places, then its slots.
use native.Mathlib.Omega.{arith}
use mathlib.Core.Path.{refl, sym, ap, ◌∙◌}
use Rattle.answers.specs.Check.{refused}
use Rattle.answers.proofs.Passed.{passed_on, passed_as}
use Rattle.program.proofs.PastLaws.{between_refused, between_said}
use Rattle.program.proofs.OperandLaws.{call_short, call_past, call_refused, below_at}
use Rattle.program.proofs.operands.call_list.Goals as goal

pub returns-then-end-at-clause-position : goal.returns-then-end-at-clause-position
returns-then-end-at-clause-position c = ap refused c.at.ensures ∙ sym (call_short _ _ _ _ (omega arith))

pub returns-clause-position : goal.returns-clause-position
returns-clause-position c =
    c.all_below-2.ensures ∙ sym (call_past _ _ _ _ _ _ _ refl refl (omega arith) (omega arith) _ (sym c.in_ok-all_below.ensures))

pub returns-clause-between : goal.returns-clause-between
returns-clause-between c = between_said _ _ _ _ _ c.all_below-2.ensures (λ q e. below_at _ _ _ _ q e) (omega arith) (omega arith)

pub returns-in_err-all_below-clause-position : goal.returns-in_err-all_below-clause-position
returns-in_err-all_below-clause-position c =
    passed_on _ c.from_residual.ensures.1
    ∙ sym (call_refused _ _ _ _ _ _ _ refl refl (omega arith) (omega arith) _ (sym c.in_err-all_below.ensures))

pub returns-in_err-all_below-clause-between : goal.returns-in_err-all_below-clause-between
returns-in_err-all_below-clause-between c = between_refused _ _ _ _ (passed_as _ c.from_residual.ensures.1)
