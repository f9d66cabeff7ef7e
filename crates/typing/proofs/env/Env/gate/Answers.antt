-- 11; no slot changes.
use mathlib.Core.Path.{refl}
use Rattle.answers.proofs.Passed.{passed_as}
use Rattle.typing.proofs.Rows.{first_gives, first_refused, accepts, refuses}
use Rattle.typing.proofs.env.Env.gate.Goals as goal

pub returns-in_err-need_qubit : goal.returns-in_err-need_qubit
returns-in_err-need_qubit c =
    λ g d n C Γ is.
    refuses (first_refused _ (first_refused _ (c.in_err-need_qubit.ensures.place d n Γ is)))
    (passed_as _ c.from_residual.ensures.1)

pub returns : goal.returns
returns c =
    λ g d n C Γ is.
    accepts (first_gives _ (first_gives _ (c.in_ok-need_qubit.ensures.place d n Γ is) (refl)) refl) refl
    (is)
