-- 12, 11, then the bool is bound.
use native.Mathlib.Omega.{arith}
use mathlib.Core.Path.{refl}
use Rattle.answers.proofs.Passed.{passed_as}
use Rattle.typing.proofs.Envs.{bound_is}
use Rattle.typing.proofs.Rows.{first_gives, first_refused, then_gives, then_refused, accepts, refuses}
use Rattle.typing.proofs.env.Env.measure.Goals as goal

pub returns-in_err-need_unbound : goal.returns-in_err-need_unbound
returns-in_err-need_unbound c =
    λ b d n C Γ is.
    refuses (first_refused _ (then_refused _ (c.in_err-need_unbound.ensures d n Γ is)))
    (passed_as _ c.from_residual.ensures.1)

pub returns-in_err-need_qubit : goal.returns-in_err-need_qubit
returns-in_err-need_qubit c =
    λ b d n C Γ is.
    refuses (first_refused _ (then_gives (c.in_ok-need_unbound.ensures d n Γ is) (first_refused _ (c.in_err-need_qubit.ensures.place d n Γ is))))
    (passed_as _ c.from_residual-in_err-need_qubit.ensures.1)

pub returns : goal.returns
returns c =
    λ b d n C Γ is.
    accepts (first_gives _ (then_gives (c.in_ok-need_unbound.ensures d n Γ is) (first_gives _ (c.in_ok-need_qubit.ensures.place d n Γ is) (refl))) refl) refl
    (bound_is is _ (omega arith) _ c.bind-env.ensures refl)
