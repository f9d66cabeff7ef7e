-- 12, 11, then the reference is bound.
use native.Mathlib.Omega.{arith}
use mathlib.Core.Path.{refl}
use Rattle.answers.proofs.Passed.{passed_as}
use Rattle.typing.proofs.Envs.{bound_is}
use Rattle.typing.proofs.Rows.{first_gives, first_refused, then_gives, then_refused, accepts, refuses}
use Rattle.typing.proofs.env.Env.new_reference.Goals as goal

pub returns-in_err-need_unbound : goal.returns-in_err-need_unbound
returns-in_err-need_unbound c =
    λ d n C Γ is.
    refuses (first_refused _ (then_refused _ (c.in_err-need_unbound.ensures d n Γ is)))
    (passed_as _ c.from_residual.ensures.1)

pub returns-in_err-need_bool : goal.returns-in_err-need_bool
returns-in_err-need_bool c =
    λ d n C Γ is.
    refuses (first_refused _ (then_gives (c.in_ok-need_unbound.ensures d n Γ is) (first_refused _ (c.in_err-need_bool.ensures d n Γ is))))
    (passed_as _ c.from_residual-in_err-need_bool.ensures.1)

pub returns : goal.returns
returns c =
    λ d n C Γ is.
    accepts (first_gives _ (then_gives (c.in_ok-need_unbound.ensures d n Γ is) (first_gives _ (c.in_ok-need_bool.ensures d n Γ is) (refl))) refl) refl
    (bound_is is _ (omega arith) _ c.bind-env.ensures refl)
