-- 11, then the slot is unbound and the place free.
use native.Mathlib.Omega.{arith}
use mathlib.Core.Path.{refl}
use Rattle.answers.proofs.Passed.{passed_as}
use Rattle.typing.proofs.Envs.{bound_is, give_is}
use Rattle.typing.proofs.Rows.{first_gives, first_refused, accepts, refuses}
use Rattle.typing.proofs.env.Env.free.Goals as goal

pub returns-in_err-place : goal.returns-in_err-place
returns-in_err-place c =
    λ d n C Γ is.
    refuses (first_refused _ (first_refused _ (c.in_err-place.ensures.place d n Γ is)))
    (passed_as _ c.from_residual.ensures.1)

pub returns : goal.returns
returns c =
    λ d n C Γ is.
    accepts (first_gives _ (first_gives _ (c.in_ok-place.ensures.place d n Γ is) (refl)) refl) refl
    (give_is (bound_is is _ (omega arith) _ c.bind.ensures refl) _ c.give-env.ensures.slots _ (c.in_ok-place.ensures.there d n Γ is) c.give-env.ensures.free)
