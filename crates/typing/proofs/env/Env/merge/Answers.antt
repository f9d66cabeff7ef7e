-- 12, 11 for each qubit, 15, then the bool is bound.
use native.Mathlib.Omega.{arith}
use mathlib.Core.Bool.{not}
use mathlib.Core.Path.{refl, sym, ap, ◌∙◌}
use borrow.Author.Tests.{eq-eqb, ne_eqb}
use Rattle.answers.proofs.Passed.{passed_as}
use Rattle.typing.proofs.Envs.{bound_is}
use Rattle.typing.proofs.Rows.{first_gives, first_refused, then_gives, then_refused, need_yes, need_no, accepts, refuses, refuses_as}
use Rattle.typing.proofs.env.Env.merge.Goals as goal

pub returns-in_err-need_unbound : goal.returns-in_err-need_unbound
returns-in_err-need_unbound c =
    λ b e d n C Γ is.
    refuses (first_refused _ (then_refused _ (c.in_err-need_unbound.ensures d n Γ is)))
    (passed_as _ c.from_residual.ensures.1)

pub returns-in_err-need_qubit : goal.returns-in_err-need_qubit
returns-in_err-need_qubit c =
    λ b e d n C Γ is.
    refuses (first_refused _ (then_gives (c.in_ok-need_unbound.ensures d n Γ is) (first_refused _ (c.in_err-need_qubit.ensures.place d n Γ is))))
    (passed_as _ c.from_residual-in_err-need_qubit.ensures.1)

pub returns-in_err-need_qubit-2 : goal.returns-in_err-need_qubit-2
returns-in_err-need_qubit-2 c =
    λ b e d n C Γ is.
    let unbound = c.in_ok-need_unbound.ensures d n Γ is in
    let one = c.in_ok-need_qubit.ensures.place d n Γ is in
    refuses (first_refused _ (then_gives unbound (first_gives _ one (first_refused _ (c.in_err-need_qubit-2.ensures.place d n Γ is)))))
    (passed_as _ c.from_residual-in_err-need_qubit-2.ensures.1)

pub returns-then-index : goal.returns-then-index
returns-then-index c =
    λ b e d n C Γ is.
    let unbound = c.in_ok-need_unbound.ensures d n Γ is in
    let one = c.in_ok-need_qubit.ensures.place d n Γ is in
    let two = c.in_ok-need_qubit-2.ensures.place d n Γ is in
    let twice = need_no 15 _ c.at.ensures (ap not (eq-eqb _ _ (sym c.index.ensures.value ∙ c.if-index.true ∙ c.index-2.ensures.value))) in
    refuses_as (first_refused _ (then_gives unbound (first_gives _ one (first_gives _ two (then_refused _ twice)))))

pub returns : goal.returns
returns c =
    λ b e d n C Γ is.
    let unbound = c.in_ok-need_unbound.ensures d n Γ is in
    let one = c.in_ok-need_qubit.ensures.place d n Γ is in
    let two = c.in_ok-need_qubit-2.ensures.place d n Γ is in
    let apart = need_yes 15 _ (ap not (ne_eqb _ _ (λ e. c.if-index.false (c.index.ensures.value ∙ e ∙ sym c.index-2.ensures.value)))) in
    accepts (first_gives _ (then_gives unbound (first_gives _ one (first_gives _ two (then_gives apart refl)))) refl) refl
    (bound_is is _ (omega arith) _ c.bind-env.ensures refl)
