-- 12, 13, 14, then the slot holds the qubit and its place is taken.
use native.Mathlib.Omega.{arith}
use mathlib.Core.Path.{refl, sym, ◌∙◌}
use Rattle.answers.proofs.Passed.{passed_as}
use Rattle.typing.proofs.Envs.{bound_qubit, take_is}
use Rattle.typing.proofs.Rows.{first_gives, first_refused, then_gives, then_refused, need_yes, need_no, accepts, refuses, refuses_as}
use Rattle.typing.proofs.env.Env.init.Goals as goal

pub returns-in_err-need_unbound : goal.returns-in_err-need_unbound
returns-in_err-need_unbound c =
    λ q d n C Γ w is.
    refuses (first_refused _ (then_refused _ (c.in_err-need_unbound.ensures d n Γ is)))
    (passed_as _ c.from_residual.ensures.1)

pub returns-then-not-contains : goal.returns-then-not-contains
returns-then-not-contains c =
    λ q d n C Γ w is.
    let outside = need_no 13 _ c.at.ensures (w.same _ ∙ sym c.contains.ensures ∙ c.if-not-contains.true) in
    refuses_as (first_refused _ (then_gives (c.in_ok-need_unbound.ensures d n Γ is) (then_refused _ outside)))

pub returns-then-not-contains-2 : goal.returns-then-not-contains-2
returns-then-not-contains-2 c =
    λ q d n C Γ w is.
    let inside = need_yes 13 _ (w.same _ ∙ sym c.contains.ensures ∙ c.if-not-contains.false) in
    let taken = need_no 14 _ c.at-then-not-contains-2.ensures (is.free _ ∙ sym c.contains-2.ensures ∙ c.if-not-contains-2.true) in
    refuses_as (first_refused _ (then_gives (c.in_ok-need_unbound.ensures d n Γ is) (then_gives inside (then_refused _ taken))))

pub returns : goal.returns
returns c =
    λ q d n C Γ w is.
    let inside = need_yes 13 _ (w.same _ ∙ sym c.contains.ensures ∙ c.if-not-contains.false) in
    let free = need_yes 14 _ (is.free _ ∙ sym c.contains-2.ensures ∙ c.if-not-contains-2.false) in
    let place = w.few _ (sym c.contains.ensures ∙ c.if-not-contains.false) in
    let bound = bound_qubit is _ (omega arith) _ c.bind.ensures _ refl place in
    accepts (first_gives _ (then_gives (c.in_ok-need_unbound.ensures d n Γ is) (then_gives inside (then_gives free refl))) refl) refl
    (take_is bound _ c.take-env.ensures.slots _ place c.take-env.ensures.free)
