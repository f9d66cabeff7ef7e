use native.Mathlib.Omega.{arith}
use mathlib.Core.Path.{refl, sym, ◌∙◌}
use borrow.Author.Tests.{eq-eqb, ne_eqb}
use Rattle.answers.proofs.Passed.{passed_on}
use Rattle.typing.proofs.CallLists.{left_one, left_none}
use Rattle.typing.proofs.Rows.{first_gives, first_refused, then_gives, then_refused, need_yes, need_no}
use Rattle.typing.proofs.calls.Call.need_arguments.Goals as goal

pub loop-i-init : goal.loop-i-init
loop-i-init c = λ d n C Γ is. refl

pub returns-in_err-place : goal.returns-in_err-place
returns-in_err-place c =
    λ d n C Γ is.
    let one = left_one C Γ c.args.at c.args.self.now.slots.now c.args.self.now.places.now c.loop-i.i c.loop-i-test.true c.args.self.now.fewer c.known.ensures in
    passed_on _ c.from_residual.ensures.1 ∙ first_refused _ (c.in_err-place.ensures.place d n Γ is) ∙ sym one ∙ sym (c.loop-i.invariant d n C Γ is)

pub returns-then-place-self : goal.returns-then-place-self
returns-then-place-self c =
    λ d n C Γ is.
    let one = left_one C Γ c.args.at c.args.self.now.slots.now c.args.self.now.places.now c.loop-i.i c.loop-i-test.true c.args.self.now.fewer c.known.ensures in
    first_gives _ (c.in_ok-place.ensures.place d n Γ is) (then_refused _ (need_no 16 _ c.at.ensures (ne_eqb _ _ c.if-place-self.true)))
    ∙ sym one ∙ sym (c.loop-i.invariant d n C Γ is)

pub loop-i-preserved : goal.loop-i-preserved
loop-i-preserved c =
    λ d n C Γ is.
    let one = left_one C Γ c.args.at c.args.self.now.slots.now c.args.self.now.places.now c.loop-i.i c.loop-i-test.true c.args.self.now.fewer c.known.ensures in
    c.loop-i.invariant d n C Γ is ∙ one
    ∙ sym (first_gives _ (c.in_ok-place.ensures.place d n Γ is) (then_gives (need_yes 16 _ (eq-eqb _ _ c.if-place-self.false)) refl))

pub returns : goal.returns
returns c =
    λ d n C Γ is.
    left_none C Γ c.args.at c.args.self.now.slots.now c.args.self.now.places.now c.loop-i.i (omega arith) ∙ sym (c.loop-i.invariant d n C Γ is)
