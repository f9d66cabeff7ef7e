use native.Mathlib.Omega.{arith}
use Prim.Native.Nat.{ℕ, ◌-◌}
use mathlib.Core.Path.{refl, sym, ap, ◌∙◌}
use Rattle.typing.specs.declared.slots.Slot.TheVariants.{Unbound}
use Rattle.typing.specs.Stands.{bound}
use Rattle.typing.proofs.AfterCalls.{after_none, after_stay, after_lose, after_all}
use Rattle.typing.proofs.Envs.{bound_is, give_is}
use Rattle.typing.proofs.calls.Call.after.Goals as goal

pub loop-i-init : goal.loop-i-init
loop-i-init c = λ d n Γ g is e. after_none Γ g c.args.self.now.slots.now c.args.self.now.places.now is

pub loop-i-preserved : goal.loop-i-preserved
loop-i-preserved c =
    λ d n Γ g is e.
    after_stay Γ g c.args.self.now.slots.now c.args.self.now.places.now (c.loop-i.i - 1) c.loop-i.i (omega arith) c.loop-i.auto.i c.args.self.now.fewer
    (sym (e.kept (c.loop-i.i - 1) (omega arith)) ∙ sym c.keeps.ensures ∙ c.if-not-keeps.false) (c.loop-i.invariant d n Γ g is e)

pub loop-i-preserved-then-not-keeps : goal.loop-i-preserved-then-not-keeps
loop-i-preserved-then-not-keeps c =
    λ d n Γ g is e.
    let now = c.loop-i.invariant d n Γ g is e in
    let bind = c.bind.ensures ∙ ap (λ (x : ℕ). bound c.loop-i.after x Unbound) c.known.ensures in
    let unbound = bound_is now _ (c.args.self.now.known (c.loop-i.i - 1) (omega arith)) _ bind refl in
    after_lose Γ g c.args.self.now.slots.now c.args.self.now.places.now (c.loop-i.i - 1) c.loop-i.i (omega arith) c.loop-i.auto.i c.args.self.now.fewer
    (sym (e.kept (c.loop-i.i - 1) (omega arith)) ∙ sym c.keeps.ensures ∙ c.if-not-keeps.true)
    (give_is unbound _ c.give-after.ensures.slots _ (e.within (c.loop-i.i - 1) (omega (arith, c.args.self.now.fewer))) c.give-after.ensures.free)

pub returns : goal.returns
returns c =
    λ d n Γ g is e.
    after_all Γ g c.args.self.now.slots.now c.args.self.now.places.now e.same c.loop-i-test.false (c.loop-i.invariant d n Γ g is e)
