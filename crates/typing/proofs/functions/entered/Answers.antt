use mathlib.Core.Path.{ap, ◌∙◌}
use native.Mathlib.Omega.{arith}
use Prim.Native.Nat.{ℕ}
use Rattle.sets.specs.Sets.{has}
use Rattle.typing.specs.declared.slots.Slot.TheVariants.{Qubit}
use Rattle.typing.specs.declared.env.Env.{Env}
use Rattle.typing.specs.Stands.{bound}
use Rattle.typing.proofs.Entries.{entering_none, entering_one, entering_all, rest_of}
use Rattle.typing.proofs.functions.entered.Goals as goal

pub loop-i-init : goal.loop-i-init
loop-i-init c = entering_none c.new-env.ensures

pub loop-i-preserved : goal.loop-i-preserved
loop-i-preserved c =
    let bind = c.bind-env.ensures ∙ ap (λ (x : ℕ). bound c.loop-i.env x (Qubit c.loop-i.i)) c.known.ensures in
    entering_one (omega arith) c.loop-i.invariant bind

pub returns : goal.returns
returns c =
    λ g p q.
    let rest = rest_of _ _ _ c.args.k c.args.m c.first.ensures c.first-2.ensures c.without.ensures in
    entering_all g p q c.requires.0 c.requires.1 (omega arith) c.loop-i.invariant (λ y. ap (λ (e : Env). has e.free y) c.new-env.ensures ∙ rest y)
