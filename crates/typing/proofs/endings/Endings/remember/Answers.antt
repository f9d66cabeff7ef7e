use Prim.Native.Nat.{ℕ}
use native.Mathlib.Omega.{arith}
use mathlib.Core.Path.{◌≡◌, subst, ◌∙◌}
use Rattle.typing.specs.Functions.{Remembers}
use Rattle.typing.proofs.Remembering.{argument_kept, remembers_none, remembers_one}
use Rattle.typing.proofs.endings.Endings.remember.Goals as goal

pub loop-i-init : goal.loop-i-init
loop-i-init c = remembers_none _ _ _

pub loop-i-preserved : goal.loop-i-preserved
loop-i-preserved c = remembers_one _ c.loop-i.invariant _ (λ n Γ is. c.eq.ensures ∙ argument_kept is c.loop-i.i (omega arith)) c.add_if-kept.ensures

pub returns : goal.returns
returns c =
    let end : c.loop-i.i ≡ c.args.m = omega arith in
    subst (λ (i : ℕ). Remembers c.args.self c.args.f i c.args.env (record { kept = c.loop-i.kept })) end c.loop-i.invariant
