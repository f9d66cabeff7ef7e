use native.Mathlib.Omega.{arith}
use borrow.Author.Rules.{rules}
use mathlib.Core.Path.{refl}
use Rattle.typing.proofs.BlockEnds.{narrowing_one, narrowed_is}
use Rattle.typing.proofs.env.Env.narrowed.Goals as goal

pub loop-x-init : goal.loop-x-init
loop-x-init c = record { long = search rules; closed = λ k h. absurd (omega arith) }

pub loop-x-preserved : goal.loop-x-preserved
loop-x-preserved c = narrowing_one c.loop-x.invariant c.loop-x-test.true c.left.ensures

pub returns : goal.returns
returns c = λ d n Γ Δ is too. narrowed_is is too _ c.loop-x.invariant.long refl (λ k h. c.loop-x.invariant.closed k (omega arith))
