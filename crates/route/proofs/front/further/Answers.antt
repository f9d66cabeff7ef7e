use mathlib.Core.Path.{refl}
use native.Mathlib.Omega.{arith}
use Rattle.route.proofs.Swept.{spread_start, spread_skip}
use Rattle.route.proofs.front.further.Goals as goal

pub loop-i-init : goal.loop-i-init
loop-i-init c = spread_start (λ y. refl) c.empty.ensures

pub loop-i-preserved : goal.loop-i-preserved
loop-i-preserved c = spread_skip (c.reach_word-front.ensures _ _ c.loop-i.invariant) _ (omega arith) (λ z h l. absurd (omega arith))

pub returns : goal.returns
returns c = spread_skip c.loop-i.invariant _ (omega arith) (λ z h l. absurd (omega arith))
