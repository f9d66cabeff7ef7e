use mathlib.Core.Path.{refl}
use native.Mathlib.Omega.{arith}
use Rattle.route.proofs.Written.{writing_start, writing_more, writing_all}
use Rattle.route.proofs.trace.trace.Goals as goal

pub loop-place-init : goal.loop-place-init
loop-place-init c = writing_start _ _ _ _

pub loop-place-preserved : goal.loop-place-preserved
loop-place-preserved c = writing_more c.loop-place.invariant (omega arith) (omega arith)

pub returns : goal.returns
returns c = writing_all c.loop-place.invariant refl (omega arith)
