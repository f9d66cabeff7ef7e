use native.Mathlib.Omega.{arith}
use Rattle.route.proofs.Swept.{noted_start, noted_skip}
use Rattle.route.proofs.front.note.Goals as goal

pub loop-i-init : goal.loop-i-init
loop-i-init c = noted_start

pub loop-i-preserved : goal.loop-i-preserved
loop-i-preserved c = noted_skip (c.note_word.ensures _ c.loop-i.invariant) _ (omega arith) (λ z h l. absurd (omega arith))

pub returns : goal.returns
returns c = noted_skip c.loop-i.invariant _ (omega arith) (λ z h l. absurd (omega arith))
