use native.Mathlib.Omega.{arith}
use borrow.Author.Count.{below_more}
use Rattle.typing.proofs.BlockEnds.{stay_is, all_stay_yes, all_stay_no}
use Rattle.typing.proofs.env.Env.stays.Goals as goal

pub loop-x-init : goal.loop-x-init
loop-x-init c = λ d k h. absurd (omega arith)

pub returns-then-strays : goal.returns-then-strays
returns-then-strays c = λ d n Γ Δ is too. all_stay_no is too _ c.loop-x-test.true (c.strays.ensures d) c.if-strays.true

pub loop-x-preserved : goal.loop-x-preserved
loop-x-preserved c = λ d. below_more _ _ (c.loop-x.invariant d) (stay_is _ (c.strays.ensures d) c.if-strays.false)

pub returns : goal.returns
returns c = λ d n Γ Δ is too. all_stay_yes is too (λ k h. c.loop-x.invariant d k (omega arith))
