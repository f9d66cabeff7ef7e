-- Where the search stands in a word is the start or the word's first number, the later of the two.
use native.Mathlib.Omega.{arith}
use borrow.Author.Rules.{rules}
use Prim.Native.Nat.{◌+◌, ◌<◌}
use Rattle.sets.specs.Sets.{FirstFrom}
use Rattle.sets.proofs.FirstLaws.{none_from, none_more, first_in}
use Rattle.sets.proofs.SetLaws.{has_lt}
use Rattle.sets.proofs.LocationSet.first_from.Goals as goal

found : (c : goal.After-low) → FirstFrom c.args.self c.args.start (c.max-from.result + c.low.result)
found c =
    let e = c.max-from.ensures in
    let a = c.loop-i.auto.i in
    first_in _ _ c.loop-i.i c.max-from.result (omega arith) (omega (arith, e, a)) (omega (arith, e)) (λ j p q. c.loop-i.invariant j p (omega (arith, e)))
    _ (search rules) c.low.ensures

pub overflow_add-result : goal.overflow_add-result
overflow_add-result c = let l : c.max-from.result + c.low.result < 256 = has_lt _ _ (found c).member in search rules

pub returns-then-w-ne0 : goal.returns-then-w-ne0
returns-then-w-ne0 c = found c

pub loop-i-preserved : goal.loop-i-preserved
loop-i-preserved c =
    let e = c.max-from.ensures in
    let a = c.loop-i.auto.i in
    none_more _ _ c.loop-i.i c.max-from.result (omega arith) (omega (arith, e, a)) (omega (arith, e))
    (λ j p q. c.loop-i.invariant j p (omega (arith, e))) (omega arith)

pub returns : goal.returns
returns c = none_from _ _ (λ j p q. c.loop-i.invariant j p (omega (arith, c.loop-i-test.false)))
