-- By the next word: a whole one is looked for among the decimals, an unfinished one is tried with each of them.
use mathlib.Core.Path.{sym, ◌∙◌}
use native.Mathlib.Omega.{arith}
use borrow.Author.Count.{below_more}
use Rattle.reading.specs.Cursor.{part}
use Rattle.reading.proofs.Counting.{numbers_nothing, numbers_begun, numbers_other, numbers_is, numbers_not, numbers_none}
use Rattle.reading.proofs.line.Line.number_below.Goals as goal

pub returns-then-begins-clause-numbers : goal.returns-then-begins-clause-numbers
unfolding part
returns-then-begins-clause-numbers c =
    numbers_begun _ _ _ _ _ c.in-Unfinished.ensures c.loop-v.v c.loop-v-test.true (sym c.begins.ensures ∙ c.if-begins.true)

pub loop-v-preserved : goal.loop-v-preserved
unfolding part
loop-v-preserved c = below_more _ _ c.loop-v.invariant (sym c.begins.ensures ∙ c.if-begins.false)

pub returns-in-Nothing-clause-numbers : goal.returns-in-Nothing-clause-numbers
returns-in-Nothing-clause-numbers c = numbers_nothing _ _ _ _ _ c.in-Nothing.ensures

pub returns-after-loop-v-clause-numbers : goal.returns-after-loop-v-clause-numbers
returns-after-loop-v-clause-numbers c =
    numbers_other _ _ _ _ _ c.in-Unfinished.ensures (λ v h. c.loop-v.invariant v (omega (arith, c.loop-v-test.false)))

pub returns-in-Some-clause-numbers : goal.returns-in-Some-clause-numbers
unfolding part
returns-in-Some-clause-numbers c = numbers_is _ _ _ _ _ _ c.in-To.ensures (omega arith) _ c.in-Some.ensures c.if-v-limit.true

pub returns-in_default-clause-numbers : goal.returns-in_default-clause-numbers
unfolding part
returns-in_default-clause-numbers c = numbers_not _ _ _ _ _ _ c.in-To.ensures (omega arith) _ c.in-Some.ensures c.if-v-limit.false

pub returns-in_default-2-clause-numbers : goal.returns-in_default-2-clause-numbers
unfolding part
returns-in_default-2-clause-numbers c = numbers_none _ _ _ _ _ _ c.in-To.ensures (omega arith) c.in_default.ensures
