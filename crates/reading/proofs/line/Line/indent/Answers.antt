use native.Mathlib.Omega.{arith}
use Rattle.reading.proofs.Indenting.{passed_none, passed_more, indents_nothing, indents_other, indents_begun, indents_not, indents_at, blank_at}
use Rattle.reading.proofs.line.Line.indent.Goals as goal

pub loop-init : goal.loop-init
loop-init c = passed_none _ _ _ _ _ c.requires.0

pub returns-in-Unfinished-clause-indents : goal.returns-in-Unfinished-clause-indents
returns-in-Unfinished-clause-indents c =
    indents_begun _ _ _ _ _ _ _ c.loop.invariant c.loop-test.true _ c.in-Unfinished.ensures c.if-p-self.true c.if-lives.true

pub returns-in_default-clause-indents : goal.returns-in_default-clause-indents
returns-in_default-clause-indents c =
    indents_other _ _ _ _ _ _ _ c.loop.invariant c.loop-test.true _ (omega arith) _ c.in-To.ensures (omega (arith, c.in-To.ensures.2, c.if-to-p.false))

pub returns-in_default-2-clause-indents : goal.returns-in_default-2-clause-indents
returns-in_default-2-clause-indents c =
    indents_not _ _ _ _ _ _ _ c.loop.invariant c.loop-test.true _ (omega arith) c.in-Unfinished.ensures (λ z. c.if-lives.false)

pub returns-in_default-3-clause-indents : goal.returns-in_default-3-clause-indents
returns-in_default-3-clause-indents c =
    indents_not _ _ _ _ _ _ _ c.loop.invariant c.loop-test.true _ (omega arith) c.in-Unfinished.ensures (λ z. absurd (c.if-p-self.false z))

pub returns-in_default-4-clause-indents : goal.returns-in_default-4-clause-indents
returns-in_default-4-clause-indents c = indents_nothing _ _ _ _ _ _ _ c.loop.invariant c.loop-test.true _ c.in_default.ensures

pub loop-preserved : goal.loop-preserved
loop-preserved c = passed_more _ _ _ _ _ _ _ c.loop.invariant c.loop-test.true _ c.in-To.ensures (omega arith)

pub returns-clause-indents : goal.returns-clause-indents
returns-clause-indents c = indents_at _ _ _ _ _ _ _ c.loop.invariant c.loop-test.false _

pub returns-clause-blank : goal.returns-clause-blank
returns-clause-blank c = blank_at _ _ _ _ _ _ _ c.loop.invariant c.loop-test.false
