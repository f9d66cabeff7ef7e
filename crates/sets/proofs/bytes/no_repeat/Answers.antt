use mathlib.Core.Path.{sym, ◌∙◌}
use Rattle.sets.proofs.Apart.{met_none, met_one, met_twice, met_all}
use Rattle.sets.proofs.bytes.no_repeat.Goals as goal

pub loop-i-init : goal.loop-i-init
loop-i-init c = met_none _ _ c.empty-later.ensures

pub returns-then-contains : goal.returns-then-contains
returns-then-contains c =
    sym (met_twice _ _ _ c.loop-i-test.true c.loop-i.auto.i c.loop-i.invariant (sym c.contains.ensures ∙ c.if-contains.true))

pub loop-i-preserved : goal.loop-i-preserved
loop-i-preserved c =
    met_one _ _ _ c.loop-i-test.true c.loop-i.auto.i c.loop-i.invariant _ (sym c.contains.ensures ∙ c.if-contains.false) c.add-later.ensures

pub returns : goal.returns
returns c = sym (met_all _ _ _ c.loop-i-test.false c.loop-i.invariant)
