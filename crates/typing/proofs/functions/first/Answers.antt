use native.Mathlib.Omega.{arith}
use mathlib.Core.Path.{◌≡◌, ap, ◌∙◌}
use lib.Dec.{ltb}
use Rattle.typing.proofs.Entries.{first_none, first_one}
use Rattle.typing.proofs.functions.first.Goals as goal

pub loop-i-init : goal.loop-i-init
loop-i-init c = first_none c.empty-set.result c.empty-set.ensures

pub loop-i-preserved : goal.loop-i-preserved
loop-i-preserved c = first_one c.loop-i.set c.add-set.result c.loop-i.i c.loop-i.invariant c.add-set.ensures

pub returns : goal.returns
returns c = λ y. let end : c.loop-i.i ≡ c.args.k = omega arith in c.loop-i.invariant y ∙ ap (ltb y) end
