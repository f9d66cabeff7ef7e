use mathlib.Core.Path.{refl, ◌∙◌}
use native.Mathlib.Omega.{arith}
use lib.ListN.{length-set}
use Rattle.steps.specs.State.{location_at}
use Rattle.steps.proofs.Lists.{filled_more}
use Rattle.steps.proofs.asks.numbers.Goals as goal

pub loop-i-preserved : goal.loop-i-preserved
loop-i-preserved c = (
  length-set c.loop-i.numbers c.loop-i.i _
      ∙ c.loop-i.invariant.0,
  filled_more (λ n. (location_at c.args.places.now n).0) c.loop-i.numbers 0 c.loop-i.i _
      (omega (arith, c.requires, c.loop-i.invariant.0, c.loop-i-test.true)) refl c.loop-i.invariant.1,
)
