use mathlib.Core.Path.{◌∙◌}
use native.Mathlib.Omega.{arith}
use lib.ListN.{length-set}
use Rattle.rules.specs.Basics.{byte}
use Rattle.steps.specs.State.{located_in}
use Rattle.steps.proofs.Lists.{filled_more}
use Rattle.steps.proofs.asks.actuals.Goals as goal

pub loop-i-preserved : goal.loop-i-preserved
loop-i-preserved c = (
  length-set c.loop-i.places c.loop-i.i _
      ∙ c.loop-i.invariant.0,
  filled_more (λ n. located_in c.args.job.now (byte c.args.bytes.now n)) c.loop-i.places (record { 0 = 0 }) c.loop-i.i _
      (omega (arith, c.requires.0, c.loop-i.invariant.0, c.loop-i-test.true)) c.located.ensures c.loop-i.invariant.1,
)
