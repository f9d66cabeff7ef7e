-- A step over a run: to the entry of the table, or to the block's end.
use native.Mathlib.Omega.{arith}
use mathlib.Core.Path.{refl}
use Rattle.walking.specs.Quiet.{none}
use Rattle.walking.proofs.quiet.Quiet.skip.Goals as goal

pub returns-then-p-stop : goal.returns-then-p-stop
returns-then-p-stop c = record {
  steps = λ s counts w k. record { end = c.args.p; run = none; inside = λ h. absurd (omega (arith, h, c.if-p-stop.true)); outside = λ h. refl };
}
