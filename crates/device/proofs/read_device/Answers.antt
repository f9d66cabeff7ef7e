-- The numbers are those of the device that the bytes read as; a refusal is handed on with the file named.
use mathlib.Core.Path.{ap}
use Rattle.answers.specs.Check.{within}
use Rattle.answers.specs.declared.File.TheVariants.{Device}
use Rattle.device.proofs.DeviceLaws.{read_gives}
use Rattle.device.proofs.read_device.Goals as goal

pub invariant_of-result : goal.invariant_of-result
invariant_of-result c = record { reads = ∣ read_gives c.args.s.now Device _ (ap (within Device) c.in-Ok.ensures) ∣₁ }
