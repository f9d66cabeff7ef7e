-- The number of locations of the header that the reader hands on, or its refusal.
use mathlib.Core.Path.{◌∙◌}
use Rattle.answers.proofs.Passed.{passed_on}
use Rattle.abwakiris.proofs.ReadLaws.{device_said}
use Rattle.abwakiris.proofs.reads.read_device.Goals as goal

pub returns-in_err-device : goal.returns-in_err-device
returns-in_err-device c = passed_on _ c.from_residual.ensures.1 ∙ device_said c.args.bytes.now c.in_err-device.ensures.said

pub returns : goal.returns
returns c = device_said c.args.bytes.now c.in_ok-device.ensures.said
