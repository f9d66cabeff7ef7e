-- Too long, no file, no second file, more than that, or both.
use Rattle.std.proofs.Common.{ap, ◌∙◌, arith}
use Rattle.std.proofs.lemmas.Grind.{common_steps}
use Rattle.print_check.specs.Parts.{files_of}
use Rattle.print_check.proofs.BundleLaws.{bad_long, bad_device, bad_program, bad_end, both}
use Rattle.print_check.proofs.bundle.Bundle.split.Goals as goal

pub returns-then-bytes-gt-MOST_BYTES : goal.returns-then-bytes-gt-MOST_BYTES
returns-then-bytes-gt-MOST_BYTES c = bad_long c.args.bytes.now c.if-bytes-gt-MOST_BYTES.true

pub returns-in_err-device : goal.returns-in_err-device
returns-in_err-device c = ap files_of c.from_residual.ensures ∙ bad_device c.args.bytes.now c.in_err-device.ensures

pub returns-in_err-program : goal.returns-in_err-program
returns-in_err-program c =
    ap files_of c.from_residual-in_err-program.ensures
    ∙ bad_program c.args.bytes.now c.in_ok-device.ensures c.in_err-program.ensures

pub returns-then-is_empty : goal.returns-then-is_empty
returns-then-is_empty c =
    both c.args.bytes.now c.in_ok-device.ensures c.in_ok-program.ensures c.if-bytes-gt-MOST_BYTES.false (grind (arith, common_steps))

pub returns-else-is_empty : goal.returns-else-is_empty
returns-else-is_empty c = bad_end c.args.bytes.now c.in_ok-device.ensures c.in_ok-program.ensures (grind (arith, common_steps))
