-- The end of a quiet operation: by the table.
use native.Mathlib.Omega.{arith}
use mathlib.Core.Path.{ap, ◌∙◌}
use Rattle.rules.specs.Table.{size_of}
use Rattle.walking.specs.Quiet.{none, operation}
use Rattle.walking.proofs.Bytes.{silent}
use Rattle.walking.proofs.quiet.quiet_end.Goals as goal

pub returns-in-Gate : goal.returns-in-Gate
returns-in-Gate c =
    let b = c.in-Ok.ensures.ok in
    let size = c.size.ensures in
    (omega (arith, size.between), rw (size.value ∙ ap size_of b) (operation (silent b c.in-Gate.is) none))
