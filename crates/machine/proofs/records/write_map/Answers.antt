-- What is copied, and what is left.
use mathlib.Core.List.{◌++◌}
use mathlib.Core.Path.{ap, ◌∙◌}
use native.Mathlib.Omega.{arith}
use lib.ListN.{drop}
use Rattle.machine.proofs.Writing.{map_written}
use Rattle.machine.proofs.records.write_map.Goals as goal

pub returns : goal.returns
returns c = ap (λ xs. xs ++ drop c.args.n c.args.map.now) c.copy_from_slice.ensures.after ∙ map_written _ _ _ (omega (arith, c.requires)) c.requires.1
