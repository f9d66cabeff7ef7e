-- A law for each exit.
use mathlib.Core.Path.{refl, ap, ◌∙◌}
use Rattle.std.specs.Prelude.{Err}
use Rattle.steps.proofs.Passed.{passed_as}
use Rattle.steps.proofs.Merging.{reason_is, join_stops, join_goes}
use Rattle.steps.proofs.merge.join.Goals as goal

pub returns-in_err-edges : goal.returns-in_err-edges
returns-in_err-edges c = join_stops _ _ _ _ _ _ _ c.args.floor.now.map.now _ _ c.free.ensures _ c.distance.ensures c.in_err-edges.ensures.ok_part
    (passed_as _ c.from_residual.ensures.1 ∙ ap Err (reason_is _ _ _ c.in_err-edges.ensures.ok_part c.in_err-edges.ensures.value))

pub returns : goal.returns
returns c = join_goes _ _ _ _ _ _ _ c.args.floor.now.map.now _ _ c.free.ensures _ c.distance.ensures _ _ c.in_ok-edges.ensures.ok_part c.bind.ensures refl
