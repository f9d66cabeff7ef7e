-- From 256 on no set has any.
use mathlib.Core.Path.{sym, ◌∙◌}
use Rattle.sets.proofs.SetLaws.{high_off}
use Rattle.abwakiris.proofs.RouteLaws.{beyond}
use Rattle.abwakiris.proofs.routes.inside.Goals as goal

pub returns-in_err-l-clause-none : goal.returns-in_err-l-clause-none
returns-in_err-l-clause-none c =
    rw c.from_residual.ensures (high_off _ _ (beyond _ _ c.try_from.ensures (sym c.ok.ensures.value ∙ c.in_err-l.was)))
