-- A law for each exit.
use mathlib.Core.Bool.{not}
use mathlib.Core.Path.{ap, ◌∙◌}
use Rattle.steps.proofs.Passed.{passed_as}
use Rattle.steps.proofs.Asking.{turned, argument_stops, argument_elsewhere, argument_there}
use Rattle.steps.proofs.asks.argument.Goals as goal

pub returns-in_err-k : goal.returns-in_err-k
returns-in_err-k c = argument_stops _ _ _ _ _ (passed_as _ c.from_residual.ensures.1) c.in_err-k.ensures

pub returns-then-ne : goal.returns-then-ne
returns-then-ne c = argument_elsewhere _ _ _ _ c.in_ok-k.ensures (turned _ _ c.ne.ensures ∙ ap not c.if-ne.true)

pub returns : goal.returns
returns c = argument_there _ _ _ _ c.in_ok-k.ensures (turned _ _ c.ne.ensures ∙ ap not c.if-ne.false)
