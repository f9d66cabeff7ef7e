-- Each argument in turn.
use mathlib.Core.List.{map}
use Rattle.steps.specs.State.{place_of}
use Rattle.steps.proofs.Asking.{Left}
use Rattle.steps.proofs.asks.arguments.Given as goal

abbrev pub invariant-loop-i : goal.invariant-loop-i
invariant-loop-i l = Left l.slots l.given (map place_of l.places) l.i
