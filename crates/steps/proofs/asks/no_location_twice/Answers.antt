-- The numbers that were written are those of the locations.
use mathlib.Core.Path.{ap, ◌∙◌}
use native.Mathlib.Omega.{arith}
use lib.ListN.{length, take}
use Rattle.rules.specs.Basics.{distinct}
use Rattle.steps.proofs.Lists.{apart_is, numbers_are}
use Rattle.steps.proofs.asks.no_location_twice.Goals as goal

pub returns : goal.returns
returns c = c.no_repeat.ensures ∙ apart_is (take (length c.args.places.now) c.numbers.result)
    ∙ ap distinct (numbers_are c.args.places.now _ (omega (arith, c.requires)) c.numbers.ensures)
