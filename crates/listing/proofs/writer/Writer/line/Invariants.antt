-- The items from this one on are left to be put.
use Rattle.std.proofs.Common.{map, drop}
use Rattle.rules.specs.Words.{space, behind}
use Rattle.listing.specs.Lines.{text_of_item}
use Rattle.listing.proofs.Putting.{Left}
use Rattle.listing.proofs.writer.Writer.line.Given as goal

abbrev pub invariant-loop-item : goal.invariant-loop-item
invariant-loop-item l =
    Left l.initial.self (behind space (map text_of_item l.items)) l.self (behind space (map text_of_item (drop l.item-index l.items)))
