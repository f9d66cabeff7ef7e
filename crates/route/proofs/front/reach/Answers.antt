-- One member's step.
use mathlib.Core.Bool.{◌&&◌}
use mathlib.Core.Path.{ap, ◌∙◌}
use Rattle.sets.specs.Sets.{has}
use Rattle.route.proofs.Swept.{spread_skip, spread_more}
use Rattle.route.proofs.front.reach.Goals as goal

pub returns : goal.returns
returns c =
    let a = c.args in
    let o = c.common-new in
    λ S L h n p l f u. spread_more (spread_skip u a.x l f) c.without.result c.union.result o.result p
    (λ y. o.ensures y ∙ ap (λ z. has z y && has a.front.left y) c.row.ensures) c.note.ensures c.without.ensures c.union.ensures
