-- The operands behind number n are those of the kind without the first n.
use Rattle.std.proofs.Common.{ap, ◌∙◌, rules, tests, drop}
use Rattle.std.proofs.lemmas.Iterator.{YieldsList-from_slice}
use Rattle.std.proofs.lemmas.Iterator.Adapters.{YieldsList-from_skip}
use Rattle.std.proofs.lemmas.Iterator.Search.{all_from_yields_List}
use Rattle.rules.specs.Basics.{all}
use Rattle.rules.specs.Kinds.{byte_of, operands_of}
use Rattle.standing.specs.Numbers.{worded_of}
use Rattle.standing.proofs.Searching.{all_is}
use Rattle.standing.proofs.Thirteen.{operands_behind}
use Rattle.standing.proofs.state.Standing.worded_behind.Goals as goal

pub returns : goal.returns
returns c =
    let a = c.args in
    let worded = worded_of a.self.now in
    let operands = operands_of (byte_of a.kind) in
    all_from_yields_List worded _ _ _ c.all.ensures.ran (YieldsList-from_skip a.n (YieldsList-from_slice operands (cc)) (cc)) (λ x r q k. search (rules, tests))
    ∙ all_is worded (drop a.n operands)
    ∙ ap (all worded) (operands_behind a.kind a.n)
