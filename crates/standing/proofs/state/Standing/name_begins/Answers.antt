use Rattle.std.proofs.Common.{ℕ, ◌&&◌, ◌∙◌, rules, tests}
use Rattle.std.proofs.lemmas.Iterator.{YieldsList-from_slice}
use Rattle.std.proofs.lemmas.Iterator.Search.{any_from_yields_List}
use Rattle.rules.specs.declared.statements.TheConstants.{KINDS}
use Rattle.rules.specs.Kinds.{byte_of}
use Rattle.rules.specs.Table.{name_of}
use Rattle.rules.specs.Words.{opens}
use Rattle.standing.specs.Numbers.{row_lives, name_begins}
use Rattle.standing.proofs.Searching.{any_kind}
use Rattle.standing.proofs.state.Standing.name_begins.Goals as goal

pub returns : goal.returns
unfolding name_begins
returns c =
    let standing = c.args.self.now in
    let u = c.args.part.now in
    let offered = λ (b : ℕ). opens u (name_of b) && row_lives standing b in
    any_from_yields_List (λ kind. offered (byte_of kind)) _ _ _ c.any.ensures.ran (YieldsList-from_slice KINDS cc)
    (λ x b q k. search (rules, tests))
    ∙ any_kind offered
