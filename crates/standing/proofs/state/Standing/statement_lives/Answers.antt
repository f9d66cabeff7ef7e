use Rattle.std.proofs.Common.{◌∙◌, rules, tests}
use Rattle.std.proofs.lemmas.Iterator.{YieldsList-from_slice}
use Rattle.std.proofs.lemmas.Iterator.Search.{any_from_yields_List}
use Rattle.rules.specs.declared.statements.TheConstants.{KINDS}
use Rattle.rules.specs.Kinds.{byte_of}
use Rattle.standing.specs.Numbers.{row_lives, statement_lives}
use Rattle.standing.proofs.Searching.{any_kind}
use Rattle.standing.proofs.state.Standing.statement_lives.Goals as goal

pub returns : goal.returns
unfolding statement_lives
returns c =
    let standing = c.args.self.now in
    any_from_yields_List (λ kind. row_lives standing (byte_of kind)) _ _ _ c.any.ensures.ran (YieldsList-from_slice KINDS cc) (λ x b q k. search (rules, tests))
    ∙ any_kind (row_lives standing)
