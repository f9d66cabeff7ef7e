-- A line goes on behind a name where it fits, and one goes on behind some word for the first operand.
use Rattle.std.proofs.Common.{ℕ, ◌≡◌, true, Bool, ◌&&◌, refl, sym, ap, ◌∙◌, rules, tests, arith}
use Rattle.std.proofs.lemmas.Iterator.{YieldsList-from_range}
use Rattle.std.proofs.lemmas.Iterator.Search.{any_from_yields_List}
use Rattle.rules.specs.Grammar.{some_below}
use Rattle.rules.specs.Table.{operand_at}
use Rattle.rules.specs.Kinds.{byte_of}
use Rattle.standing.specs.Numbers.{fits_of, count_of, rest_lives, row_lives}
use Rattle.standing.proofs.Searching.{any_below}
use Rattle.standing.proofs.state.Standing.row_lives.Goals as goal

pub returns-else-fits : goal.returns-else-fits
unfolding row_lives
returns-else-fits c = search rules

pub returns-then-fits : goal.returns-then-fits
unfolding row_lives
returns-then-fits c =
    let standing = c.args.self.now in
    let b = byte_of c.args.kind in
    let words = c.count-words.result in
    let many : words ≡ count_of standing (operand_at b 1) = c.count-words.ensures.value ∙ ap (count_of standing) c.operand.ensures in
    let fit : true ≡ fits_of standing b = sym c.if-fits.true ∙ c.fits.ensures in
    any_from_yields_List (rest_lives standing b 2) _ _ _ c.any.ensures.ran (YieldsList-from_range 0 words words refl (omega arith))
    (λ x r q k. search (rules, tests))
    ∙ any_below (rest_lives standing b 2) words
    ∙ ap (λ (n : ℕ). some_below n (rest_lives standing b 2)) many
    ∙ ap (λ (t : Bool). t && some_below (count_of standing (operand_at b 1)) (rest_lives standing b 2)) fit
