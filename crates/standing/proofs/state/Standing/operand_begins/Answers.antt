use Rattle.std.proofs.Common.{ℕ, ◌≡◌, false, sym, ap, ◌∙◌, arith}
use borrow.Author.Count.{below_more}
use Rattle.rules.specs.Grammar.{some_below}
use Rattle.rules.specs.Kinds.{byte_of}
use Rattle.standing.specs.Numbers.{count_of, offers, operand_begins}
use Rattle.standing.proofs.Searching.{none_found, one_found}
use Rattle.standing.proofs.state.Standing.operand_begins.Goals as goal

pub returns-then-offers : goal.returns-then-offers
unfolding operand_begins
returns-then-offers c =
    let a = c.args in
    let offered = offers a.self.now a.part.now (byte_of a.kind) a.n a.first in
    one_found c.count-v-end.result offered c.loop-v.v c.loop-v-test.true (sym c.offers.ensures ∙ c.if-offers.true)
    ∙ ap (λ (n : ℕ). some_below n offered) (c.count-v-end.ensures.value ∙ ap (count_of a.self.now) c.operand-operand.ensures)

pub loop-v-preserved : goal.loop-v-preserved
loop-v-preserved c =
    let a = c.args in
    let offered = offers a.self.now a.part.now (byte_of a.kind) a.n a.first in
    below_more (λ j. offered j ≡ false) c.loop-v.v c.loop-v.invariant (sym c.offers.ensures ∙ c.if-offers.false)

pub returns : goal.returns
unfolding operand_begins
returns c =
    let a = c.args in
    let offered = offers a.self.now a.part.now (byte_of a.kind) a.n a.first in
    none_found c.count-v-end.result offered (λ j l. c.loop-v.invariant j (omega arith))
    ∙ ap (λ (n : ℕ). some_below n offered) (c.count-v-end.ensures.value ∙ ap (count_of a.self.now) c.operand-operand.ensures)
