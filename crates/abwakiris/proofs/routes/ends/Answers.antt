-- Each test in turn.
use mathlib.Core.Path.{sym, ap, ◌∙◌}
use Rattle.answers.specs.Check.{refused}
use Rattle.answers.specs.Said.{passed}
use Rattle.answers.proofs.Passed.{passed_as}
use Rattle.abwakiris.proofs.RouteLaws.{refusal_is, asked_length, asked_first, asked_second, asked_equal, asked_ok}
use Rattle.abwakiris.proofs.routes.ends.Goals as goal

pub returns-then-occupancy-n-clause-asked : goal.returns-then-occupancy-n-clause-asked
returns-then-occupancy-n-clause-asked c = ap refused c.at.ensures ∙ asked_length _ _ _ _ _ c.if-occupancy-n.true

pub returns-in_err-a-clause-asked : goal.returns-in_err-a-clause-asked
returns-in_err-a-clause-asked c =
    let none = c.in_err-a.ensures.ok_part in
    ap passed (passed_as _ c.from_residual.ensures.1)
    ∙ ap refused (refusal_is _ none _ _ c.in_err-a.ensures.value ∙ c.at-2.ensures)
    ∙ asked_first _ _ _ _ _ c.if-occupancy-n.false (rw none at c.inside.ensures.none)

pub returns-in_err-b-clause-asked : goal.returns-in_err-b-clause-asked
returns-in_err-b-clause-asked c =
    let a = rw c.in_ok-a.ensures.ok_part at c.inside.ensures.some in
    let none = c.in_err-b.ensures.ok_part in
    ap passed (passed_as _ c.from_residual-in_err-b.ensures.1)
    ∙ ap refused (refusal_is _ none _ _ c.in_err-b.ensures.value ∙ c.at-3.ensures)
    ∙ asked_second _ _ _ _ _ c.if-occupancy-n.false a.1 (rw none at c.inside-2.ensures.none)

pub returns-then-a-b-clause-asked : goal.returns-then-a-b-clause-asked
returns-then-a-b-clause-asked c =
    let a = rw c.in_ok-a.ensures.ok_part at c.inside.ensures.some in
    let b = rw c.in_ok-b.ensures.ok_part at c.inside-2.ensures.some in
    ap refused c.at-then-a-b.ensures ∙ asked_equal _ _ _ _ _ c.if-occupancy-n.false a.1 b.1 (sym a.0 ∙ c.if-a-b.true ∙ b.0)

pub returns-clause-asked : goal.returns-clause-asked
returns-clause-asked c =
    let a = rw c.in_ok-a.ensures.ok_part at c.inside.ensures.some in
    let b = rw c.in_ok-b.ensures.ok_part at c.inside-2.ensures.some in
    asked_ok _ _ _ _ _ c.if-occupancy-n.false a.1 b.1 (λ e. c.if-a-b.false (a.0 ∙ e ∙ sym b.0))
