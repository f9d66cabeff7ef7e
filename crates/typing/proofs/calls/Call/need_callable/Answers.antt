-- The row of checks, in the order of the refusals.
use mathlib.Core.Bool.{false, ◌&&◌, and-false}
use mathlib.Core.Path.{◌≡◌, sym, ◌∙◌}
use lib.ListN.{length}
use Rattle.answers.proofs.Passed.{passed_on}
use Rattle.sets.specs.Bytes.{all_apart}
use Rattle.typing.proofs.CallLists.{inside_row, twice_row, free_row}
use Rattle.typing.proofs.Rows.{then_gives, then_refused, need_yes, need_no}
use Rattle.typing.proofs.calls.Call.need_callable.Goals as goal
use Rattle.typing.proofs.calls.Call.need_callable.Goals.{then-not-no_repeat-via-then-not-no_repeat}
use Rattle.typing.proofs.calls.Call.need_callable.Goals.{then-not-no_repeat-via-else-not-no_repeat+then-not-no_repeat-2}

pub returns-then-not-all_in : goal.returns-then-not-all_in
returns-then-not-all_in c =
    λ d n C Γ w is.
    then_refused _ (need_no 13 _ c.at.ensures (inside_row c.args.self.now.places.now w ∙ sym c.all_in.ensures ∙ c.if-not-all_in.true))

pub returns-then-not-no_repeat : goal.returns-then-not-no_repeat
returns-then-not-no_repeat c =
    λ d n C Γ w is.
    let in_all = inside_row c.args.self.now.places.now w ∙ sym c.all_in.ensures ∙ c.if-not-all_in.false in
    let twice : (all_apart c.args.self.now.places.now && all_apart c.args.self.now.slots.now) ≡ false =
    elim c.then-not-no_repeat.branch [
      | then-not-no_repeat-via-then-not-no_repeat v ↦ rw (sym c.no_repeat.ensures ∙ v.if-not-no_repeat.true)
      | then-not-no_repeat-via-else-not-no_repeat+then-not-no_repeat-2 v ↦
          rw (sym v.no_repeat-else-not-no_repeat.ensures ∙ v.if-not-no_repeat-2.true) (and-false _)
    ] in
    let rows = twice_row d c.args.self.now.places.now c.args.self.now.slots.now in
    then_gives (need_yes 13 _ in_all) (then_refused _ (need_no 15 _ c.at-then-not-no_repeat.ensures (rows ∙ twice)))

pub returns-in_err-need_arguments : goal.returns-in_err-need_arguments
returns-in_err-need_arguments c =
    λ d n C Γ w is.
    let in_all = inside_row c.args.self.now.places.now w ∙ sym c.all_in.ensures ∙ c.if-not-all_in.false in
    let once =
    twice_row d c.args.self.now.places.now c.args.self.now.slots.now
    ∙ rw (sym c.no_repeat.ensures ∙ c.if-not-no_repeat.false, sym c.no_repeat-else-not-no_repeat.ensures ∙ c.if-not-no_repeat-2.false) in
    passed_on _ c.from_residual.ensures.1
    ∙ then_gives (need_yes 13 _ in_all) (then_gives (need_yes 15 _ once) (then_refused _ (c.in_err-need_arguments.ensures d n C Γ is)))

pub returns-then-not-all_in-2 : goal.returns-then-not-all_in-2
returns-then-not-all_in-2 c =
    λ d n C Γ w is.
    let in_all = inside_row c.args.self.now.places.now w ∙ sym c.all_in.ensures ∙ c.if-not-all_in.false in
    let once =
    twice_row d c.args.self.now.places.now c.args.self.now.slots.now
    ∙ rw (sym c.no_repeat.ensures ∙ c.if-not-no_repeat.false, sym c.no_repeat-else-not-no_repeat.ensures ∙ c.if-not-no_repeat-2.false) in
    let taken = free_row c.args.self.now.places.now (length c.args.self.now.slots.now) is ∙ sym c.all_in-2.ensures ∙ c.if-not-all_in-2.true in
    then_gives (need_yes 13 _ in_all)
    (then_gives (need_yes 15 _ once) (then_gives (c.in_ok-need_arguments.ensures d n C Γ is) (need_no 14 _ c.at-then-not-all_in-2.ensures taken)))

pub returns : goal.returns
returns c =
    λ d n C Γ w is.
    let in_all = inside_row c.args.self.now.places.now w ∙ sym c.all_in.ensures ∙ c.if-not-all_in.false in
    let once =
    twice_row d c.args.self.now.places.now c.args.self.now.slots.now
    ∙ rw (sym c.no_repeat.ensures ∙ c.if-not-no_repeat.false, sym c.no_repeat-else-not-no_repeat.ensures ∙ c.if-not-no_repeat-2.false) in
    let free = free_row c.args.self.now.places.now (length c.args.self.now.slots.now) is ∙ sym c.all_in-2.ensures ∙ c.if-not-all_in-2.false in
    then_gives (need_yes 13 _ in_all) (then_gives (need_yes 15 _ once) (then_gives (c.in_ok-need_arguments.ensures d n C Γ is) (need_yes 14 _ free)))
