-- Where there is room for both lists: the callee's locations, then its arguments' slots.
use mathlib.Core.Path.{refl, sym, ap, ◌∙◌}
use borrow.Author.Rules.{rules}
use Rattle.standing.specs.declared.state.Head.{Head}
use Rattle.standing.proofs.Meaning.{means_short}
use Rattle.stating.proofs.Passed.{passed_as}
use Rattle.stating.proofs.Called.{lists_full, lists_err, lists_read}
use Rattle.stating.proofs.statement.read_lists.Goals as goal

pub program_room-requires : goal.program_room-requires
program_room-requires c = (means_short _ _ c.requires.1.1, search rules)

pub returns-then-not-program_room-clause-reads_lists : goal.returns-then-not-program_room-clause-reads_lists
returns-then-not-program_room-clause-reads_lists c =
    let k = ap (λ (h : Head). h.locations) c.head-locations.ensures in
    let m = ap (λ (h : Head). h.arguments) c.head-locations.ensures in
    let none = sym c.program_room.ensures ∙ c.if-not-program_room.true in
    lists_full _ _ _ _ c.args.first c.args.c.now _ _ _ _ k m refl _ none

pub returns-in_err-to-clause-reads_lists : goal.returns-in_err-to-clause-reads_lists
returns-in_err-to-clause-reads_lists c =
    let k = ap (λ (h : Head). h.locations) c.head-locations.ensures in
    let m = ap (λ (h : Head). h.arguments) c.head-locations.ensures in
    let room = sym c.program_room.ensures ∙ c.if-not-program_room.false in
    let places = c.program_places.ensures.value in
    rw (passed_as _ c.from_residual.ensures.1)
    (lists_err _ _ _ _ c.args.first c.args.c.now _ _ _ _ k m places _ _ room c.in_err-to.ensures.reads_list)

pub returns-clause-reads_lists : goal.returns-clause-reads_lists
returns-clause-reads_lists c =
    let k = ap (λ (h : Head). h.locations) c.head-locations.ensures in
    let m = ap (λ (h : Head). h.arguments) c.head-locations.ensures in
    let room = sym c.program_room.ensures ∙ c.if-not-program_room.false in
    let places = c.program_places.ensures.value in
    lists_read _ _ _ _ c.args.first c.args.c.now _ _ _ _ k m places _ _ _ _ room c.in_ok-to.ensures.reads_list c.read_list-2.ensures.reads_list
