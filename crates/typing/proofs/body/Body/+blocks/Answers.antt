-- Every arm of a statement has the statement of its kind, with its operands' bounds; the operation answers for it. A slot's number is its byte, which
-- the statement has.
use mathlib.Core.Path.{refl, ◌∙◌}
use native.Mathlib.Omega.{arith}
use Prim.Native.Nat.{ℕ, ◌+◌}
use lib.Dec.{eqb}
use Rattle.answers.proofs.Passed.{passed_as}
use Rattle.rules.specs.declared.statements.Kind.TheVariants.{Free, Gate, Measure, Merge, Ref, Get, Set, Bool}
use Rattle.rules.specs.Basics.{byte}
use Rattle.rules.specs.Syntax.{init, free, gate, measure, merge, new_ref, get_ref, set_ref, constant}
use Rattle.program.proofs.In.{statement_view, statement_byte}
use Rattle.typing.proofs.Answering.{performed, placed}
use Rattle.typing.proofs.BlockLoops.{block_end, start, ends, statement_case, stops, moves, onward, closes, unclosed}
use Rattle.typing.proofs.Branches.{bool_at, reference_at, an_if, then_case, else_case, middle_moves, if_no, if_stops, else_stops, if_differs, if_joins}
use Rattle.typing.proofs.Branches.{a_while, body_case, while_no, while_stops, while_changes, while_again}
use Rattle.typing.proofs.Views.{of_kind, made, sized, made_sized}
use Rattle.typing.proofs.body.Body.+blocks.Goals as goal

pub type_block-type_statements-requires : goal.type_block-type_statements-requires
type_block-type_statements-requires t c = (omega arith, c.requires)

pub type_block-returns-in_err-typed : goal.type_block-returns-in_err-typed
type_block-returns-in_err-typed t c = λ b. unclosed b c.in_err-typed.ensures (passed_as _ c.from_residual.ensures.1)

pub type_block-returns : goal.type_block-returns
type_block-returns t c = λ b. closes b c.in_ok-typed.ensures (λ u h. c.close.ensures b.side b.places b.entry u b.is h)

pub type_statements-overflow_add-first : goal.type_statements-overflow_add-first
type_statements-overflow_add-first t c = let k = block_end c.requires in omega arith

pub type_statements-word_at-requires : goal.type_statements-word_at-requires
type_statements-word_at-requires t c = let k = block_end c.requires in omega arith

pub type_statements-overflow_add-stop : goal.type_statements-overflow_add-stop
type_statements-overflow_add-stop t c = let k = block_end c.requires in omega arith

pub type_statements-loop-typed-init : goal.type_statements-loop-typed-init
type_statements-loop-typed-init t c = (omega arith, omega arith, λ b. start b _ (omega arith))

pub type_statements-type_statement-requires : goal.type_statements-type_statement-requires
type_statements-type_statement-requires t c =
    let k = block_end c.requires in
    (omega arith, statement_case c.requires _ (c.loop-typed.invariant.2 c.requires) c.loop-typed-test.true)

pub type_statements-returns-in_err-typed : goal.type_statements-returns-in_err-typed
type_statements-returns-in_err-typed t c =
    λ b.
    stops b _ (c.loop-typed.invariant.2 b) c.loop-typed-test.true c.in_err-typed.ensures (passed_as _ c.from_residual.ensures.1)

pub type_statements-loop-typed-smaller : goal.type_statements-loop-typed-smaller
type_statements-loop-typed-smaller t c =
    let k = moves c.requires _ (c.loop-typed.invariant.2 c.requires) c.loop-typed-test.true c.in_ok-typed.ensures in
    omega arith

pub type_statements-loop-typed-preserved : goal.type_statements-loop-typed-preserved
type_statements-loop-typed-preserved t c =
    let k = moves c.requires _ (c.loop-typed.invariant.2 c.requires) c.loop-typed-test.true c.in_ok-typed.ensures in
    (omega arith, omega arith, λ b. onward b _ (c.loop-typed.invariant.2 b) c.loop-typed-test.true c.in_ok-typed.ensures)

pub type_statements-returns : goal.type_statements-returns
type_statements-returns t c = λ b. ends b _ (c.loop-typed.invariant.2 b) (omega arith) (omega arith)

pub type_if-slot-requires : goal.type_if-slot-requires
type_if-slot-requires t c = let v = an_if c.requires.stands c.requires.starts in (omega arith, omega arith)

pub type_if-overflow_add-at : goal.type_if-overflow_add-at
type_if-overflow_add-at t c = let v = an_if c.requires.stands c.requires.starts in omega arith

pub type_if-overflow_add-at-2 : goal.type_if-overflow_add-at-2
type_if-overflow_add-at-2 t c = let v = an_if c.requires.stands c.requires.starts in omega arith

pub type_if-returns-in_err-need_bool : goal.type_if-returns-in_err-need_bool
type_if-returns-in_err-need_bool t c =
    λ u.
    let bool = bool_at u c.slot.ensures (c.in_err-need_bool.ensures u.side u.places u.entry u.is) in
    if_no u c.requires.starts bool (passed_as _ c.from_residual.ensures.1)

pub type_if-type_block-requires : goal.type_if-type_block-requires
type_if-type_block-requires t c = let v = an_if c.requires.stands c.requires.starts in (omega arith, then_case c.requires.stands c.requires.starts)

pub type_if-returns-in_err-first : goal.type_if-returns-in_err-first
type_if-returns-in_err-first t c =
    λ u.
    let bool = bool_at u c.slot.ensures (c.in_ok-need_bool.ensures u.side u.places u.entry u.is) in
    if_stops u c.requires.starts bool c.in_err-first.ensures (passed_as _ c.from_residual-in_err-first.ensures.1)

pub type_if-type_block-requires-2 : goal.type_if-type_block-requires-2
type_if-type_block-requires-2 t c =
    let u = c.requires.stands in
    let bool = bool_at u c.slot.ensures (c.in_ok-need_bool.ensures u.side u.places u.entry u.is) in
    let m = middle_moves u c.requires.starts bool c.in_ok-first.ensures in
    (omega arith, else_case u c.requires.starts bool c.in_ok-first.ensures)

pub type_if-returns-in_err-second : goal.type_if-returns-in_err-second
type_if-returns-in_err-second t c =
    λ u.
    let bool = bool_at u c.slot.ensures (c.in_ok-need_bool.ensures u.side u.places u.entry u.is) in
    else_stops u c.requires.starts bool c.in_ok-first.ensures c.in_err-second.ensures (passed_as _ c.from_residual-in_err-second.ensures.1)

pub type_if-returns-then-not-same : goal.type_if-returns-then-not-same
type_if-returns-then-not-same t c =
    λ u.
    let bool = bool_at u c.slot.ensures (c.in_ok-need_bool.ensures u.side u.places u.entry u.is) in
    if_differs u c.requires.starts bool c.in_ok-first.ensures c.in_ok-second.ensures c.same.ensures c.at.ensures c.if-not-same.true

pub type_if-returns : goal.type_if-returns
type_if-returns t c =
    λ u.
    let bool = bool_at u c.slot.ensures (c.in_ok-need_bool.ensures u.side u.places u.entry u.is) in
    if_joins u c.requires.starts bool c.in_ok-first.ensures c.in_ok-second.ensures c.same.ensures refl refl c.if-not-same.false

pub type_while-slot-requires : goal.type_while-slot-requires
type_while-slot-requires t c = let v = a_while c.requires.stands c.requires.starts in (omega arith, omega arith)

pub type_while-overflow_add-at : goal.type_while-overflow_add-at
type_while-overflow_add-at t c = let v = a_while c.requires.stands c.requires.starts in omega arith

pub type_while-returns-in_err-need_reference : goal.type_while-returns-in_err-need_reference
type_while-returns-in_err-need_reference t c =
    λ u.
    let reference = reference_at u c.slot.ensures (c.in_err-need_reference.ensures u.side u.places u.entry u.is) in
    while_no u c.requires.starts reference (passed_as _ c.from_residual.ensures.1)

pub type_while-type_block-requires : goal.type_while-type_block-requires
type_while-type_block-requires t c =
    let v = a_while c.requires.stands c.requires.starts in
    (omega arith, body_case c.requires.stands c.requires.starts)

pub type_while-returns-in_err-body : goal.type_while-returns-in_err-body
type_while-returns-in_err-body t c =
    λ u.
    let reference = reference_at u c.slot.ensures (c.in_ok-need_reference.ensures u.side u.places u.entry u.is) in
    while_stops u c.requires.starts reference c.in_err-body.ensures (passed_as _ c.from_residual-in_err-body.ensures.1)

pub type_while-returns-then-not-same : goal.type_while-returns-then-not-same
type_while-returns-then-not-same t c =
    λ u.
    let reference = reference_at u c.slot.ensures (c.in_ok-need_reference.ensures u.side u.places u.entry u.is) in
    while_changes u c.requires.starts reference c.in_ok-body.ensures c.same.ensures c.at.ensures c.if-not-same.true

pub type_while-returns : goal.type_while-returns
type_while-returns t c =
    λ u.
    let reference = reference_at u c.slot.ensures (c.in_ok-need_reference.ensures u.side u.places u.entry u.is) in
    while_again u c.requires.starts reference c.in_ok-body.ensures c.same.ensures refl refl c.if-not-same.false

pub type_statement-bounds-s-at : goal.type_statement-bounds-s-at
type_statement-bounds-s-at t c = let y = statement_byte c.requires.stands in omega arith

pub type_statement-known-kind-requires : goal.type_statement-known-kind-requires
type_statement-known-kind-requires t c = let y = statement_byte c.requires.stands in (omega arith, omega arith)

pub type_statement-slot-requires-in-Free : goal.type_statement-slot-requires-in-Free
type_statement-slot-requires-in-Free t c =
    let v = of_kind Free (statement_view c.requires.stands) c.known-kind.ensures c.in-Free.is in
    (omega arith, omega arith)

pub type_statement-slot-requires-in-Gate : goal.type_statement-slot-requires-in-Gate
type_statement-slot-requires-in-Gate t c =
    let v = of_kind Gate (statement_view c.requires.stands) c.known-kind.ensures c.in-Gate.is in
    (omega arith, omega arith)

pub type_statement-slot-requires-in-Measure : goal.type_statement-slot-requires-in-Measure
type_statement-slot-requires-in-Measure t c =
    let v = of_kind Measure (statement_view c.requires.stands) c.known-kind.ensures c.in-Measure.is in
    (omega arith, omega arith)

pub type_statement-slot-requires-in-Measure-2 : goal.type_statement-slot-requires-in-Measure-2
type_statement-slot-requires-in-Measure-2 t c =
    let v = of_kind Measure (statement_view c.requires.stands) c.known-kind.ensures c.in-Measure.is in
    (omega arith, omega arith)

pub type_statement-slot-requires-in-Merge : goal.type_statement-slot-requires-in-Merge
type_statement-slot-requires-in-Merge t c =
    let v = of_kind Merge (statement_view c.requires.stands) c.known-kind.ensures c.in-Merge.is in
    (omega arith, omega arith)

pub type_statement-slot-requires-in-Merge-2 : goal.type_statement-slot-requires-in-Merge-2
type_statement-slot-requires-in-Merge-2 t c =
    let v = of_kind Merge (statement_view c.requires.stands) c.known-kind.ensures c.in-Merge.is in
    (omega arith, omega arith)

pub type_statement-slot-requires-in-Merge-3 : goal.type_statement-slot-requires-in-Merge-3
type_statement-slot-requires-in-Merge-3 t c =
    let v = of_kind Merge (statement_view c.requires.stands) c.known-kind.ensures c.in-Merge.is in
    (omega arith, omega arith)

pub type_statement-slot-requires-in-Ref : goal.type_statement-slot-requires-in-Ref
type_statement-slot-requires-in-Ref t c =
    let v = of_kind Ref (statement_view c.requires.stands) c.known-kind.ensures c.in-Ref.is in
    (omega arith, omega arith)

pub type_statement-slot-requires-in-Ref-2 : goal.type_statement-slot-requires-in-Ref-2
type_statement-slot-requires-in-Ref-2 t c =
    let v = of_kind Ref (statement_view c.requires.stands) c.known-kind.ensures c.in-Ref.is in
    (omega arith, omega arith)

pub type_statement-slot-requires-in-Get : goal.type_statement-slot-requires-in-Get
type_statement-slot-requires-in-Get t c =
    let v = of_kind Get (statement_view c.requires.stands) c.known-kind.ensures c.in-Get.is in
    (omega arith, omega arith)

pub type_statement-slot-requires-in-Get-2 : goal.type_statement-slot-requires-in-Get-2
type_statement-slot-requires-in-Get-2 t c =
    let v = of_kind Get (statement_view c.requires.stands) c.known-kind.ensures c.in-Get.is in
    (omega arith, omega arith)

pub type_statement-slot-requires-in-Set : goal.type_statement-slot-requires-in-Set
type_statement-slot-requires-in-Set t c =
    let v = of_kind Set (statement_view c.requires.stands) c.known-kind.ensures c.in-Set.is in
    (omega arith, omega arith)

pub type_statement-slot-requires-in-Set-2 : goal.type_statement-slot-requires-in-Set-2
type_statement-slot-requires-in-Set-2 t c =
    let v = of_kind Set (statement_view c.requires.stands) c.known-kind.ensures c.in-Set.is in
    (omega arith, omega arith)

pub type_statement-slot-requires-in-Bool : goal.type_statement-slot-requires-in-Bool
type_statement-slot-requires-in-Bool t c =
    let v = of_kind Bool (statement_view c.requires.stands) c.known-kind.ensures c.in-Bool.is in
    (omega arith, omega arith)

pub type_statement-returns-in-Free : goal.type_statement-returns-in-Free
type_statement-returns-in-Free t c =
    λ u.
    let v = of_kind Free (statement_view u.stands) c.known-kind.ensures c.in-Free.is in
    performed u (λ d. free c.slot-in-Free.result) c.free.ensures
    (rw c.slot-in-Free.ensures v.2) (v.3 ∙ sized Free c.args.at c.size.ensures.value c.in-Free.is)

pub type_statement-returns-in-Gate : goal.type_statement-returns-in-Gate
type_statement-returns-in-Gate t c =
    λ u.
    let b : ℕ → ℕ = λ n. byte c.args.self.now.bytes.now (c.args.at + n) in
    let v = of_kind Gate (statement_view u.stands) c.known-kind.ensures c.in-Gate.is in
    performed u (λ d. gate (b 1) c.slot-in-Gate.result) (c.gate.ensures (b 1))
    (rw c.slot-in-Gate.ensures v.2) (v.3 ∙ sized Gate c.args.at c.size.ensures.value c.in-Gate.is)

pub type_statement-returns-in-Measure : goal.type_statement-returns-in-Measure
type_statement-returns-in-Measure t c =
    λ u.
    let b : ℕ → ℕ = λ n. byte c.args.self.now.bytes.now (c.args.at + n) in
    let v = of_kind Measure (statement_view u.stands) c.known-kind.ensures c.in-Measure.is in
    performed u (λ d. measure c.slot-in-Measure.result (b 2) c.slot-in-Measure-2.result) (c.measure.ensures (b 2))
    (rw (c.slot-in-Measure.ensures, c.slot-in-Measure-2.ensures) v.3) (v.4 ∙ sized Measure c.args.at c.size.ensures.value c.in-Measure.is)

pub type_statement-returns-in-Merge : goal.type_statement-returns-in-Merge
type_statement-returns-in-Merge t c =
    λ u.
    let b : ℕ → ℕ = λ n. byte c.args.self.now.bytes.now (c.args.at + n) in
    let v = of_kind Merge (statement_view u.stands) c.known-kind.ensures c.in-Merge.is in
    performed u (λ d. merge c.slot-in-Merge.result (b 2) c.slot-in-Merge-2.result (b 4) c.slot-in-Merge-3.result) (c.merge.ensures (b 2) (b 4))
    (rw (c.slot-in-Merge.ensures, c.slot-in-Merge-2.ensures, c.slot-in-Merge-3.ensures) v.4) (v.5 ∙ sized Merge c.args.at c.size.ensures.value c.in-Merge.is)

pub type_statement-returns-in-Ref : goal.type_statement-returns-in-Ref
type_statement-returns-in-Ref t c =
    λ u.
    let v = of_kind Ref (statement_view u.stands) c.known-kind.ensures c.in-Ref.is in
    performed u (λ d. new_ref c.slot-in-Ref.result c.slot-in-Ref-2.result) c.new_reference.ensures
    (rw (c.slot-in-Ref.ensures, c.slot-in-Ref-2.ensures) v.3) (v.4 ∙ sized Ref c.args.at c.size.ensures.value c.in-Ref.is)

pub type_statement-returns-in-Get : goal.type_statement-returns-in-Get
type_statement-returns-in-Get t c =
    λ u.
    let v = of_kind Get (statement_view u.stands) c.known-kind.ensures c.in-Get.is in
    performed u (λ d. get_ref c.slot-in-Get.result c.slot-in-Get-2.result) c.get_reference.ensures
    (rw (c.slot-in-Get.ensures, c.slot-in-Get-2.ensures) v.3) (v.4 ∙ sized Get c.args.at c.size.ensures.value c.in-Get.is)

pub type_statement-returns-in-Set : goal.type_statement-returns-in-Set
type_statement-returns-in-Set t c =
    λ u.
    let v = of_kind Set (statement_view u.stands) c.known-kind.ensures c.in-Set.is in
    performed u (λ d. set_ref c.slot-in-Set.result c.slot-in-Set-2.result) c.set_reference.ensures
    (rw (c.slot-in-Set.ensures, c.slot-in-Set-2.ensures) v.3) (v.4 ∙ sized Set c.args.at c.size.ensures.value c.in-Set.is)

pub type_statement-returns-in-Bool : goal.type_statement-returns-in-Bool
type_statement-returns-in-Bool t c =
    λ u.
    let b : ℕ → ℕ = λ n. byte c.args.self.now.bytes.now (c.args.at + n) in
    let v = of_kind Bool (statement_view u.stands) c.known-kind.ensures c.in-Bool.is in
    performed u (λ d. constant c.slot-in-Bool.result (eqb (b 2) 1)) (c.constant.ensures (eqb (b 2) 1))
    (rw c.slot-in-Bool.ensures v.2) (v.3 ∙ sized Bool c.args.at c.size.ensures.value c.in-Bool.is)

pub type_statement-bounds-s-at-in-Init : goal.type_statement-bounds-s-at-in-Init
type_statement-bounds-s-at-in-Init t c = let v = made (statement_view c.requires.stands) c.known-kind.ensures c.in-Init.is in omega arith

pub type_statement-slot-requires : goal.type_statement-slot-requires
type_statement-slot-requires t c =
    let v = made (statement_view c.requires.stands) c.known-kind.ensures c.in-Init.is in
    (omega arith, omega arith)

pub type_statement-returns-in-Init : goal.type_statement-returns-in-Init
type_statement-returns-in-Init t c =
    λ u.
    let b : ℕ → ℕ = λ n. byte c.args.self.now.bytes.now (c.args.at + n) in
    let v = made (statement_view u.stands) c.known-kind.ensures c.in-Init.is in
    placed u (λ d. init v.0 c.slot.result (record { no = b 2 })) (c.init.ensures v.0)
    (rw c.slot.ensures v.3) (v.4 ∙ made_sized c.args.at c.size.ensures.value c.in-Init.is)
