-- The position after a statement: by its kind, from the statement that stands there.
use native.Mathlib.Omega.{arith}
use mathlib.Core.Path.{refl, sym, ◌∙◌}
use Rattle.program.proofs.In.{statement_view, statement_byte}
use Rattle.walking.proofs.Bytes.{operation_byte}
use Rattle.walking.proofs.Views.{view_call, view_end}
use Rattle.walking.proofs.Ends.{if_ends, while_ends}
use Rattle.walking.proofs.positions.statement_end.Goals as goal

pub bounds-s-at : goal.bounds-s-at
bounds-s-at c = let b = statement_byte c.requires.1.5 in omega (arith, b)

pub known-kind-requires : goal.known-kind-requires
known-kind-requires c = let b = statement_byte c.requires.1.5 in (b.0, b.1)

pub block_end-requires : goal.block_end-requires
block_end-requires c = let e = if_ends _ c.requires.1.5 (sym c.in-If.ensures) refl in (omega (arith, e.0, e.1), c.requires.0)

pub block_end-requires-in-If : goal.block_end-requires-in-If
block_end-requires-in-If c = let e = if_ends _ c.requires.1.5 (sym c.in-If.ensures) c.block_end.ensures in (omega (arith, e.1), c.requires.0)

pub block_end-requires-in-While : goal.block_end-requires-in-While
block_end-requires-in-While c = let e = while_ends c.requires.1.5 (sym c.in-While.ensures) in (omega (arith, e.0), c.requires.0)

pub call_end-requires : goal.call_end-requires
call_end-requires c = let v = view_call (statement_view c.requires.1.5) (sym c.in-Call.ensures) in (omega (arith, v.fits), c.requires.0)

pub returns-in-If : goal.returns-in-If
returns-in-If c = λ d S depths t q h. c.block_end-in-If.ensures ∙ sym (if_ends _ h (sym c.in-If.ensures) c.block_end.ensures).2

pub returns-in-While : goal.returns-in-While
returns-in-While c = λ d S depths t q h. c.block_end-in-While.ensures ∙ sym (while_ends h (sym c.in-While.ensures)).1

pub returns-in-Call : goal.returns-in-Call
returns-in-Call c = λ d S depths t q h. c.call_end.ensures ∙ sym (view_call (statement_view h) (sym c.in-Call.ensures)).next

pub returns-in-Init : goal.returns-in-Init
returns-in-Init c =
    λ d S depths t q h.
    let n = operation_byte _ _ c.known-kind.ensures c.in-Init.is in
    rw (c.size.ensures.value, c.known-kind.ensures) (sym (view_end (statement_view h) n.0 n.1 n.2))
