use Rattle.std.proofs.Common.{sym, ap, ◌∙◌, arith}
use Rattle.rules.specs.Kinds.{byte_of}
use Rattle.listing.proofs.Apart.{block_fits, inside, statement_fits, goes_on, call_fits, if_here, else_here, while_here}
use Rattle.listing.proofs.Along.{along_next, along_step, along_end}
use Rattle.listing.proofs.Exits.{operation_byte, if_exit, while_exit, call_exit, op_exit}
use Rattle.listing.proofs.blocks.+put_block_put_statement.Goals as goal

pub put_block-block_end-stop-requires : goal.put_block-block_end-stop-requires
put_block-block_end-stop-requires t c = let b = block_fits c.requires in (omega arith, c.requires.size)

pub put_block-put_statement-p-requires : goal.put_block-put_statement-p-requires
put_block-put_statement-p-requires t c =
    (omega arith, along_next _ _ _ _ _ c.requires c.block_end-stop.ensures c.loop-p.invariant c.loop-p-test.true)

pub put_block-loop-p-smaller : goal.put_block-loop-p-smaller
put_block-loop-p-smaller t c =
    let h = along_next _ _ _ _ _ c.requires c.block_end-stop.ensures c.loop-p.invariant c.loop-p-test.true in
    let l = goes_on h c.put_statement-p.ensures in omega arith

pub put_block-loop-p-preserved : goal.put_block-loop-p-preserved
put_block-loop-p-preserved t c = along_step _ _ _ _ _ _ c.loop-p.invariant c.loop-p-test.true c.put_statement-p.ensures

pub put_block-returns : goal.put_block-returns
put_block-returns t c = along_end _ _ _ _ _ c.block_end-stop.ensures c.loop-p.invariant c.loop-p-test.false

pub put_statement-bounds-s-at : goal.put_statement-bounds-s-at
put_statement-bounds-s-at t c = inside c.requires

pub put_statement-known-kind-requires : goal.put_statement-known-kind-requires
put_statement-known-kind-requires t c = let f = statement_fits c.requires in (f.0, f.1)

pub put_statement-statement_line-requires : goal.put_statement-statement_line-requires
put_statement-statement_line-requires t c = (c.known-kind.ensures, (statement_fits c.requires).2)

pub put_statement-put_block-middle-requires : goal.put_statement-put_block-middle-requires
put_statement-put_block-middle-requires t c =
    let h = c.requires.shallow in
    let e = sym c.known-kind.ensures ∙ ap byte_of c.in-If.is in (omega arith, if_here c.requires e)

pub put_statement-put_block-requires : goal.put_statement-put_block-requires
put_statement-put_block-requires t c =
    let h = c.requires.shallow in
    let e = sym c.known-kind.ensures ∙ ap byte_of c.in-If.is in (omega arith, else_here c.requires e c.put_block-middle.ensures)

pub put_statement-statement_line-requires-in-While : goal.put_statement-statement_line-requires-in-While
put_statement-statement_line-requires-in-While t c = (c.known-kind.ensures, (statement_fits c.requires).2)

pub put_statement-put_block-requires-in-While : goal.put_statement-put_block-requires-in-While
put_statement-put_block-requires-in-While t c =
    let h = c.requires.shallow in
    let e = sym c.known-kind.ensures ∙ ap byte_of c.in-While.is in (omega arith, while_here c.requires e)

pub put_statement-call_line-requires : goal.put_statement-call_line-requires
put_statement-call_line-requires t c =
    let e = sym c.known-kind.ensures ∙ ap byte_of c.in-Call.is in (e, call_fits c.requires e)

pub put_statement-call_end-requires : goal.put_statement-call_end-requires
put_statement-call_end-requires t c =
    let f = call_fits c.requires (sym c.known-kind.ensures ∙ ap byte_of c.in-Call.is) in (omega arith, c.requires.size)

pub put_statement-statement_line-requires-in-Init : goal.put_statement-statement_line-requires-in-Init
put_statement-statement_line-requires-in-Init t c = (c.known-kind.ensures, (statement_fits c.requires).2)

pub put_statement-returns-in-If : goal.put_statement-returns-in-If
put_statement-returns-in-If t c =
    if_exit _ _ _ (sym c.known-kind.ensures ∙ ap byte_of c.in-If.is) c.statement_line.ensures c.put_block-middle.ensures c.line.ensures
    c.put_block.ensures

pub put_statement-returns-in-While : goal.put_statement-returns-in-While
put_statement-returns-in-While t c =
    while_exit _ _ _ (sym c.known-kind.ensures ∙ ap byte_of c.in-While.is) c.statement_line-in-While.ensures c.put_block-in-While.ensures

pub put_statement-returns-in-Call : goal.put_statement-returns-in-Call
put_statement-returns-in-Call t c =
    call_exit _ _ _ _ (sym c.known-kind.ensures ∙ ap byte_of c.in-Call.is) c.call_end.ensures c.call_line.ensures

pub put_statement-returns-in-Init : goal.put_statement-returns-in-Init
put_statement-returns-in-Init t c =
    op_exit _ _ _ _ (operation_byte _ _ c.known-kind.ensures c.in-Init.is) (rw (c.size.ensures.value, c.known-kind.ensures)) c.statement_line-in-Init.ensures
