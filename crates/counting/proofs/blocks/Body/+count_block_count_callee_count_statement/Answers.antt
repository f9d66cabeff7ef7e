-- Each goal is a law of the part that is counted, at its paths: what a block's statements are, and what a statement is by its kind.
use mathlib.Core.Path.{sym, ap, ◌∙◌}
use native.Mathlib.Omega.{arith}
use Rattle.rules.specs.Kinds.{byte_of}
use Rattle.counting.proofs.Apart.{block_apart, byte_apart, if_apart, while_apart, call_apart}
use Rattle.counting.proofs.Along.{along_start, along_next, along_step, along_end}
use Rattle.counting.proofs.Exits.{fewer, callee_body, if_exit, while_exit, call_exit, operation_kind, op_exit, known_exit, counted_exit}
use Rattle.counting.proofs.blocks.Body.+count_block_count_callee_count_statement.Goals as goal

pub count_block-block_end-end-requires : goal.count_block-block_end-end-requires
count_block-block_end-end-requires t c = let q = c.requires in let k = block_apart q.1.3 in (omega (arith, k.2, k.3), q.0.1.size)

pub count_block-loop-next-init : goal.count_block-loop-next-init
count_block-loop-next-init t c =
    let k = block_apart c.requires.1.3 in
    record { in_file = (omega arith, omega (arith, k.2, k.3)); capped = omega arith; along = along_start _ _ _ _ }

pub count_block-count_statement-statement-requires : goal.count_block-count_statement-statement-requires
count_block-count_statement-statement-requires t c =
    let q = c.requires in
    let l = c.loop-next.invariant in
    let n = along_next q.1.3 c.block_end-end.ensures l.along c.loop-next-test.true in
    let b = byte_apart n.3 in
    (omega (arith, l.in_file, b), (q.0, n))

pub count_block-loop-next-preserved : goal.count_block-loop-next-preserved
count_block-loop-next-preserved t c =
    let l = c.loop-next.invariant in
    let s = c.count_statement-statement.ensures in record {
      in_file = (omega (arith, l.in_file, s.in_file), s.in_file.1);
      capped = c.add-count.ensures.1;
      along = along_step l.along c.loop-next-test.true s.found c.add-count.ensures.0;
    }

pub count_block-returns : goal.count_block-returns
count_block-returns t c =
    let l = c.loop-next.invariant in
    record { found = along_end c.block_end-end.ensures l.along c.loop-next-test.false l.capped; in_file = l.in_file; capped = l.capped }

pub count_callee-recall-requires : goal.count_callee-recall-requires
count_callee-recall-requires t c = let P = c.requires.1.1 in omega (arith, c.requires.0, P.enough, P.few)

pub count_callee-returns-in-Some : goal.count_callee-returns-in-Some
count_callee-returns-in-Some t c = let e = sym c.recall.ensures ∙ c.in-Some.is in record { found = known_exit e; known = e; capped = c.if-count-le-MOST.true }

pub count_callee-count_block-sum-requires : goal.count_callee-count_block-sum-requires
count_callee-count_block-sum-requires t c =
    let l = c.requires.0 in
    let P = c.requires.1.1 in
    let w = callee_body P (omega (arith, l, P.enough)) c.head.ensures in
    (omega (arith, l), ((_, fewer _ (omega (arith, l)) P), (_, _, w.0, w.1)))

pub count_callee-returns-in_default-clause-found : goal.count_callee-returns-in_default-clause-found
count_callee-returns-in_default-clause-found t c = counted_exit c.requires.0 c.head.ensures c.count_block-sum.ensures.found c.remember.ensures.noted

pub count_statement-bounds-self-at : goal.count_statement-bounds-self-at
count_statement-bounds-self-at t c = let b = byte_apart c.requires.1.3 in omega (arith, b)

pub count_statement-known-kind-requires : goal.count_statement-known-kind-requires
count_statement-known-kind-requires t c = let b = byte_apart c.requires.1.3 in (b.0, b.1)

pub count_statement-count_block-then-requires : goal.count_statement-count_block-then-requires
count_statement-count_block-then-requires t c =
    let q = c.requires in
    let b = byte_apart q.1.3 in
    let k = if_apart q.1.3 (sym c.known-kind.ensures ∙ ap byte_of c.in-If.is) in
    (omega (arith, b), (q.0, (_, k.0, k.2, k.3)))

pub count_statement-count_block-other-requires : goal.count_statement-count_block-other-requires
count_statement-count_block-other-requires t c =
    let q = c.requires in
    let b = byte_apart q.1.3 in
    let k = if_apart q.1.3 (sym c.known-kind.ensures ∙ ap byte_of c.in-If.is) in
    let e = (c.count_block-then.ensures.found.block _ k.0 k.2 k.3).0 in
    (omega (arith, b, c.count_block-then.ensures.in_file), (q.0, (_, k.1, q.1.2, rw e k.4)))

pub count_statement-count_block-inside-requires : goal.count_statement-count_block-inside-requires
count_statement-count_block-inside-requires t c =
    let q = c.requires in
    let b = byte_apart q.1.3 in
    let k = while_apart q.1.3 (sym c.known-kind.ensures ∙ ap byte_of c.in-While.is) in
    (omega (arith, b), (q.0, (_, k.0, q.1.2, k.1)))

pub count_statement-bounds-self-at-in-Call : goal.count_statement-bounds-self-at-in-Call
count_statement-bounds-self-at-in-Call t c =
    let q = c.requires in
    let b = byte_apart q.1.3 in
    let k = call_apart q.1.3 (sym c.known-kind.ensures ∙ ap byte_of c.in-Call.is) in omega (arith, b, k.1)

pub count_statement-count_callee-requires : goal.count_statement-count_callee-requires
count_statement-count_callee-requires t c =
    let q = c.requires in
    let b = byte_apart q.1.3 in
    let k = call_apart q.1.3 (sym c.known-kind.ensures ∙ ap byte_of c.in-Call.is) in
    (omega (arith, b, k.0), (k.0, q.0))

pub count_statement-call_end-requires : goal.count_statement-call_end-requires
count_statement-call_end-requires t c =
    let q = c.requires in
    let b = byte_apart q.1.3 in
    let k = call_apart q.1.3 (sym c.known-kind.ensures ∙ ap byte_of c.in-Call.is) in
    (omega (arith, b, k.1), q.0.1.size)

pub count_statement-returns-in-If-clause-found : goal.count_statement-returns-in-If-clause-found
count_statement-returns-in-If-clause-found t c =
    let e = sym c.known-kind.ensures ∙ ap byte_of c.in-If.is in
    if_exit e c.count_block-then.ensures.found c.count_block-other.ensures.found c.add.ensures.0 c.add-in-If.ensures.0

pub count_statement-returns-in-While-clause-found : goal.count_statement-returns-in-While-clause-found
count_statement-returns-in-While-clause-found t c =
    let e = sym c.known-kind.ensures ∙ ap byte_of c.in-While.is in
    while_exit e c.count_block-inside.ensures.found c.add-in-While.ensures.0

pub count_statement-returns-in-Call : goal.count_statement-returns-in-Call
count_statement-returns-in-Call t c =
    let b = byte_apart c.requires.1.3 in
    let e = sym c.known-kind.ensures ∙ ap byte_of c.in-Call.is in
    let k = call_apart c.requires.1.3 e in
    let n = c.call_end.ensures in
    record { found = call_exit e c.count_callee.ensures.found n; in_file = (omega (arith, n), omega (arith, n, b, k.1)); capped = c.count_callee.ensures.capped }

pub count_statement-returns-in-Init : goal.count_statement-returns-in-Init
count_statement-returns-in-Init t c =
    let q = c.requires in
    let b = byte_apart q.1.3 in
    let n = operation_kind c.in-Init.is in
    let found = op_exit _ c.known-kind.ensures n.0 n.1 n.2 c.own_count.ensures.0 c.own_count.ensures.1 c.size.ensures.value in
    record { found = found; in_file = (omega (arith, c.size.ensures.between), omega (arith, b, (found.statement _ q.1.1 q.1.2 q.1.3).0)); capped = omega (arith, c.own_count.ensures.1) }
