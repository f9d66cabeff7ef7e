use native.Mathlib.Omega.{arith}
use mathlib.Core.Path.{sym, ap, ◌∙◌}
use Prim.Native.Nat.{◌-◌}
use Rattle.std.specs.Prelude.{Ok}
use Rattle.answers.specs.declared.Fault.{Fault}
use Rattle.answers.specs.Check.{refused, refusal, number_of}
use Rattle.answers.proofs.Passed.{passed_on}
use Rattle.rules.specs.Kinds.{byte_of}
use Rattle.program.proofs.StatementLaws.{no_inner, st_none, st_refused, st_operation, st_while, st_if, st_if_refused, st_call, fixed_between}
use Rattle.rules.proofs.KindBytes.{byte_above, byte_below}
use Rattle.program.proofs.BlockLaws.{block_short, block_deep, block_long, block_enter, rest_end, rest_more, rest_refused}
use borrow.Author.Rules.{rules}
use Rattle.program.proofs.blocks.+read_block_read_statement.Goals as goal

pub read_block-returns-then-limit-at-lt2-clause-position : goal.read_block-returns-then-limit-at-lt2-clause-position
read_block-returns-then-limit-at-lt2-clause-position t c d S h = ap refused c.at.ensures ∙ sym (block_short _ _ _ _ _ _ (omega arith))

pub read_block-returns-then-depths-eq0-clause-position : goal.read_block-returns-then-depths-eq0-clause-position
read_block-returns-then-depths-eq0-clause-position t c d S h =
    ap refused c.at-then-depths-eq0.ensures ∙ sym (block_deep _ _ _ _ _ (omega arith) _ c.if-depths-eq0.true)

pub read_block-returns-then-limit-first-clause-position : goal.read_block-returns-then-limit-first-clause-position
read_block-returns-then-limit-first-clause-position t c d S h =
    let len = c.word_at-len.ensures.value in
    ap refused c.at-then-limit-first.ensures ∙ sym (block_long _ _ _ _ _ (omega arith) _ len _ c.if-depths-eq0.false (omega arith))

pub read_block-loop-next-init : goal.read_block-loop-next-init
read_block-loop-next-init t c =
    let len = c.word_at-len.ensures.value in (
      search rules,
      search rules,
      (c.word_at-len.result, omega arith, λ d S h. block_enter _ _ _ _ _ (omega arith) _ len _ c.if-depths-eq0.false (omega arith)),
    )

pub read_block-loop-next-preserved : goal.read_block-loop-next-preserved
read_block-loop-next-preserved t c =
    let w = c.in_ok-next.ensures.between in
    let l = c.loop-next.invariant in (
      omega (arith, w),
      omega (arith, w),
      (
        l.2.0 - 1,
        omega (arith, w),
        λ d S h. l.2.2 d S h ∙ rest_more _ _ _ _ _ _ _ c.loop-next-test.true l.2.1 _ (sym (c.in_ok-next.ensures.position d S h)),
      ),
    )

pub read_block-returns-in_err-next-clause-position : goal.read_block-returns-in_err-next-clause-position
read_block-returns-in_err-next-clause-position t c d S h =
    let l = c.loop-next.invariant in
    passed_on _ c.from_residual.ensures.1
    ∙ sym (l.2.2 d S h ∙ rest_refused _ _ _ _ _ _ _ c.loop-next-test.true l.2.1 _ (sym (c.in_err-next.ensures.position d S h)))

pub read_block-returns-clause-position : goal.read_block-returns-clause-position
read_block-returns-clause-position t c d S h =
    let l = c.loop-next.invariant in sym (l.2.2 d S h ∙ rest_end _ _ _ _ _ _ _ l.1 c.loop-next-test.false)

pub read_statement-returns-in-Err-clause-position : goal.read_statement-returns-in-Err-clause-position
read_statement-returns-in-Err-clause-position t c d S h =
    let e = c.in-Err.ensures.err in
    ap refused (c.at.ensures ∙ ap (λ (f : Fault). refusal (number_of f) c.args.at) e.0) ∙ sym (st_none _ _ _ _ _ _ e.1)

pub read_statement-returns-in_err-next-clause-position : goal.read_statement-returns-in_err-next-clause-position
read_statement-returns-in_err-next-clause-position t c d S h =
    let b = c.in-Ok.ensures.ok in
    passed_on _ c.from_residual.ensures.1
    ∙ sym (st_refused _ _ _ _ _ _ _ (byte_above c.in-Ok.kind b) (byte_below c.in-Ok.kind b) (sym (c.in_err-next.ensures.position S h)))

pub read_statement-returns-in_err-middle-in-If-clause-position : goal.read_statement-returns-in_err-middle-in-If-clause-position
read_statement-returns-in_err-middle-in-If-clause-position t c d S h =
    let b = sym c.in-Ok.ensures.ok ∙ ap byte_of c.in-If.is in
    passed_on _ c.from_residual-in_err-middle-in-If.ensures.1
    ∙ sym (st_if_refused _ _ _ _ _ _ _ _ b (sym (c.in_ok-next.ensures.position S h)) (sym (c.in_err-middle-in-If.ensures.position d S h)))

pub read_statement-returns-in_ok-middle-in-If-clause-position : goal.read_statement-returns-in_ok-middle-in-If-clause-position
read_statement-returns-in_ok-middle-in-If-clause-position t c d S h =
    let b = sym c.in-Ok.ensures.ok ∙ ap byte_of c.in-If.is in
    c.read_block-in-If.ensures.position d S h
    ∙ sym (st_if _ _ _ _ _ _ _ _ b (sym (c.in_ok-next.ensures.position S h)) (sym (c.in_ok-middle-in-If.ensures.position d S h)))

pub read_statement-returns-in-While-clause-position : goal.read_statement-returns-in-While-clause-position
read_statement-returns-in-While-clause-position t c d S h =
    let b = sym c.in-Ok.ensures.ok ∙ ap byte_of c.in-While.is in
    c.read_block-in-While.ensures.position d S h ∙ sym (st_while _ _ _ _ _ _ _ b (sym (c.in_ok-next.ensures.position S h)))

pub read_statement-returns-in-Call-clause-position : goal.read_statement-returns-in-Call-clause-position
read_statement-returns-in-Call-clause-position t c d S h =
    let b = sym c.in-Ok.ensures.ok ∙ ap byte_of c.in-Call.is in
    c.call_list.ensures.position ∙ sym (st_call _ _ _ _ _ _ _ _ b (sym (c.in_ok-next.ensures.position S h)) h.places_are)

pub read_statement-returns-in-Init : goal.read_statement-returns-in-Init
read_statement-returns-in-Init t c =
    let kind = c.in-Ok.kind in
    let b = c.in-Ok.ensures.ok in
    let n = no_inner c.in-Init.is in
    let f = c.in_ok-next.ensures in record {
      position = (λ d S h. f.position S h ∙ sym (st_operation _ _ _ _ _ _ kind b n.0 n.1 n.2));
      between = fixed_between _ _ _ (Ok _) f.behind_fixed (byte_above kind b) (byte_below kind b);
    }
