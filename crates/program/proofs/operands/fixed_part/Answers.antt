use native.Mathlib.Omega.{arith}
use mathlib.Core.Path.{sym, ap, ◌∙◌}
use Prim.Native.Nat.{ℕ, ◌+◌}
use Rattle.answers.specs.Check.{ok, refused}
use Rattle.rules.specs.Table.{size_of, operand_at}
use Rattle.rules.proofs.KindBytes.{byte_above, byte_below}
use Rattle.program.proofs.OperandLaws.{goods_none, goods_more, fixed_short, fixed_bad, fixed_good}
use Rattle.program.proofs.operands.fixed_part.Goals as goal

pub returns-then-end-at-clause-position : goal.returns-then-end-at-clause-position
returns-then-end-at-clause-position c S h =
    let e = c.requires.2 in
    let z = c.size-size.ensures.value ∙ ap size_of e in
    ap refused c.at.ensures ∙ sym (fixed_short _ S _ _ (byte_above c.args.kind e) (byte_below c.args.kind e) (omega (arith, z)))

pub loop-n-init : goal.loop-n-init
loop-n-init c = λ S h. goods_none _ _ _ _

pub returns-then-not-in_range-clause-position : goal.returns-then-not-in_range-clause-position
returns-then-not-in_range-clause-position c S h =
    let e = c.requires.2 in
    let z = c.size-size.ensures.value ∙ ap size_of e in
    let operand = c.operand.ensures ∙ ap (λ (b : ℕ). operand_at b c.loop-n.n) e in
    ap refused c.at-then-not-in_range.ensures
    ∙ sym (fixed_bad _ S _ _ (byte_above c.args.kind e) (byte_below c.args.kind e) (omega (arith, z)) _ _ _ (omega arith) (omega (arith, z))
    (c.loop-n.invariant S h) operand (c.in_range.ensures S h) c.if-not-in_range.true)

pub loop-n-preserved : goal.loop-n-preserved
loop-n-preserved c S h =
    let operand = c.operand.ensures ∙ ap (λ (b : ℕ). operand_at b c.loop-n.n) c.requires.2 in
    goods_more _ _ _ _ _ _ _ (c.loop-n.invariant S h) operand (c.in_range.ensures S h) c.if-not-in_range.false

pub returns-clause-position : goal.returns-clause-position
returns-clause-position c S h =
    let e = c.requires.2 in
    let z = c.size-size.ensures.value ∙ ap size_of e in
    ap (λ (n : ℕ). ok (c.args.at + n)) z
    ∙ sym (fixed_good _ S _ _ (byte_above c.args.kind e) (byte_below c.args.kind e) (omega (arith, z)) _ (omega (arith, z)) (c.loop-n.invariant S h))

pub returns-clause-behind_fixed : goal.returns-clause-behind_fixed
returns-clause-behind_fixed c =
    let z = c.size-size.ensures.value ∙ ap size_of c.requires.2 in (omega (arith, z), omega arith)
