use mathlib.Core.Path.{sym, ap, ◌∙◌}
use native.Mathlib.Omega.{arith}
use lib.ListN.{set}
use Rattle.rules.specs.declared.statements.Operand.{Operand}
use Rattle.rules.specs.Listing.{silent}
use Rattle.standing.specs.Numbers.{unwritten_of}
use Rattle.standing.proofs.Meaning.{means_few}
use Rattle.stating.proofs.Passed.{passed_as}
use Rattle.stating.proofs.Operating.{first_now, first_before, operands_none, operands_err, operands_word, operands_silent, operands_all}
use Rattle.stating.proofs.statement.read_operands.Goals.{then-n-eq1, else-n-eq1}
use Rattle.stating.proofs.statement.read_operands.Goals as goal

pub loop-n-init : goal.loop-n-init
loop-n-init c = record { onward = omega arith; within = omega arith; read = operands_none _ _ _ _ _ _ _ }

pub loop-n-preserved-then-is_silent : goal.loop-n-preserved-then-is_silent
loop-n-preserved-then-is_silent c = record {
  onward = c.loop-n.invariant.onward;
  within = c.loop-n.invariant.within;
  read = operands_silent _ _ _ _ _ _ _ _ _ _ _ c.loop-n.invariant.read _ _ (omega (arith, c.byte.ensures)) (omega (arith, c.byte.ensures)) (omega arith)
      (omega (arith, c.size-n-end.ensures, c.loop-n-test.true)) (omega (arith, c.size-n-end.ensures, c.loop-n-test.true))
      (sym (ap silent c.operand-operand.ensures) ∙ sym c.is_silent.ensures ∙ c.if-is_silent.true)
      (c.unwritten.ensures ∙ ap (λ (o : Operand). unwritten_of c.args.c.now o c.loop-n.first) c.operand-operand.ensures) c.put-then-is_silent.ensures;
}

pub read_operand-requires : goal.read_operand-requires
read_operand-requires c = (
  c.loop-n.invariant.within,
  omega arith,
  omega (arith, c.size-n-end.ensures, c.loop-n-test.true),
  sym (ap silent c.operand-operand.ensures) ∙ sym c.is_silent.ensures ∙ c.if-is_silent.false,
  means_few _ _ c.requires.1.1,
)

pub returns-in_err-v-clause-reads_operands : goal.returns-in_err-v-clause-reads_operands
returns-in_err-v-clause-reads_operands c =
    rw (passed_as _ c.from_residual.ensures.1)
    (operands_err _ _ _ _ _ _ _ _ _ _ _ c.loop-n.invariant.read _ _ _ c.in_err-v.ensures.reads_operand)

pub loop-n-preserved : goal.loop-n-preserved
loop-n-preserved c = record {
  onward = omega (arith, c.loop-n.invariant.onward, c.in_ok-v.ensures.onto);
  within = omega (arith, c.in_ok-v.ensures.onto);
  read = operands_word _ _ _ _ _ _ _ _ _ _ _ c.loop-n.invariant.read _ _ _ _ (omega arith) (omega (arith, c.size-n-end.ensures, c.loop-n-test.true))
      (sym (ap silent c.operand-operand.ensures) ∙ sym c.is_silent.ensures ∙ c.if-is_silent.false)
      c.in_ok-v.ensures.reads_operand (omega (arith, c.in_ok-v.ensures.onto.0))
      (elim c.if-n-eq1.branch [
        | then-n-eq1 w ↦ first_now _ _ _ _ w.if-n-eq1.true w.first-is
        | else-n-eq1 w ↦ first_before _ _ _ _ w.if-n-eq1.false w.first-is
      ])
      c.put-in-loop-n.ensures;
}

pub returns-clause-reads_operands : goal.returns-clause-reads_operands
returns-clause-reads_operands c =
    let size = c.size-n-end.ensures in
    operands_all _ _ _ _ _ _ _ _ _ _ _ c.loop-n.invariant.read _ (c.put.ensures ∙ ap (set c.args.out.now c.args.c.now.used) c.byte.ensures.value)
    (omega (arith, size)) (omega (arith, size, c.loop-n.auto)) (omega (arith, size, c.loop-n-test.false))
