use native.Mathlib.Omega.{arith}
use Rattle.stating.proofs.Passed.{passed_as}
use Rattle.stating.proofs.Listed.{numbers_next, numbers_err, numbers_all}
use Rattle.stating.proofs.statement.read_numbers.Goals as goal

pub returns-in_err-v-clause-reads_numbers : goal.returns-in_err-v-clause-reads_numbers
returns-in_err-v-clause-reads_numbers c =
    rw (passed_as _ c.from_residual.ensures.1)
    (numbers_err _ _ _ _ _ _ _ _ _ _ _ c.loop-j.invariant.read _ _ c.loop-j-test.true c.in_err-v.ensures.numbers)

pub loop-j-preserved : goal.loop-j-preserved
loop-j-preserved c = record {
  onward = omega (arith, c.loop-j.invariant.onward, c.in_ok-v.ensures.onto);
  within = omega (arith, c.in_ok-v.ensures.onto);
  read = numbers_next _ _ _ _ _ _ _ _ _ _ _ c.loop-j.invariant.read _ _ _ c.loop-j-test.true c.in_ok-v.ensures.numbers c.put.ensures;
}

pub returns-clause-reads_numbers : goal.returns-clause-reads_numbers
returns-clause-reads_numbers c =
    numbers_all _ _ _ _ _ _ _ _ _ _ _ c.loop-j.invariant.read c.loop-j.auto.j-end c.loop-j-test.false
