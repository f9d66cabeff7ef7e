use native.Mathlib.Omega.{arith}
use mathlib.Core.Path.{sym, ap, ◌∙◌}
use Rattle.answers.specs.Check.{refused}
use Rattle.program.proofs.OperandLaws.{below_end, below_bad, below_more}
use Rattle.program.proofs.operands.all_below.Goals as goal

pub returns-then-limit-s : goal.returns-then-limit-s
returns-then-limit-s c =
    ap refused c.at.ensures ∙ sym (c.loop-p.invariant.1 ∙ below_bad _ _ _ _ c.loop-p-test.true (omega arith))

pub loop-p-preserved : goal.loop-p-preserved
loop-p-preserved c = (omega arith, c.loop-p.invariant.1 ∙ below_more _ _ _ _ c.loop-p-test.true (omega arith))

pub returns : goal.returns
returns c = sym (c.loop-p.invariant.1 ∙ below_end _ _ _ _ c.loop-p.invariant.0 c.loop-p-test.false)
