-- A function is refused where its header does not fit or is out of its limits; else its body is read in its own scope.
use native.Mathlib.Omega.{arith}
use mathlib.Core.Path.{refl, sym, ap, ◌∙◌}
use Rattle.answers.specs.Check.{refused}
use Rattle.answers.proofs.Passed.{passed_on, passed_as}
use Rattle.rules.specs.Syntax.{parameter}
use Rattle.program.proofs.PastLaws.{between_refused}
use Rattle.program.proofs.FunctionLaws.{fn_short, fn_head, fn_body}
use Rattle.program.proofs.functions.read_function.Goals as goal

pub returns-then-s-at-lt-BYTES-clause-position : goal.returns-then-s-at-lt-BYTES-clause-position
returns-then-s-at-lt-BYTES-clause-position c fs h = ap refused c.at.ensures ∙ sym (fn_short _ _ _ (omega arith))

pub returns-in_err-header-clause-position : goal.returns-in_err-header-clause-position
returns-in_err-header-clause-position c fs h =
    passed_on _ c.from_residual.ensures.1 ∙ sym (fn_head _ _ _ (omega arith) _ (sym c.in_err-header.ensures))

pub returns-in_err-header-clause-between : goal.returns-in_err-header-clause-between
returns-in_err-header-clause-between c = between_refused _ _ _ _ (passed_as _ c.from_residual.ensures.1)

pub returns-clause-position : goal.returns-clause-position
returns-clause-position c fs h =
    c.read_block.ensures.position parameter (record { places = _; earlier = fs }) (record { places_are = refl; heads = h })
    ∙ sym (fn_body _ _ _ (omega arith) _ (sym c.in_ok-header.ensures))
