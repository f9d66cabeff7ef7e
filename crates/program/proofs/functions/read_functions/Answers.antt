use native.Mathlib.Omega.{arith}
use mathlib.Core.Path.{sym}
use Rattle.answers.proofs.Passed.{passed_as}
use Rattle.program.proofs.FunctionLaws.{left_start, left_end, left_refused, left_more}
use Rattle.program.proofs.functions.read_functions.Goals as goal

pub loop-init : goal.loop-init
loop-init c = (omega arith, omega arith, left_start _ _ _ _ c.empty-table.ensures)

pub add-requires : goal.add-requires
add-requires c = let l = c.loop.invariant.2 in omega (arith, l.heads.count, l.many)

pub loop-preserved : goal.loop-preserved
loop-preserved c =
    let l = c.loop.invariant.2 in
    let w = c.in_ok-end.ensures.between in
    let one = sym (c.in_ok-end.ensures.position l.read l.heads) in
    (omega (arith, w), omega (arith, w), left_more _ _ _ _ _ _ l c.loop-test.true (omega arith) _ _ one c.add.ensures)

pub returns-in_err-end-clause-functions_as : goal.returns-in_err-end-clause-functions_as
returns-in_err-end-clause-functions_as c =
    let l = c.loop.invariant.2 in
    rw (passed_as _ c.from_residual.ensures.1)
    (left_refused _ _ _ _ _ _ l c.loop-test.true _ (sym (c.in_err-end.ensures.position l.read l.heads)))

pub returns-in_err-end-clause-between : goal.returns-in_err-end-clause-between
returns-in_err-end-clause-between c = rw (passed_as _ c.from_residual.ensures.1) tt

pub returns-clause-functions_as : goal.returns-clause-functions_as
returns-clause-functions_as c = left_end _ _ _ _ _ _ c.loop.invariant.2 c.loop-test.false
