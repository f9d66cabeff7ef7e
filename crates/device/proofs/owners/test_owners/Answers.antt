use native.Mathlib.Omega.{arith}
use Rattle.device.proofs.OwnerLaws.{owner_bad, owner_good, owner_done}
use Rattle.device.proofs.owners.test_owners.Goals as goal

pub returns-then-s-at-gt-MOST_JOBS : goal.returns-then-s-at-gt-MOST_JOBS
returns-then-s-at-gt-MOST_JOBS c =
    let a = c.args in
    let l = c.loop-i in
    owner_bad a.s.now a.n l.i l.invariant (omega arith) c.if-s-at-gt-MOST_JOBS.true _ c.at.ensures

pub loop-i-preserved : goal.loop-i-preserved
loop-i-preserved c =
    let a = c.args in
    let l = c.loop-i in
    owner_good a.s.now a.n l.i l.invariant (omega arith) c.if-s-at-gt-MOST_JOBS.false

pub returns : goal.returns
returns c =
    let a = c.args in
    let l = c.loop-i in
    owner_done a.s.now a.n l.i l.invariant (omega arith)
