-- A law for each exit.
use native.Mathlib.Omega.{arith}
use Rattle.steps.proofs.Coming.{room_there}
use Rattle.steps.proofs.Entering.{steady}
use Rattle.steps.proofs.Deciding.{comes, starts_there, by_told, by_return, by_end}
use Rattle.steps.proofs.step.step.Goals as goal

pub returns-then-job-eq0-2 : goal.returns-then-job-eq0-2
returns-then-job-eq0-2 c = by_end c.args.s.now _ c.args.floor.now.rows.now _ c.args.floor.now.map.now _ _ _ c.if-job-eq0.true c.if-job-eq0-2.true
    c.finished.ensures

pub give_back-at-requires : goal.give_back-at-requires
give_back-at-requires c = (steady c.requires, c.if-job-eq0.true, omega (arith, c.if-job-eq0-2.false))

pub returns-then-job-eq0 : goal.returns-then-job-eq0
returns-then-job-eq0 c = by_return c.args.s.now _ c.args.floor.now.rows.now _ c.args.floor.now.map.now _ _ _ _ _ c.give_back-at.ensures c.told.ensures

pub here-at-requires : goal.here-at-requires
here-at-requires c = (omega (arith, c.if-job-eq0.false), room_there (steady c.requires))

pub go_on-requires : goal.go_on-requires
go_on-requires c = (c.requires, (comes c.requires (omega (arith, c.if-job-eq0.false)) _ c.here-at.ensures))

pub told-requires-2 : goal.told-requires-2
told-requires-2 c = let f = starts_there (comes c.requires (omega (arith, c.if-job-eq0.false)) _ c.here-at.ensures) in omega (arith, f.2, f.3)

pub returns : goal.returns
returns c = by_told c.args.s.now _ c.args.floor.now.rows.now _ c.args.floor.now.map.now _ _ _ _ _ _ c.go_on.ensures c.told-2.ensures
