-- The row of the promise's checks, each exit at its place.
use mathlib.Core.Path.{ap, ◌∙◌}
use Rattle.answers.specs.Check.{refused}
use Rattle.answers.specs.declared.File.TheVariants.{Device}
use Rattle.answers.proofs.Passed.{passed_on}
use Rattle.device.proofs.DeviceLaws.{read_gives, read_refuses}
use Rattle.abwakiris.proofs.CheckLaws.{check_no_job, check_no_device, check_done}
use Rattle.abwakiris.proofs.checks.check.Goals as goal

pub returns-in_err-job : goal.returns-in_err-job
returns-in_err-job c =
    let a = c.args in
    let e = c.in_err-job.ensures.err in
    passed_on _ c.from_residual.ensures.1 ∙ ap refused e.0 ∙ check_no_job a.device.now a.program.now a.job e.1

pub returns-in_err-device : goal.returns-in_err-device
returns-in_err-device c =
    let a = c.args in
    let e = read_refuses _ Device _ c.in_err-device.ensures.said in
    passed_on _ c.from_residual-in_err-device.ensures.1 ∙ check_no_device a.device.now a.program.now a.job _ c.in_ok-job.ensures.ok.1 e

pub returns : goal.returns
returns c =
    let a = c.args in
    let j = c.in_ok-job.ensures.ok in
    let d = c.in_ok-device.ensures in
    let g = read_gives a.device.now Device _ d.said in
    check_done a.device.now a.program.now a.job g.0 j.1 g.1.reads _ (rw j.0 at (c.check_in.ensures g.0 (rw d.bytes g.1)))
