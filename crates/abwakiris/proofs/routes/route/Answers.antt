-- The row of the promise's checks, each exit at its place.
use mathlib.Core.Path.{ap, ◌∙◌}
use Rattle.std.specs.Prelude.{Err}
use Rattle.answers.specs.declared.File.TheVariants.{Device}
use Rattle.answers.proofs.Passed.{passed_as}
use Rattle.device.proofs.DeviceLaws.{read_gives, read_refuses}
use Rattle.abwakiris.specs.Routing.{told}
use Rattle.abwakiris.proofs.RouteLaws.{route_no_job, route_no_device, route_done}
use Rattle.abwakiris.proofs.routes.route.Goals as goal

pub returns-in_err-job : goal.returns-in_err-job
returns-in_err-job c =
    let a = c.args in
    let e = c.in_err-job.ensures.err in
    ap (λ r. told r a.buffer.now) (passed_as _ c.from_residual.ensures.1 ∙ ap Err e.0)
    ∙ route_no_job a.device.now a.job a.occupancy.now a.first a.second a.buffer.now e.1

pub returns-in_err-device : goal.returns-in_err-device
returns-in_err-device c =
    let a = c.args in
    let e = read_refuses _ Device _ c.in_err-device.ensures.said in
    ap (λ r. told r a.buffer.now) (passed_as _ c.from_residual-in_err-device.ensures.1)
    ∙ route_no_device a.device.now a.job a.occupancy.now a.first a.second a.buffer.now _ c.in_ok-job.ensures.ok.1 e

pub returns : goal.returns
returns c =
    let a = c.args in
    let j = c.in_ok-job.ensures.ok in
    let d = c.in_ok-device.ensures in
    let g = read_gives a.device.now Device _ d.said in
    let r = c.route_in in
    route_done a.device.now a.job a.occupancy.now a.first a.second a.buffer.now g.0 j.1 g.1.reads r.result _
    (rw j.0 at (r.ensures g.0 (rw d.bytes g.1)))
