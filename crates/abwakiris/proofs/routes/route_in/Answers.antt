-- What is asked, then the search, whose set has the free locations of the region.
use native.Mathlib.Omega.{arith}
use Rattle.answers.proofs.Passed.{passed_as}
use Rattle.device.proofs.DeviceLaws.{sound}
use Rattle.device.proofs.FreeLaws.{free_same}
use Rattle.abwakiris.proofs.RouteLaws.{granted, routes_refused, routes_found}
use Rattle.abwakiris.proofs.routes.route_in.Goals as goal

pub returns-in_err-a : goal.returns-in_err-a
returns-in_err-a c D d =
    rw (passed_as _ c.from_residual.ensures.1, ← d.locations)
    (routes_refused _ _ (c.owned_by-owned.ensures D d) _ _ _ _ _ _ c.in_err-a.ensures.asked)

pub free_in-requires : goal.free_in-requires
free_in-requires c =
    let g = granted _ _ _ _ _ c.in_ok-a.ensures.asked in
    let k = sound c.args.device.reads in
    omega (arith, g.long, k.few)

pub returns : goal.returns
returns c D d =
    let a = c.args in
    let o = c.owned_by-owned.ensures D d in
    let free = free_same _ _ _ a.occupancy.now o c.free_in.ensures in
    let asked = c.in_ok-a.ensures.asked in
    let same = c.in_ok-a.ensures.same in
    let r = c.search in
    rw (← d.locations)
    (routes_found _ _ o a.device.header.locations a.occupancy.now a.first a.second _ free asked a.buffer.now _ r.result
    (rw (same.0, same.1) at (r.ensures _ (c.region_rows.ensures D d))))
