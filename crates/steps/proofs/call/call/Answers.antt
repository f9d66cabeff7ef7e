-- A law for each exit; what is asked follows from the call that stands there.
use native.Mathlib.Omega.{arith}
use Rattle.std.proofs.Common.{rules}
use Rattle.steps.proofs.Passed.{passed_as}
use Rattle.steps.proofs.Entering.{called_there, places_fit, places_bound, places_taken, body_fits, slots_fit, entered_room, call_refused, call_granted}
use Rattle.steps.proofs.call.call.Goals as goal

pub bounds-s-at : goal.bounds-s-at
bounds-s-at c = let f = called_there c.requires.0 c.requires.1 c.requires.2 in omega (arith, f.fits, f.size)

pub bounds-s-at-2 : goal.bounds-s-at-2
bounds-s-at-2 c = let f = called_there c.requires.0 c.requires.1 c.requires.2 in omega (arith, f.fits, f.size)

pub slice_bounds-actuals-end : goal.slice_bounds-actuals-end
slice_bounds-actuals-end c = let f = called_there c.requires.0 c.requires.1 c.requires.2 in omega (arith, f.fits, f.size)

pub slice_bounds-callable-end : goal.slice_bounds-callable-end
slice_bounds-callable-end c = let f = called_there c.requires.0 c.requires.1 c.requires.2 in omega (arith, f.fits, f.size)

pub bounds-s-at-3 : goal.bounds-s-at-3
bounds-s-at-3 c = let f = called_there c.requires.0 c.requires.1 c.requires.2 in omega (arith, f.fits, f.size)

pub bounds-s-at-4 : goal.bounds-s-at-4
bounds-s-at-4 c = let f = called_there c.requires.0 c.requires.1 c.requires.2 in omega (arith, f.fits, f.size)

pub slice_bounds-places-end : goal.slice_bounds-places-end
slice_bounds-places-end c = places_bound (called_there c.requires.0 c.requires.1 c.requires.2) _ (search rules)

pub slice_bounds-callable-end-2 : goal.slice_bounds-callable-end-2
slice_bounds-callable-end-2 c = places_taken (called_there c.requires.0 c.requires.1 c.requires.2) _ (search rules)

pub actuals-places-requires : goal.actuals-places-requires
actuals-places-requires c = places_fit (called_there c.requires.0 c.requires.1 c.requires.2)

pub callable-requires : goal.callable-requires
callable-requires c = slots_fit (called_there c.requires.0 c.requires.1 c.requires.2) c.actuals-places.result (search rules)

pub returns-in_err-callable : goal.returns-in_err-callable
returns-in_err-callable c = call_refused c.requires.0 c.requires.1 c.requires.2 _ c.args.floor.now.map.now c.actuals-places.result (search rules)
    c.actuals-places.ensures _ _ (passed_as _ c.from_residual.ensures.1) c.in_err-callable.ensures

pub callee-inner-requires : goal.callee-inner-requires
callee-inner-requires c = let f = called_there c.requires.0 c.requires.1 c.requires.2 in (omega (arith, f.arguments), omega (arith, f.fits, f.size))

pub overflow_add-body : goal.overflow_add-body
overflow_add-body c = let f = body_fits (called_there c.requires.0 c.requires.1 c.requires.2) _ c.head-body.ensures in omega (arith, f.0, f.1)

pub block_end-requires : goal.block_end-requires
block_end-requires c = let f = body_fits (called_there c.requires.0 c.requires.1 c.requires.2) _ c.head-body.ensures in (omega (arith, f.0), f.1)

pub push-requires : goal.push-requires
push-requires c = let f = body_fits (called_there c.requires.0 c.requires.1 c.requires.2) _ c.head-body.ensures in
    (entered_room c.callee-inner.ensures, omega (arith, f.0, f.1), omega (arith, f.0, f.1, c.block_end.ensures))

pub advance-requires : goal.advance-requires
advance-requires c = let f = called_there c.requires.0 c.requires.1 c.requires.2 in (f.some, f.room, omega (arith, f.fits, f.size))

pub enter-requires : goal.enter-requires
enter-requires c = let f = called_there c.requires.0 c.requires.1 c.requires.2 in f.deep

pub returns : goal.returns
returns c = call_granted c.requires.0 c.requires.1 c.requires.2 _ c.args.floor.now.map.now c.actuals-places.result (search rules) c.actuals-places.ensures _
    _ _ _ _ _ c.in_ok-callable.ensures c.head-body.ensures c.block_end.ensures c.callee-inner.ensures c.push.ensures c.advance.ensures c.enter.ensures
