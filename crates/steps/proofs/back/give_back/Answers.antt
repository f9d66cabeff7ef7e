-- The call that the frame came by says what is given back.
use native.Mathlib.Omega.{arith}
use Rattle.steps.proofs.Returning.{came, given_fits, gives_back}
use Rattle.steps.proofs.back.give_back.Goals as goal

pub overflow_cast-at : goal.overflow_cast-at
overflow_cast-at c = let f = came c.requires.0 c.requires.1 c.requires.2 in omega (arith, f.fits, f.size)

pub overflow_add-slots_at : goal.overflow_add-slots_at
overflow_add-slots_at c = let f = came c.requires.0 c.requires.1 c.requires.2 in omega (arith, f.fits, f.size)

pub overflow_add-slots_at-2 : goal.overflow_add-slots_at-2
overflow_add-slots_at-2 c = let f = came c.requires.0 c.requires.1 c.requires.2 in omega (arith, f.fits, f.size)

pub bounds-s-at : goal.bounds-s-at
bounds-s-at c = let f = came c.requires.0 c.requires.1 c.requires.2 in omega (arith, f.fits, f.size)

pub overflow_add-slots_at-3 : goal.overflow_add-slots_at-3
overflow_add-slots_at-3 c = let f = came c.requires.0 c.requires.1 c.requires.2 in omega (arith, f.fits, f.size)

pub overflow_add-given : goal.overflow_add-given
overflow_add-given c = let f = came c.requires.0 c.requires.1 c.requires.2 in omega (arith, f.fits, f.size)

pub bounds-s-at-2 : goal.bounds-s-at-2
bounds-s-at-2 c = let f = came c.requires.0 c.requires.1 c.requires.2 in omega (arith, f.fits, f.size)

pub overflow_add-given-2 : goal.overflow_add-given-2
overflow_add-given-2 c = let f = came c.requires.0 c.requires.1 c.requires.2 in omega (arith, f.fits, f.size)

pub slice_bounds-given-end : goal.slice_bounds-given-end
slice_bounds-given-end c = let f = came c.requires.0 c.requires.1 c.requires.2 in omega (arith, f.fits, f.size)

pub leave-requires : goal.leave-requires
leave-requires c = let f = came c.requires.0 c.requires.1 c.requires.2 in (c.requires.2, f.deep)

pub hand_back-job-requires : goal.hand_back-job-requires
hand_back-job-requires c = given_fits (came c.requires.0 c.requires.1 c.requires.2)

pub returns : goal.returns
returns c = gives_back c.requires.0 c.requires.1 c.requires.2 _ c.leave.ensures _ c.hand_back-job.ensures
