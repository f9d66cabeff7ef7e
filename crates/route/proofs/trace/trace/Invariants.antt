-- The invariant: the locations before the place are written.
use lib.ListN.{length}
use Rattle.route.proofs.Written.{Writing}
use Rattle.route.proofs.trace.trace.Given as goal

abbrev pub invariant-loop-place : goal.invariant-loop-place
invariant-loop-place l = Writing l.hop l.a (length l.initial.place-items) l.initial.place-items l.place-items l.x l.place-index
