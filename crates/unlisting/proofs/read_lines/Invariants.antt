-- The loop goes along the definition (Followed): the answer of each line says how the definition goes on there. A line that was taken is whole, so that the
-- next one begins further on; where the text has ended, finish says whether it may.
use Prim.Native.Nat.{◌≤◌, ◌-◌}
use lib.ListN.{length}
use Rattle.unlisting.proofs.Following.{Followed}
use Rattle.unlisting.proofs.read_lines.Given as goal

abbrev pub invariant-loop-at : goal.invariant-loop-at
invariant-loop-at l = (l.at ≤ length l.text) × Followed l.text l.initial.out l.at l.c l.out

abbrev pub decreases-loop-at : goal.decreases-loop-at
decreases-loop-at l = length l.text - l.at
