-- The table from the last byte to the first: the entries from i on are right.
use mathlib.Core.Path.{◌≡◌}
use lib.ListN.{length}
use Rattle.walking.proofs.QuietLaws.{Marked}
use Rattle.walking.proofs.quiet.Quiet.mark.Given as goal

abbrev pub invariant-loop-i : goal.invariant-loop-i
invariant-loop-i l = record { long : length l.self.ends ≡ 4096; marked : Marked l.s l.counts l.self.ends l.i }
