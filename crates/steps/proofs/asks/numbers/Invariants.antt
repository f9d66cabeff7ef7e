-- The numbers written so far.
use Prim.Native.Nat.{ℕ, ◌<◌}
use mathlib.Core.Path.{◌≡◌}
use lib.ListN.{get_or, length}
use Rattle.steps.specs.State.{location_at}
use Rattle.steps.proofs.asks.numbers.Given as goal

abbrev pub invariant-loop-i : goal.invariant-loop-i
invariant-loop-i l = (length l.numbers ≡ 16) × ((n : ℕ) → n < l.i → get_or l.numbers n 0 ≡ (location_at l.places n).0)
