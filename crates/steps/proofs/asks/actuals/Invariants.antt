-- The locations found so far.
use Prim.Native.Nat.{ℕ, ◌<◌}
use lib.ListN.{length}
use mathlib.Core.Path.{◌≡◌}
use Rattle.rules.specs.Basics.{byte}
use Rattle.steps.specs.State.{location_at, located_in}
use Rattle.steps.proofs.asks.actuals.Given as goal

abbrev pub invariant-loop-i : goal.invariant-loop-i
invariant-loop-i l = (length l.places ≡ 16) × ((n : ℕ) → n < l.i → location_at l.places n ≡ located_in l.job (byte l.bytes n))
