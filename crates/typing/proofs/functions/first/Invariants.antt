-- The numbers below i are in the set.
use Prim.Native.Nat.{ℕ}
use mathlib.Core.Path.{◌≡◌}
use lib.Dec.{ltb}
use Rattle.sets.specs.Sets.{has}
use Rattle.typing.proofs.functions.first.Given as goal

abbrev pub invariant-loop-i : goal.invariant-loop-i
invariant-loop-i l = (y : ℕ) → has l.set y ≡ ltb y l.i
