-- It is none of the gates before this.
use mathlib.Core.Bool.{false}
use Prim.Native.Nat.{ℕ, ◌<◌}
use Rattle.reading.proofs.Placing.{GateIs}
use Rattle.reading.proofs.words.gate.Given as goal

abbrev pub invariant-loop-g : goal.invariant-loop-g
invariant-loop-g l = (k : ℕ) → k < l.g → GateIs l.part k false
