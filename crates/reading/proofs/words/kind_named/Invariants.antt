-- It is none of the names of the bytes before this.
use mathlib.Core.Bool.{false}
use Prim.Native.Nat.{ℕ, ◌≤◌, ◌<◌}
use Rattle.reading.proofs.Placing.{NameIs}
use Rattle.reading.proofs.words.kind_named.Given as goal

abbrev pub invariant-loop-byte : goal.invariant-loop-byte
invariant-loop-byte l = (k : ℕ) → k < l.byte → 1 ≤ k → NameIs l.part k false
