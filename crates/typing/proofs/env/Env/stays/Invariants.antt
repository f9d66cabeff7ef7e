-- The slots below x stay.
use Prim.Native.Nat.{ℕ, ◌<◌}
use mathlib.Core.Bool.{true}
use mathlib.Core.Path.{◌≡◌}
use Rattle.rules.specs.Syntax.{Side}
use Rattle.typing.specs.Stands.{kind_of, slot_of}
use Rattle.typing.proofs.BlockEnds.{stay}
use Rattle.typing.proofs.env.Env.stays.Given as goal

abbrev pub invariant-loop-x : goal.invariant-loop-x
invariant-loop-x l = (d : Side) (k : ℕ) → k < l.x → stay (kind_of d (slot_of l.entry k)) (kind_of d (slot_of l.self k)) ≡ true
