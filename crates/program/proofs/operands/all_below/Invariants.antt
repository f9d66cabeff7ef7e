-- Each byte before the position lies below the limit: the loop goes along the definition.
use mathlib.Core.Path.{◌≡◌}
use Prim.Native.Nat.{◌≤◌, ◌-◌}
use Rattle.program.specs.Reader.{below}
use Rattle.program.proofs.operands.all_below.Given as goal

abbrev pub invariant-loop-p : goal.invariant-loop-p
invariant-loop-p l = (l.p ≤ l.to) × (below l.s l.limit l.from (l.to - l.from) ≡ below l.s l.limit l.p (l.to - l.p))
