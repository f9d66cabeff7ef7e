-- The unfinished word begins none of the decimals before this.
use mathlib.Core.Bool.{false}
use mathlib.Core.Path.{◌≡◌}
use Prim.Native.Nat.{ℕ, ◌<◌}
use Rattle.rules.specs.Words.{opens, decimal}
use Rattle.reading.specs.Cursor.{part}
use Rattle.reading.proofs.line.Line.number_below.Given as goal

abbrev pub invariant-loop-v : goal.invariant-loop-v
invariant-loop-v l = (k : ℕ) → k < l.v → opens (part l.self.text.now l.at l.self.end) (decimal k) ≡ false
