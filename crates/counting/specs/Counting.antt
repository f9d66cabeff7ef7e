-- What the count finds: the size of main's commands and of each function's, capped above the limit.
use Rattle.std.specs.Prelude.{◌≡◌, ℕ, ◌<◌, min, get_or, length, Some, None}
use Rattle.rules.specs.Syntax.{Program, function}
use Rattle.theory.specs.Counts.{block_size}
use Rattle.counting.specs.declared.Counted.{Counted}

-- a count above 65,535 is known only to be too large
abbrev pub cap : ℕ → ℕ
cap n = min n 65536

-- φ gives each function of the program its size
pub record Sizes (p : Program) (φ : ℕ → ℕ) : Type 0 where
  pub size : (f : ℕ) → f < length p.functions → φ f ≡ block_size φ (function p.functions f).body

-- every function's count and main's are right
pub record Counts (p : Program) (φ : ℕ → ℕ) (r : Counted) : Type 0 where
  pub main : r.main ≡ cap (block_size φ p.main)
  pub functions : (f : ℕ) → f < length p.functions → get_or r.functions f None ≡ Some (cap (φ f))
