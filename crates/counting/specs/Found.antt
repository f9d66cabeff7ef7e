-- What the count gives for a part of a program, and what it remembers. Sizes are any numbers φ that fit the functions' bodies, so nothing here says how
-- they are found.
use Rattle.std.specs.Prelude.{[], ◌∷◌, ◌≡◌, ℕ, ◌<◌, get_or, set, replicate, Some, None}
use Rattle.rules.specs.Syntax.{Side, Statement, Block, Program}
use Rattle.theory.specs.Counts.{statement_size, block_size}
use Rattle.counting.specs.Counting.{cap, Sizes}
use Rattle.counting.specs.Below.{StatementBelow, BlockBelow, Placed}
use Rattle.counting.specs.declared.memory.Memory.{Memory}
use Rattle.counting.specs.declared.blocks.Body.{Body}
use Rattle.counting.specs.declared.blocks.Sum.{Sum}

-- by statement byte, the count of a statement that is an operation
abbrev pub own_count : ℕ → ℕ
own_count b = get_or (0 ∷ 1 ∷ 1 ∷ 1 ∷ 0 ∷ 0 ∷ 1 ∷ []) b 0

abbrev pub nothing_known : Memory
nothing_known = record { counts = replicate 16 None }

abbrev pub noted : Memory → ℕ → ℕ → Memory
noted m f n = record { counts = set m.counts f (Some n) }

-- what is remembered is right, and the functions before n are remembered
pub record Right (φ : ℕ → ℕ) (n : ℕ) (m : Memory) : Type 0 where
  pub right : (f c : ℕ) → get_or m.counts f None ≡ Some c → c ≡ cap (φ f)
  pub known : (f : ℕ) → f < n → get_or m.counts f None ≡ Some (cap (φ f))

module _ (b : Body) where
  -- with m remembered, a part of some size was counted: the count is c, and m' is remembered then
  pub record Found (size : (ℕ → ℕ) → ℕ) (m : Memory) (c : ℕ) (m' : Memory) : Type 0 where
    pub found : (p : Program) (φ : ℕ → ℕ) (n : ℕ) → Placed b p → Sizes p φ → Right φ n m → (c ≡ cap (size φ)) × Right φ n m'

  -- the block at `at`, whichever it is, and where it ends
  pub record BlockFound (at : ℕ) (m : Memory) (r : Sum) (m' : Memory) : Type 0 where
    pub block : (d : Side) (x : Block d) (q : ℕ) → BlockBelow b.bytes.now b.before at x q
        → (r.next ≡ q) × Found (λ φ. block_size φ x) m r.count m'

  pub record StatementFound (at : ℕ) (m : Memory) (r : Sum) (m' : Memory) : Type 0 where
    pub statement : (d : Side) (x : Statement d) (q : ℕ) → StatementBelow b.bytes.now b.before at x q
        → (r.next ≡ q) × Found (λ φ. statement_size φ x) m r.count m'
