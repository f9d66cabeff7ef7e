-- Runs of quiet statements, read from the bytes alone: operations without a command, and calls of functions whose count is 0. Which bytes begin a
-- statement of the program, and where its blocks end, is not said here.
use Rattle.std.specs.Prelude.{List, Option, Some, None, ◌≢◌, ◌≡◌, ℕ, ◌+◌, ◌<◌, ◌≤◌, get_or, length}
use Rattle.rules.specs.Basics.{byte}
use Rattle.rules.specs.Table.{size_of}

-- a statement byte of an operation that is no init, no free and no merge
pub record Silent (b : ℕ) : Type 0 where
  pub above : 3 < b
  pub no_merge : b ≢ 6
  pub no_inner : (9 < b) × (b < 13) → ⊥
  pub known : b < 14

module _ (s : List ℕ) (counts : List (Option ℕ)) where
  -- the bytes from i up to p are quiet statements
  pub data Run : ℕ → ℕ → Type 0 where
    none : {i : ℕ} → Run i i
    operation : {i p : ℕ} → Silent (byte s i) → Run (i + size_of (byte s i)) p → Run i p
    call : {i p : ℕ} → byte s i ≡ 12 → get_or counts (byte s (i + 1)) None ≡ Some 0 → Run (i + 4 + byte s (i + 2) + byte s (i + 3)) p → Run i p

  -- a table that says for each byte how far such a run goes
  pub record Skips (table : List ℕ) : Type 0 where
    pub runs : (i : ℕ) → i < length s → Run i (get_or table i 0)

  -- from p on a run is stepped over up to r, which is its end, or the end of the block where the run goes on past it
  pub record Stepped (p stop r : ℕ) : Type 0 where
    pub end : ℕ
    pub run : Run p end
    pub inside : end < stop → r ≡ end
    pub outside : stop ≤ end → r ≡ stop

-- what a table of runs says of a step, whatever bytes and counts it is for
pub record Steps (table : List ℕ) (p stop r : ℕ) : Type 0 where
  pub steps : (s : List ℕ) (counts : List (Option ℕ)) → stop ≤ length s → Skips s counts table → Stepped s counts p stop r
