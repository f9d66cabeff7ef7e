-- What the writer of blocks is called on, and what it gives: whichever block or statement stands at a place of the file, its lines are put.
use Rattle.std.specs.Prelude.{List, ◌≡◌, ℕ, ◌+◌, ◌≤◌, length}
use Rattle.rules.specs.Syntax.{Side, Statement, Block}
use Rattle.rules.specs.Program.{Scope}
use Rattle.rules.specs.Words.{written}
use Rattle.rules.specs.Listing.{statement_lines, block_lines}
use Rattle.program.specs.In.{BlockIn, StatementIn}
use Rattle.listing.specs.declared.writer.Writer.{Writer}
use Rattle.listing.specs.Puts.{Puts}

module _ (s : List ℕ) where
  -- a block stands at i whose lines are n deep; with the depths that it has left no line is deeper than 8
  pub record BlockHere (n i : ℕ) : Type 0 where
    pub side : Side
    pub scope : Scope
    pub depths : ℕ
    pub tree : Block side
    pub past : ℕ
    pub stands : BlockIn s scope depths i tree past
    pub shallow : n + depths ≤ 9
    pub size : length s ≤ 4096

  pub record StatementHere (n i : ℕ) : Type 0 where
    pub side : Side
    pub scope : Scope
    pub depths : ℕ
    pub tree : Statement side
    pub past : ℕ
    pub stands : StatementIn s scope depths i tree past
    pub shallow : n + depths ≤ 8
    pub size : length s ≤ 4096

  -- the lines of the block at i, n deep, are put, and the block ends at r
  pub record BlockPut (n i : ℕ) (before : Writer) (r : ℕ) (after : Writer) : Type 0 where
    pub block : (d : Side) (S : Scope) (depths : ℕ) (x : Block d) (q : ℕ) → BlockIn s S depths i x q
        → (r ≡ q) × Puts before (written (block_lines s n x)) after

  pub record StatementPut (n i : ℕ) (before : Writer) (r : ℕ) (after : Writer) : Type 0 where
    pub statement : (d : Side) (S : Scope) (depths : ℕ) (x : Statement d) (q : ℕ) → StatementIn s S depths i x q
        → (r ≡ q) × Puts before (written (statement_lines s n x)) after
