-- What the count is called on: parts of a read program whose calls are all of functions before some number g. The number bounds the callees of a part,
-- as the remaining bytes bound its nested blocks.
use Rattle.std.specs.Prelude.{List, ℕ, ◌<◌, ◌≤◌, length}
use Rattle.rules.specs.Syntax.{Side, Statement, Statements, Block, function, Program}
use Rattle.rules.specs.Program.{Scope}
use Rattle.program.specs.In.{BlockIn, StatementIn, StatementsIn}
use Rattle.program.specs.Heads.{entry}
use Rattle.counting.specs.declared.blocks.Body.{Body}

module _ {d : Side} (s : List ℕ) (g : ℕ) where
  -- a block, a statement and the statements up to a block's end, with at most g functions in scope
  pub record BlockBelow (at : ℕ) (x : Block d) (q : ℕ) : Type 0 where
    pub scope : Scope
    pub depths : ℕ
    pub callees : length scope.earlier ≤ g
    pub stands : BlockIn s scope depths at x q

  pub record StatementBelow (at : ℕ) (t : Statement d) (q : ℕ) : Type 0 where
    pub scope : Scope
    pub depths : ℕ
    pub callees : length scope.earlier ≤ g
    pub stands : StatementIn s scope depths at t q

  pub record StatementsBelow (at end : ℕ) (ts : Statements d) : Type 0 where
    pub scope : Scope
    pub depths : ℕ
    pub callees : length scope.earlier ≤ g
    pub stands : StatementsIn s scope depths at end ts

-- the program has as many functions as come before the body, or more; the body of each of its functions stands where the table says and calls functions
-- before it alone
pub record Placed (b : Body) (p : Program) : Type 0 where
  pub size : length b.bytes.now ≤ 4096
  pub few : length p.functions ≤ 15
  pub enough : b.before ≤ length p.functions
  pub body : (f : ℕ) → f < length p.functions
      → (q : ℕ) × BlockBelow b.bytes.now f (entry b.functions.now f).body (function p.functions f).body q
