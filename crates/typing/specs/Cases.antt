-- The cases that a function over the bytes is asked about, and what it says of each: the same record is what it requires one of and what it
-- answers for every one of.
use Rattle.std.specs.Prelude.{ℕ, Result}
use Rattle.answers.specs.declared.Refusal.{Refusal}
use Rattle.rules.specs.Syntax.{Side, Op, Statement, op, Statements, Block, block}
use Rattle.rules.specs.Program.{Scope}
use Rattle.rules.specs.Typing.{Env as Environment, Context, type_statement, type_statements, type_block}
use Rattle.program.specs.In.{BlockIn, StatementIn}
use Rattle.sets.specs.declared.LocationSet.{LocationSet}
use Rattle.typing.specs.declared.env.Env.{Env}
use Rattle.typing.specs.declared.env.Typed.{Typed}
use Rattle.typing.specs.declared.body.Body.{Body}
use Rattle.typing.specs.Stands.{EnvIs, Within, Knows, Answers}

-- the statements that a block holds
abbrev pub in_block : {d : Side} → Block d → Statements d
in_block (block o ts) = ts

module _ (body : Body) (env : Env) (at : ℕ) where
  -- a block that stands at `at`, and what it is typed with
  pub record BlockCase : Type 0 where
    pub side : Side
    pub scope : Scope
    pub depths : ℕ
    pub it : Block side
    pub next : ℕ
    pub places : ℕ
    pub context : Context side
    pub entry : Environment side
    pub stands : BlockIn body.bytes.now scope depths at it next
    pub within : Within body.inside places context
    pub knows : Knows body.endings scope context.functions
    pub is : EnvIs places env entry

  -- a statement that stands at `at`, and what it is typed with
  pub record StatementCase : Type 0 where
    pub side : Side
    pub scope : Scope
    pub depths : ℕ
    pub it : Statement side
    pub next : ℕ
    pub places : ℕ
    pub context : Context side
    pub entry : Environment side
    pub stands : StatementIn body.bytes.now scope depths at it next
    pub within : Within body.inside places context
    pub knows : Knows body.endings scope context.functions
    pub is : EnvIs places env entry

  abbrev pub BlockTyped : Result Typed Refusal → Type 0
  BlockTyped r = (b : BlockCase) → Answers b.places b.next (type_block b.context b.entry b.it) r

  -- the statements of a block, which is not closed
  abbrev pub StatementsTyped : Result Typed Refusal → Type 0
  StatementsTyped r = (b : BlockCase) → Answers b.places b.next (type_statements b.context b.entry (in_block b.it)) r

  abbrev pub StatementTyped : Result Typed Refusal → Type 0
  StatementTyped r = (t : StatementCase) → Answers t.places t.next (type_statement t.context t.entry t.it) r

-- an operation by its operands, in whatever body it stands: up to `next`
abbrev pub Performed : Env → ((d : Side) → Op d) → ℕ → ℕ → Result Typed Refusal → Type 0
Performed env a at next r =
    (d : Side) (places : ℕ) (C : Context d) (Γ : Environment d) → EnvIs places env Γ → Answers places next (type_statement C Γ (op at (a d))) r

-- the same of one that names a place
abbrev pub Placed : LocationSet → Env → ((d : Side) → Op d) → ℕ → ℕ → Result Typed Refusal → Type 0
Placed inside env a at next r =
    (d : Side) (places : ℕ) (C : Context d) (Γ : Environment d) → Within inside places C → EnvIs places env Γ
    → Answers places next (type_statement C Γ (op at (a d))) r
