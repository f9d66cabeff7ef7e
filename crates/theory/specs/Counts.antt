-- Counts: how many steps moved, and the size of a block as the sum over its statements.
use Rattle.std.specs.Prelude.{List, [], ◌∷◌, ◌≡◌, ℕ, ◌+◌, ◌<◌, eqb, length}
use Rattle.rules.specs.Basics.{chosen}
use Rattle.rules.specs.Syntax.{Side, device, Op, init, free, gate, measure, merge, new_ref, get_ref, set_ref, constant}
use Rattle.rules.specs.Syntax.{Statement, op, if, while, call, Statements, done, ◌⨾◌, Block, block, Function, function}
use Rattle.rules.specs.Commands.{Commands, size_of}
use Rattle.rules.specs.Typing.{Env, Signature, Context, signature}
use Rattle.rules.specs.Figures.{BlockRule, MainRule, FunctionsRule}
use Rattle.rules.specs.Run.{Told, record_bytes, moved_by}
use Rattle.theory.specs.WellRead.{FunctionsRead}
use Rattle.theory.specs.Interleaving.{records_of}

-- of records of four bytes, how many begin with 0
abbrev pub begin_with_zero : List ℕ → ℕ
begin_with_zero [] = 0
begin_with_zero (a ∷ []) = 0
begin_with_zero (a ∷ b ∷ []) = 0
begin_with_zero (a ∷ b ∷ c ∷ []) = 0
begin_with_zero (a ∷ b ∷ c ∷ d ∷ rest) = chosen (eqb a 0) 1 0 + begin_with_zero rest

-- the moved count of a job is the number of its records that begin with 0
abbrev pub MovedCount : Type 0
MovedCount = (j : ℕ) (rs : List Told) → moved_by j rs ≡ begin_with_zero (record_bytes (records_of j rs))

-- one for each alloc, free and merge, one more for each if and each while, a call adding its callee's size, which φ gives
abbrev pub op_size : {s : Side} → Op s → ℕ
op_size (init q x l) = 1
op_size (free x) = 1
op_size (gate g x) = 0
op_size (measure y b x) = 0
op_size (merge y b x e z) = 1
op_size (new_ref r y) = 0
op_size (get_ref y r) = 0
op_size (set_ref r y) = 0
op_size (constant y v) = 0

abbrev mutual
  pub statement_size : {s : Side} → (ℕ → ℕ) → Statement s → ℕ
  statement_size φ (op o a) = op_size a
  statement_size φ (if o y b c) = 1 + block_size φ b + block_size φ c
  statement_size φ (while o r b) = 1 + block_size φ b
  statement_size φ (call o f ls xs) = φ f

  pub statements_size : {s : Side} → (ℕ → ℕ) → Statements s → ℕ
  statements_size φ done = 0
  statements_size φ (t ⨾ ts) = statement_size φ t + statements_size φ ts

  pub block_size : {s : Side} → (ℕ → ℕ) → Block s → ℕ
  block_size φ (block o ts) = statements_size φ ts

-- the sizes of the functions of a list of signatures
abbrev pub callees : List Signature → ℕ → ℕ
callees gs f = size_of (signature gs f).commands

-- the size of a typed block's commands is the sum over its statements
abbrev pub BlockSize : Type 0
BlockSize =
    (s : Side) (C : Context s) (Γ Δ : Env s) (b : Block s) (c : Commands s) → BlockRule C Γ b Δ c → size_of c ≡ block_size (callees C.functions) b

-- and so is main's
abbrev pub MainSize : Type 0
MainSize = (C : Context device) (Γ Δ : Env device) (b : Block device) (c : Commands device) → MainRule C Γ b Δ c
    → size_of c ≡ block_size (callees C.functions) b

-- and a callee's is that of its body
abbrev pub CalleeSize : Type 0
CalleeSize = (fs : List Function) (o q : ℕ) (gs : List Signature) (f : ℕ) → FunctionsRead [] o fs q → FunctionsRule fs [] gs → f < length fs
    → callees gs f ≡ block_size (callees gs) (function fs f).body
