-- What reading guarantees to every later pass: slots below 32, places and callees in scope, a call's lists as long as its callee's k and m, blocks no
-- deeper than 8, offsets rising and below the file's length.
use Rattle.std.specs.Prelude.{List, [], ◌∷◌, ◌++◌, ◌≡◌, ℕ, suc, ◌+◌, ◌<◌, ◌≤◌, get_or, length}
use Rattle.answers.specs.Check.{ok}
use Rattle.rules.specs.Syntax.{Side, Place, at, Op, init, free, gate, measure, merge, new_ref, get_ref, set_ref, constant}
use Rattle.rules.specs.Syntax.{Statement, op, if, while, call, Statements, done, ◌⨾◌, Block, block, Function, function, Program}
use Rattle.rules.specs.Program.{Scope, read_program}

abbrev pub OpRead : {s : Side} → Scope → Op s → Type 0
OpRead S (init q x l) = (x < 32) × (l.no < S.places)
OpRead S (free x) = x < 32
OpRead S (gate g x) = (g < 4) × (x < 32)
OpRead S (measure y b x) = (y < 32) × (b < 2) × (x < 32)
OpRead S (merge y b x e z) = (y < 32) × (b < 2) × (x < 32) × (e < 2) × (z < 32)
OpRead S (new_ref r y) = (r < 32) × (y < 32)
OpRead S (get_ref y r) = (y < 32) × (r < 32)
OpRead S (set_ref r y) = (r < 32) × (y < 32)
OpRead S (constant y v) = y < 32

-- a call of function f with these lists
pub record CallRead {s : Side} (S : Scope) (f : ℕ) (ls : List (Place s)) (xs : List ℕ) : Type 0 where
  pub earlier : f < length S.earlier
  pub locations : length ls ≡ (function S.earlier f).k
  pub slots : length xs ≡ (function S.earlier f).m
  pub places_in : (i : ℕ) → i < length ls → (at ls i).no < S.places
  pub slots_in : (i : ℕ) → i < length xs → get_or xs i 0 < 32

-- from the statement's or block's first byte up to the byte after it, with d depths left inside
mutual
  pub data StatementRead {s : Side} (S : Scope) : ℕ → ℕ → ℕ → Statement s → Type 0 where
    op_read : {d o p : ℕ} {a : Op s} → OpRead S a → o < p → StatementRead S d o p (op o a)
    if_read : {d o p q y : ℕ} {b c : Block s} → y < 32 → BlockRead S d (o + 2) p b → BlockRead S d p q c → StatementRead S d o q (if o y b c)
    while_read : {d o p r : ℕ} {b : Block s} → r < 32 → BlockRead S d (o + 2) p b → StatementRead S d o p (while o r b)
    call_read : {d o f : ℕ} {ls : List (Place s)} {xs : List ℕ} → CallRead S f ls xs
        → StatementRead S d o (o + 4 + length ls + length xs) (call o f ls xs)

  pub data StatementsRead {s : Side} (S : Scope) : ℕ → ℕ → ℕ → Statements s → Type 0 where
    done_read : {d p : ℕ} → StatementsRead S d p p done
    next_read : {d o p q : ℕ} {t : Statement s} {ts : Statements s} → StatementRead S d o p t → StatementsRead S d p q ts
        → StatementsRead S d o q (t ⨾ ts)

  pub data BlockRead {s : Side} (S : Scope) : ℕ → ℕ → ℕ → Block s → Type 0 where
    block_read : {d o p : ℕ} {ts : Statements s} → StatementsRead S d (o + 2) p ts → BlockRead S (suc d) o p (block o ts)

-- functions one after the other, each by those before it, from the first byte up to the byte after the last
pub data FunctionsRead : List Function → ℕ → List Function → ℕ → Type 0 where
  none_read : {fs : List Function} {o : ℕ} → FunctionsRead fs o [] o
  function_read : {fs gs : List Function} {g : Function} {o p q : ℕ} → g.k ≤ 16 → g.m ≤ 8 → g.m ≤ g.k
      → BlockRead (record { places = g.k; earlier = fs }) 8 (o + 2) p g.body → FunctionsRead (fs ++ (g ∷ [])) p gs q
      → FunctionsRead fs o (g ∷ gs) q

pub record ProgramRead (size : ℕ) (p : Program) : Type 0 where
  pub few : length p.functions ≤ 15
  pub main_at_lem : ℕ
  pub functions : FunctionsRead [] 6 p.functions main_at_lem
  pub main : BlockRead (record { places = 256; earlier = p.functions }) 8 main_at_lem size p.main
  pub short : size ≤ 4096

abbrev pub WellRead : Type 0
WellRead = (bytes : List ℕ) (p : Program) → read_program bytes ≡ ok p → ProgramRead (length bytes) p
