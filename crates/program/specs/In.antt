-- What it is for a tree to stand in the bytes of a read file, part by part: a block, the statements from a position to a block's end, a statement.
-- Scope and depths left are indices, so that a pass which goes down into a block or a callee says which it is in. These are what later passes
-- cite; the laws that take them apart are in proofs/In.antt.
use Rattle.std.specs.Prelude.{List, ◌≡◌, ℕ, ◌+◌, ◌-◌, ◌<◌, ◌≤◌, length, take}
use Rattle.answers.specs.Check.{ok}
use Rattle.rules.specs.Basics.{up_to, byte}
use Rattle.rules.specs.Syntax.{Side, Place, plain, magic}
use Rattle.rules.specs.Syntax.{init, free, gate, measure, merge, new_ref, get_ref, set_ref, constant}
use Rattle.rules.specs.Syntax.{Statement, op, if, while, call, Statements, Block, block, Function, function, Program}
use Rattle.rules.specs.Program.{Scope, read_block, statement, statements}

module _ {d : Side} (s : List ℕ) (S : Scope) where
  -- block x from its length word at `at` up to p
  pub record BlockIn (depths at : ℕ) (x : Block d) (p : ℕ) : Type 0 where
    pub limit : ℕ
    pub within : limit ≤ length s
    pub reads : read_block s d S depths at limit ≡ ok (record { it = x; next = p })

  -- statement t from its byte at `at` up to p, its inner blocks having so many depths left
  pub record StatementIn (depths at : ℕ) (t : Statement d) (p : ℕ) : Type 0 where
    pub end : ℕ
    pub within : end ≤ length s
    pub reads : statement s d S (read_block s d S depths) at end ≡ ok (record { it = t; next = p })

  -- the statements ts from `at` to the block's end
  pub record StatementsIn (depths at end : ℕ) (ts : Statements d) : Type 0 where
    pub more : ℕ
    pub enough : end - at ≤ more
    pub starts : at ≤ end
    pub within : end ≤ length s
    pub reads : statements s d S (read_block s d S depths) more at end ≡ ok ts

-- where a block's length word stands
abbrev pub offset_of : {d : Side} → Block d → ℕ
offset_of (block o ts) = o

-- the scope of function g: its own places, and the functions before it
abbrev pub scope_of : List Function → ℕ → Scope
scope_of fs g = record { places = (function fs g).k; earlier = take g fs }

abbrev pub main_scope : List Function → Scope
main_scope fs = record { places = 256; earlier = fs }

-- a read program stands in its file
pub record ProgramIn (s : List ℕ) (p : Program) : Type 0 where
  pub size : length s ≤ 4096
  pub count : length p.functions ≡ byte s 5
  pub few : length p.functions ≤ 15
  pub body : (g : ℕ) → g < length p.functions
      → (q : ℕ) × BlockIn s (scope_of p.functions g) 8 (offset_of (function p.functions g).body) (function p.functions g).body q
  pub head : (g : ℕ) → g < length p.functions
      → ((function p.functions g).k ≤ 16) × ((function p.functions g).m ≤ 8) × ((function p.functions g).m ≤ (function p.functions g).k)
  pub main : BlockIn s (main_scope p.functions) 8 (offset_of p.main) p.main (length s)

-- the places and the slots in the list of the call at `at`
abbrev pub call_places : {d : Side} → List ℕ → ℕ → List (Place d)
call_places s at = up_to (at + 4) (byte s (at + 2)) λ i. record { no = byte s i }

abbrev pub call_slots : List ℕ → ℕ → List ℕ
call_slots s at = up_to (at + 4 + byte s (at + 2)) (byte s (at + 3)) λ i. byte s i

-- a statement taken apart by its byte: what it is, where it ends, and what its operands are bounded by
pub data View {d : Side} (s : List ℕ) (S : Scope) (depths at : ℕ) : Statement d → ℕ → Type 0 where
  is_init : byte s at ≡ 1 → at + 3 ≤ length s → byte s (at + 1) < 32 → byte s (at + 2) < S.places
      → View s S depths at (op at (init plain (byte s (at + 1)) (record { no = byte s (at + 2) }))) (at + 3)
  is_magic : byte s at ≡ 2 → at + 3 ≤ length s → byte s (at + 1) < 32 → byte s (at + 2) < S.places
      → View s S depths at (op at (init magic (byte s (at + 1)) (record { no = byte s (at + 2) }))) (at + 3)
  is_free : byte s at ≡ 3 → at + 2 ≤ length s → byte s (at + 1) < 32 → View s S depths at (op at (free (byte s (at + 1)))) (at + 2)
  is_gate : byte s at ≡ 4 → at + 3 ≤ length s → byte s (at + 1) < 4 → byte s (at + 2) < 32
      → View s S depths at (op at (gate (byte s (at + 1)) (byte s (at + 2)))) (at + 3)
  is_measure : byte s at ≡ 5 → at + 4 ≤ length s → byte s (at + 1) < 32 → byte s (at + 2) < 2 → byte s (at + 3) < 32
      → View s S depths at (op at (measure (byte s (at + 1)) (byte s (at + 2)) (byte s (at + 3)))) (at + 4)
  is_merge : byte s at ≡ 6 → at + 6 ≤ length s → byte s (at + 1) < 32 → byte s (at + 2) < 2 → byte s (at + 3) < 32
      → byte s (at + 4) < 2 → byte s (at + 5) < 32
      → View s S depths at (op at (merge (byte s (at + 1)) (byte s (at + 2)) (byte s (at + 3)) (byte s (at + 4)) (byte s (at + 5)))) (at + 6)
  is_new : byte s at ≡ 7 → at + 3 ≤ length s → byte s (at + 1) < 32 → byte s (at + 2) < 32
      → View s S depths at (op at (new_ref (byte s (at + 1)) (byte s (at + 2)))) (at + 3)
  is_get : byte s at ≡ 8 → at + 3 ≤ length s → byte s (at + 1) < 32 → byte s (at + 2) < 32
      → View s S depths at (op at (get_ref (byte s (at + 1)) (byte s (at + 2)))) (at + 3)
  is_set : byte s at ≡ 9 → at + 3 ≤ length s → byte s (at + 1) < 32 → byte s (at + 2) < 32
      → View s S depths at (op at (set_ref (byte s (at + 1)) (byte s (at + 2)))) (at + 3)
  is_if : {b c : Block d} {p q : ℕ} → byte s at ≡ 10 → at + 2 ≤ length s → byte s (at + 1) < 32
      → BlockIn s S depths (at + 2) b p → BlockIn s S depths p c q → View s S depths at (if at (byte s (at + 1)) b c) q
  is_while : {b : Block d} {p : ℕ} → byte s at ≡ 11 → at + 2 ≤ length s → byte s (at + 1) < 32
      → BlockIn s S depths (at + 2) b p → View s S depths at (while at (byte s (at + 1)) b) p
  is_call : byte s at ≡ 12 → at + 4 + byte s (at + 2) + byte s (at + 3) ≤ length s → byte s (at + 1) < length S.earlier
      → byte s (at + 2) ≡ (function S.earlier (byte s (at + 1))).k → byte s (at + 3) ≡ (function S.earlier (byte s (at + 1))).m
      → ((i : ℕ) → i < byte s (at + 2) → byte s (at + 4 + i) < S.places)
      → ((i : ℕ) → i < byte s (at + 3) → byte s (at + 4 + byte s (at + 2) + i) < 32)
      → View s S depths at (call at (byte s (at + 1)) (call_places s at) (call_slots s at)) (at + 4 + byte s (at + 2) + byte s (at + 3))
  is_bool : byte s at ≡ 13 → at + 3 ≤ length s → byte s (at + 1) < 32 → byte s (at + 2) < 2
      → View s S depths at (op at (constant (byte s (at + 1)) (lib.Dec.eqb (byte s (at + 2)) 1))) (at + 3)
