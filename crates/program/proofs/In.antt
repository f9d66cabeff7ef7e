-- How a read program file is taken apart. Every reading function is a row of checks, so what it gave says what each check let through and what each
-- inner reading gave: for each of them one lemma says so, and the laws are these lemmas at the result that was read. The statement table is taken
-- by its thirteen rows once, in `table_seen`: each row, at its own byte, gives the part of `View` that is named for it.
use mathlib.Core.Bool.{◌&&◌}
use mathlib.Core.List.{List, [], ◌∷◌, ◌++◌, append_assoc, append-nil}
use mathlib.Core.Path.{◌≡◌, refl, sym, ap, subst, ◌∙◌}
use native.Mathlib.Nat.{add-zero, add-suc, suc-add, le_of_suc-le-suc, not-suc-le-zero}
use native.Mathlib.Omega.{arith}
use Prim.Native.Nat.{ℕ, zero, suc, ◌+◌, ◌-◌, ◌<◌, ◌≤◌}
use lib.Dec.{eqb, ltb, leb}
use lib.ListN.{get_elem?, length, length-replicate, replicate, take}
use Rattle.answers.specs.Check.{Check, ok}
use Rattle.answers.proofs.Laws.{Holds, not_ok, by, holds_bind, holds_then, holds_need, holds_map, holds_any, holds_at, holds_choice}
use Rattle.rules.specs.declared.statements.Operand.{Operand}
use Rattle.rules.specs.declared.statements.Operand.TheVariants.{Slot, Location, Callee, CalleeK, CalleeM}
use Rattle.rules.specs.Basics.{byte, word, has_mark}
use Rattle.rules.specs.Syntax.{Side, device, parameter, Op, Statement, op, Statements, done, ◌⨾◌, Block, block, Function, function, Program}
use Rattle.rules.specs.Words.{Text}
use Rattle.rules.specs.Table.{simple, branches, loops, calls, Row, table, row_of, size}
use Rattle.rules.specs.Program.{Read, Scope, known, meant, statement, statements, read_block}
use Rattle.rules.specs.Program.{function_header, program_header, functions_at, read_program}
use Rattle.program.specs.In.{BlockIn, StatementIn, StatementsIn, ProgramIn, offset_of, main_scope}
use Rattle.program.specs.In.{View, is_init, is_magic, is_free, is_gate, is_measure, is_merge, is_new, is_get, is_set, is_if, is_while, is_call, is_bool}
use Rattle.rules.proofs.Fitting.{AllFit, operands_fit, split_fit, each_fits}
use Rattle.rules.proofs.Tests.{eqb_true, below, at_most, not_below, and_left, and_right}

-- with what holds of a check's value, that it is the value
holds_with : {A : Type 0} {P : A → Type 0} {m : Check A} → Holds P m → Holds (λ a. (m ≡ ok a) × P a) m
holds_with not_ok = not_ok
holds_with (by h) = by (refl, h)

-- Blocks. What a read block is: there was a depth left, its bytes end within the limit, and its statements are read between.
abbrev pub BlockTaken : {d : Side} → List ℕ → Scope → ℕ → ℕ → Block d → ℕ → Type 0
BlockTaken {d} s S depths at x p =
    (ts : Statements d) × (inside : ℕ) × (x ≡ block at ts) × (depths ≡ suc inside) × (p ≡ at + 2 + word s at) × (p ≤ length s)
    × StatementsIn s S inside (at + 2) p ts

block_taken : (s : List ℕ) (d : Side) (S : Scope) (depths at limit : ℕ) → limit ≤ length s
    → Holds (λ r. BlockTaken s S depths at r.it r.next × (r.next ≤ limit)) (read_block s d S depths at limit)
block_taken s d S zero at limit l = holds_then (holds_need (leb (at + 2) limit) 8 at) λ u a. not_ok
block_taken s d S (suc inside) at limit l =
    holds_then (holds_need (leb (at + 2) limit) 8 at) λ u a.
    holds_then (holds_need (leb (at + 2 + word s at) limit) 8 at) λ v b.
    holds_bind (holds_any (statements s d S (read_block s d S inside) (word s at) (at + 2) (at + 2 + word s at))) λ ts e.
    let h : at + 2 + word s at ≤ limit = at_most (at + 2 + word s at) limit b in
    let q : at + 2 + word s at ≤ length s = omega arith in
    by ((ts, inside, refl, refl, refl, q, record { more = word s at; enough = omega arith; starts = omega arith; within = q; reads = e }), h)

pub block_in : {d : Side} {s : List ℕ} {S : Scope} {depths at p : ℕ} {x : Block d} → BlockIn s S depths at x p → BlockTaken s S depths at x p
block_in {d} {s} {S} {depths} {at} h = (holds_at (block_taken s d S depths at h.limit h.within) h.reads).0

-- a block stands in the file where it is read
block_read : (s : List ℕ) (d : Side) (S : Scope) (depths at limit : ℕ) → limit ≤ length s
    → Holds (λ r. BlockIn s S depths at r.it r.next × (at < r.next) × (r.next ≤ limit)) (read_block s d S depths at limit)
block_read s d S depths at limit w =
    holds_map (λ r h. (record { limit = limit; within = w; reads = h.0 }, omega (arith, h.1.0.4), h.1.1))
    (holds_with (block_taken s d S depths at limit w))

-- Operands. k places and m slots from operand 4 on: each is in range where it stands
call_places : (s : List ℕ) (S : Scope) (i k m : ℕ) → AllFit s S i 4 (replicate k Location ++ replicate m Slot)
    → (j : ℕ) → j < k → byte s (i + 4 + j) < S.places
call_places s S i k m h j l = each_fits s S i 4 k Location (split_fit s S i 4 (replicate k Location) (replicate m Slot) h).0 j l

call_slots : (s : List ℕ) (S : Scope) (i k m : ℕ) → AllFit s S i 4 (replicate k Location ++ replicate m Slot)
    → (j : ℕ) → j < m → byte s (i + 4 + k + j) < 32
call_slots s S i k m h j l =
    let p : ℕ = 4 + length (replicate k Location) in
    let e : i + p + j ≡ i + 4 + k + j = omega (arith, length-replicate k Location) in
    let slots : AllFit s S i p (replicate m Slot) = (split_fit s S i 4 (replicate k Location) (replicate m Slot) h).1 in
    subst (λ (n : ℕ). byte s n < 32) e (each_fits s S i p m Slot slots j l)

-- The table. What an operation's row with statement byte b must show: where the byte stands, the operands fit and the file has them, there is its view.
abbrev Shows : ℕ → List Operand → ((d : Side) → (ℕ → ℕ) → Op d) → Type 0
Shows b os f =
    (s : List ℕ) (S : Scope) (depths at : ℕ) (d : Side) → byte s at ≡ b → at + suc (length os) ≤ length s → AllFit s S at 1 os
    → View s S depths at (op at (f d λ n. byte s (at + n))) (at + suc (length os))

-- the row of statement byte b
data SeenRow (b : ℕ) : Row → Type 0 where
  seen_simple : {w : Text} {os : List Operand} {f : (d : Side) → (ℕ → ℕ) → Op d} → Shows b os f
      → SeenRow b (record { name = w; operands = os; meaning = simple f })
  seen_branches : {w : Text} → b ≡ 10 → SeenRow b (record { name = w; operands = Slot ∷ []; meaning = branches })
  seen_loops : {w : Text} → b ≡ 11 → SeenRow b (record { name = w; operands = Slot ∷ []; meaning = loops })
  seen_calls : {w : Text} → b ≡ 12 → SeenRow b (record { name = w; operands = Callee ∷ CalleeK ∷ CalleeM ∷ []; meaning = calls })

-- the same as a function, so that the row that is asked for says which operation it is
simple_row : {w : Text} {b : ℕ} {os : List Operand} {f : (d : Side) → (ℕ → ℕ) → Op d} → Shows b os f
    → SeenRow b (record { name = w; operands = os; meaning = simple f })
simple_row h = seen_simple h

-- the rows of a list, from statement byte b on
data AllSeen : ℕ → List Row → Type 0 where
  no_row : {b : ℕ} → AllSeen b []
  a_row : {b : ℕ} {r : Row} {rs : List Row} → SeenRow b r → AllSeen (suc b) rs → AllSeen b (r ∷ rs)

infixr 20 ◌then◌
◌then◌ : {b : ℕ} {r : Row} {rs : List Row} → SeenRow b r → AllSeen (suc b) rs → AllSeen b (r ∷ rs)
g then gs = a_row g gs

-- the table's rows, in its order
table_seen : AllSeen 1 table
table_seen =
    simple_row (λ s S n i d e l h. is_init e l h.0 h.1.0)
    then simple_row (λ s S n i d e l h. is_magic e l h.0 h.1.0)
    then simple_row (λ s S n i d e l h. is_free e l h.0)
    then simple_row (λ s S n i d e l h. is_gate e l h.0 h.1.0)
    then simple_row (λ s S n i d e l h. is_measure e l h.0 h.1.0 h.1.1.0)
    then simple_row (λ s S n i d e l h. is_merge e l h.0 h.1.0 h.1.1.0 h.1.1.1.0 h.1.1.1.1.0)
    then simple_row (λ s S n i d e l h. is_new e l h.0 h.1.0)
    then simple_row (λ s S n i d e l h. is_get e l h.0 h.1.0)
    then simple_row (λ s S n i d e l h. is_set e l h.0 h.1.0)
    then seen_branches refl
    then seen_loops refl
    then seen_calls refl
    then simple_row (λ s S n i d e l h. is_bool e l h.0 h.1.0)
    then no_row

-- a byte's row, where it has one, is one of them
row_among : (n : ℕ) (rs : List Row) → AllSeen n rs → (b i : ℕ) → Holds (SeenRow (n + b)) (known (get_elem? rs b) i)
row_among n [] no_row b i = not_ok
row_among n (r ∷ rs) (a_row g gs) zero i = by (subst (λ (c : ℕ). SeenRow c r) (sym (add-zero n)) g)
row_among n (r ∷ rs) (a_row g gs) (suc b) i =
    holds_map (λ q w. subst (λ (c : ℕ). SeenRow c q) (suc-add n b ∙ sym (add-suc n b)) w) (row_among (suc n) rs gs b i)

seen_row : (b i : ℕ) → Holds (SeenRow b) (known (row_of b) i)
seen_row zero i = not_ok
seen_row (suc b) i =
    let e : 1 + b ≡ suc b = omega arith in
    holds_map (λ q w. subst (λ (c : ℕ). SeenRow c q) e w) (row_among 1 table table_seen b i)

-- Statements. What a read statement is, and where it ends.
module _ (s : List ℕ) (d : Side) (S : Scope) (depths : ℕ) where
  abbrev Seen : ℕ → ℕ → Read (Statement d) → Type 0
  Seen at end r = View s S depths at r.it r.next × (at < r.next) × (r.next ≤ end)

  -- what follows the fixed part, by the kinds of rows
  meant_seen : (r : Row) (at end : ℕ) → end ≤ length s → SeenRow (byte s at) r → at + size r ≤ end → AllFit s S at 1 r.operands
      → Holds (Seen at end) (meant s d S (read_block s d S depths) r.meaning at (at + size r) end)
  meant_seen r at end w (seen_simple {os = os} g) l h =
      let q : at < at + suc (length os) = omega arith in
      by (g s S depths at d refl (omega arith) h, q, l)
  meant_seen r at end w (seen_branches e) l h =
      holds_bind (block_read s d S depths (at + 2) end w) λ b u.
      holds_bind (block_read s d S depths b.next end w) λ c v.
      by (is_if e (omega arith) h.0 u.0 v.0, omega arith, v.2)
  meant_seen r at end w (seen_loops e) l h =
      holds_bind (block_read s d S depths (at + 2) end w) λ b u.
      by (is_while e (omega arith) h.0 u.0, omega arith, u.2)
  meant_seen r at end w (seen_calls e) l h =
      let k : ℕ = byte s (at + 2) in
      let m : ℕ = byte s (at + 3) in
      holds_then (holds_need (leb (at + 4 + k + m) end) 8 at) λ u a.
      holds_then (operands_fit s S at 4 (replicate k Location ++ replicate m Slot)) λ v t.
      let q : at + 4 + k + m ≤ end = at_most (at + 4 + k + m) end a in
      by (is_call e (omega arith) h.0 h.1.0 h.1.1.0 (call_places s S at k m t) (call_slots s S at k m t), omega arith, q)

  statement_seen : (at end : ℕ) → end ≤ length s → Holds (Seen at end) (statement s d S (read_block s d S depths) at end)
  statement_seen at end w =
      holds_bind (seen_row (byte s at) at) λ r g.
      holds_then (holds_need (leb (at + size r) end) 8 at) λ u l.
      holds_then (operands_fit s S at 1 r.operands) λ v h.
      meant_seen r at end w g (at_most (at + size r) end l) h

  -- one statement and the rest, where the block is not at its end
  abbrev pub Split : ℕ → ℕ → Statements d → Type 0
  Split at end ts =
      (t : Statement d) × (p : ℕ) × (rest : Statements d) × (ts ≡ (t ⨾ rest))
      × StatementIn s S depths at t p × StatementsIn s S depths p end rest × (at < p) × (p ≤ end)

  statements_split : (more at end : ℕ) → end - at ≤ more → end ≤ length s → at < end
      → Holds (Split at end) (statements s d S (read_block s d S depths) more at end)
  statements_split zero at end m w l = absurd (omega arith)
  statements_split (suc more) at end m w l =
      holds_choice (ltb at end) (λ h. absurd (omega (arith, not_below at end h))) λ h.
      holds_bind (holds_with (statement_seen at end w)) λ t u.
      holds_bind (holds_any (statements s d S (read_block s d S depths) more t.next end)) λ ts e.
      by (
        t.it,
        t.next,
        ts,
        refl,
        record { end = end; within = w; reads = u.0 },
        record { more = more; enough = omega (arith, u.1.1); starts = u.1.2; within = w; reads = e },
        u.1.1,
        u.1.2,
      )

  -- no statement, where it is
  statements_none : (more at end : ℕ) → at ≡ end → Holds (λ ts. ts ≡ done) (statements s d S (read_block s d S depths) more at end)
  statements_none zero at end q = by refl
  statements_none (suc more) at end q = holds_choice (ltb at end) (λ h. by refl) (λ h. absurd (omega (arith, below at end h)))

pub statements_end : {d : Side} {s : List ℕ} {S : Scope} {depths at end : ℕ} {ts : Statements d}
    → StatementsIn s S depths at end ts → at ≡ end → ts ≡ done
statements_end {d} {s} {S} {depths} {at} {end} h q = holds_at (statements_none s d S depths h.more at end q) h.reads

pub statements_next : {d : Side} {s : List ℕ} {S : Scope} {depths at end : ℕ} {ts : Statements d}
    → StatementsIn s S depths at end ts → at < end → Split s d S depths at end ts
statements_next {d} {s} {S} {depths} {at} {end} h l =
    holds_at (statements_split s d S depths h.more at end h.enough h.within l) h.reads

-- a statement's view, and where it ends
taken : {d : Side} {s : List ℕ} {S : Scope} {depths at p : ℕ} {t : Statement d} → (h : StatementIn s S depths at t p)
    → View s S depths at t p × (at < p) × (p ≤ h.end)
taken {d} {s} {S} {depths} {at} h = holds_at (statement_seen s d S depths at h.end h.within) h.reads

pub statement_view : {d : Side} {s : List ℕ} {S : Scope} {depths at p : ℕ} {t : Statement d} → StatementIn s S depths at t p → View s S depths at t p
statement_view h = (taken h).0

-- the byte of a statement is one of the thirteen
view_byte : {d : Side} {s : List ℕ} {S : Scope} {depths at p : ℕ} {t : Statement d} → View s S depths at t p → (0 < byte s at) × (byte s at < 14)
view_byte (is_init e l a b) = (omega arith, omega arith)
view_byte (is_magic e l a b) = (omega arith, omega arith)
view_byte (is_free e l a) = (omega arith, omega arith)
view_byte (is_gate e l a b) = (omega arith, omega arith)
view_byte (is_measure e l a b c) = (omega arith, omega arith)
view_byte (is_merge e l a b c f g) = (omega arith, omega arith)
view_byte (is_new e l a b) = (omega arith, omega arith)
view_byte (is_get e l a b) = (omega arith, omega arith)
view_byte (is_set e l a b) = (omega arith, omega arith)
view_byte (is_if e l a b c) = (omega arith, omega arith)
view_byte (is_while e l a b) = (omega arith, omega arith)
view_byte (is_call e l a b c f g) = (omega arith, omega arith)
view_byte (is_bool e l a b) = (omega arith, omega arith)

pub statement_byte : {d : Side} {s : List ℕ} {S : Scope} {depths at p : ℕ} {t : Statement d} → StatementIn s S depths at t p
    → (0 < byte s at) × (byte s at < 14) × (at < p) × (p ≤ length s)
statement_byte h = ((view_byte (taken h).0).0, (view_byte (taken h).0).1, (taken h).1, omega (arith, (taken h).2, h.within))

-- Programs. A function's k and m within their limits: what its header says.
abbrev Limited : ℕ → ℕ → Type 0
Limited k m = (k ≤ 16) × (m ≤ 8) × (m ≤ k)

header_in : (i k m : ℕ) → Holds (λ h. Limited h.locations h.arguments) (function_header i k m)
header_in i k m =
    holds_then (holds_need (leb k 16) 4 i) λ u a.
    holds_then (holds_need (leb m 8 && leb m k) 4 (i + 1)) λ v b.
    by (at_most k 16 a, at_most m 8 (and_left (leb m 8) (leb m k) b), at_most m k (and_right (leb m 8) (leb m k) b))

-- the body of f, the functions in fs being before it
abbrev BodyIn : List ℕ → List Function → Function → ℕ → Type 0
BodyIn s fs f q = BlockIn s (record { places = f.k; earlier = fs }) 8 (offset_of f.body) f.body q

-- function j of gs, the functions in fs being before them all
abbrev FunctionIn : List ℕ → List Function → List Function → ℕ → Type 0
FunctionIn s fs gs j = ((q : ℕ) × BodyIn s (fs ++ take j gs) (function gs j) q) × Limited (function gs j).k (function gs j).m

-- a block stands where its own offset says
at_offset : {d : Side} {s : List ℕ} {S : Scope} {depths at p : ℕ} {x : Block d} → BlockIn s S depths at x p → BlockIn s S depths (offset_of x) x p
at_offset {d} {s} {S} {depths} {at} {p} {x} h = subst (λ (i : ℕ). BlockIn s S depths i x p) (sym (ap offset_of (block_in h).2)) h

-- one function before others: it has those in fs before it, and the others have it too
function_first : (s : List ℕ) (fs gs : List Function) (g : Function) (at q : ℕ) → BlockIn s (record { places = g.k; earlier = fs }) 8 at g.body q
    → Limited g.k g.m → ((j : ℕ) → j < length gs → FunctionIn s (fs ++ (g ∷ [])) gs j)
    → (j : ℕ) → j < suc (length gs) → FunctionIn s fs (g ∷ gs) j
function_first s fs gs g at q b c rest zero l =
    ((q, subst (λ (e : List Function). BodyIn s e g q) (sym (append-nil fs)) (at_offset b)), c)
function_first s fs gs g at q b c rest (suc j) l =
    let ((p, body), limits) = rest j (le_of_suc-le-suc l) in
    ((p, subst (λ (e : List Function). BodyIn s e (function gs j) p) (append_assoc fs (g ∷ []) (take j gs)) body), limits)

-- n functions read after those in fs: the list is fs and n more
abbrev FunctionsIn : List ℕ → ℕ → List Function → List Function → Type 0
FunctionsIn s n fs all = (gs : List Function) × (all ≡ fs ++ gs) × (length gs ≡ n) × ((j : ℕ) → j < length gs → FunctionIn s fs gs j)

functions_in : (s : List ℕ) (n i : ℕ) (fs : List Function) → Holds (λ r. FunctionsIn s n fs r.it) (functions_at s n i fs)
functions_in s zero i fs = by ([], sym (append-nil fs), refl, λ j l. absurd (not-suc-le-zero l))
functions_in s (suc n) i fs =
    holds_then (holds_need (leb (i + 2) (length s)) 8 i) λ u a.
    holds_bind (header_in i (byte s i) (byte s (i + 1))) λ h c.
    holds_bind (block_read s parameter (record { places = h.locations; earlier = fs }) 8 (i + 2) (length s) (omega arith)) λ b v.
    let g : Function = record { k = h.locations; m = h.arguments; body = b.it } in
    holds_map
    (λ r w. (g ∷ w.0, w.1 ∙ append_assoc fs (g ∷ []) w.0, ap suc w.2, function_first s fs w.0 g (i + 2) b.next v.0 c w.3))
    (functions_in s n b.next (fs ++ (g ∷ [])))

program_header_in : (f : ℕ) → Holds (λ h. (h.functions ≡ f) × (f ≤ 15)) (program_header f)
program_header_in f = holds_then (holds_need (leb f 15) 4 5) λ u a. by (refl, at_most f 15 a)

-- a program of functions that stand in the file, with main up to the last byte
program_of : (s : List ℕ) (fs : List Function) (main : Block device) (at : ℕ) → length s ≤ 4096 → byte s 5 ≤ 15
    → FunctionsIn s (byte s 5) [] fs → BlockIn s (main_scope fs) 8 at main (length s)
    → ProgramIn s (record { functions = fs; main = main })
program_of s fs main at l f g b = record {
  size = l;
  count = ap length g.1 ∙ g.2;
  few = omega (arith, ap length g.1 ∙ g.2, f);
  body = λ j l. (each j l).0;
  head = λ j l. (each j l).1;
  main = at_offset b;
}
  where
    each : (j : ℕ) → j < length fs → FunctionIn s [] fs j
    each = subst (λ (gs : List Function). (j : ℕ) → j < length gs → FunctionIn s [] gs j) (sym g.1) g.3

program_read : (s : List ℕ) → Holds (ProgramIn s) (read_program s)
program_read s =
    holds_then (holds_need (leb 8 (length s)) 1 0) λ u₁ a₁.
    holds_then (holds_need (leb (length s) 4096) 4 0) λ u₂ a₂.
    holds_then (holds_need (has_mark s 0x53) 2 0) λ u₃ a₃.
    holds_then (holds_need (eqb (word s 3) 1) 3 3) λ u₄ a₄.
    holds_bind (program_header_in (byte s 5)) λ h c.
    holds_bind (functions_in s h.functions 6 []) λ fs g.
    holds_bind (block_read s device (main_scope fs.it) 8 fs.next (length s) (omega arith)) λ b v.
    holds_then (holds_need (eqb b.next (length s)) 8 b.next) λ u₅ a₅.
    let functions = subst (λ (n : ℕ). FunctionsIn s n [] fs.it) c.0 g in
    let ends : b.next ≡ length s = eqb_true b.next (length s) a₅ in
    let main = subst (λ (p : ℕ). BlockIn s (main_scope fs.it) 8 fs.next b.it p) ends v.0 in
    by (program_of s fs.it b.it fs.next (at_most (length s) 4096 a₂) c.1 functions main)

pub program_in : (s : List ℕ) (p : Program) → read_program s ≡ ok p → ProgramIn s p
program_in s p e = holds_at (program_read s) e
