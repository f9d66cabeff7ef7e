-- What reading guarantees. Every reading function is a row of checks, so what it gives is what its checks let through: for each of them one lemma
-- says what holds of its result, and the lemmas follow the functions. The statement table is taken by its thirteen rows once, in `table_good`. The
-- statements of a block fill it exactly: each takes at least one byte, so the count of bytes is enough for them.
use mathlib.Core.Bool.{◌&&◌}
use mathlib.Core.List.{List, [], ◌∷◌, ◌++◌, append_assoc, append-nil}
use mathlib.Core.Path.{◌≡◌, refl, sym, ap, subst, ◌∙◌}
use native.Mathlib.Omega.{arith}
use Prim.Native.Nat.{ℕ, zero, suc, ◌+◌, ◌<◌, ◌≤◌}
use lib.Dec.{eqb, ltb, leb}
use lib.ListN.{get_or, get_elem?, length, length-replicate, replicate}
use Rattle.answers.specs.Check.{Check}
use Rattle.answers.proofs.Laws.{Holds, not_ok, by, holds_bind, holds_then, holds_need, holds_map, holds_at, holds_choice}
use Rattle.rules.specs.declared.statements.Operand.{Operand}
use Rattle.rules.specs.declared.statements.Operand.TheVariants.{Slot, Location, Callee, CalleeK, CalleeM}
use Rattle.rules.specs.Basics.{up_to, byte, word, has_mark}
use Rattle.rules.proofs.Basics.{length_up_to, get_d_up_to}
use Rattle.rules.specs.Syntax.{Side, device, parameter, Place, at, Op, Statement, call, done, Block, Function}
use Rattle.rules.specs.Words.{Text}
use Rattle.rules.specs.Table.{simple, branches, loops, calls, Row, table, row_of, size}
use Rattle.rules.specs.Program.{Read, Scope, known, meant, statement, statements}
use Rattle.rules.specs.Program.{read_block, function_header, program_header, functions_at, read_program}
use Rattle.theory.specs.WellRead.{OpRead, CallRead, StatementRead, op_read, if_read, while_read, call_read, StatementsRead, done_read, next_read}
use Rattle.theory.specs.WellRead.{BlockRead, block_read, FunctionsRead, none_read, function_read, ProgramRead, WellRead}
use Rattle.rules.proofs.Fitting.{AllFit, operands_fit, split_fit, each_fits}
use Rattle.rules.proofs.Tests.{eqb_true, not_below, at_most, and_left, and_right}

-- what a row of the table must be: the operands of an operation give what the operation asks for; before blocks there is one slot, before a call's
-- lists its function, k and m
data GoodRow : Row → Type 0 where
  good_simple : {w : Text} {os : List Operand} {f : (d : Side) → (ℕ → ℕ) → Op d}
      → ((s : List ℕ) (S : Scope) (i : ℕ) (d : Side) → AllFit s S i 1 os → OpRead S (f d λ n. byte s (i + n)))
      → GoodRow (record { name = w; operands = os; meaning = simple f })
  good_branches : {w : Text} → GoodRow (record { name = w; operands = Slot ∷ []; meaning = branches })
  good_loops : {w : Text} → GoodRow (record { name = w; operands = Slot ∷ []; meaning = loops })
  good_calls : {w : Text} → GoodRow (record { name = w; operands = Callee ∷ CalleeK ∷ CalleeM ∷ []; meaning = calls })

-- the same as a function, so that the row that is asked for says which operation it is
simple_row : {w : Text} {os : List Operand} {f : (d : Side) → (ℕ → ℕ) → Op d}
    → ((s : List ℕ) (S : Scope) (i : ℕ) (d : Side) → AllFit s S i 1 os → OpRead S (f d λ n. byte s (i + n)))
    → GoodRow (record { name = w; operands = os; meaning = simple f })
simple_row h = good_simple h

-- each row of a list is
data AllGood : List Row → Type 0 where
  no_row : AllGood []
  a_row : {r : Row} {rs : List Row} → GoodRow r → AllGood rs → AllGood (r ∷ rs)

infixr 20 ◌then◌
◌then◌ : {r : Row} {rs : List Row} → GoodRow r → AllGood rs → AllGood (r ∷ rs)
g then gs = a_row g gs

-- the table's rows, in its order
table_good : AllGood table
table_good =
    simple_row (λ s S i d h. (h.0, h.1.0))
    then simple_row (λ s S i d h. (h.0, h.1.0))
    then simple_row (λ s S i d h. h.0)
    then simple_row (λ s S i d h. (h.0, h.1.0))
    then simple_row (λ s S i d h. (h.0, h.1.0, h.1.1.0))
    then simple_row (λ s S i d h. (h.0, h.1.0, h.1.1.0, h.1.1.1.0, h.1.1.1.1.0))
    then simple_row (λ s S i d h. (h.0, h.1.0))
    then simple_row (λ s S i d h. (h.0, h.1.0))
    then simple_row (λ s S i d h. (h.0, h.1.0))
    then good_branches
    then good_loops
    then good_calls
    then simple_row (λ s S i d h. h.0)
    then no_row

-- a byte's row, where it has one, is one of them
row_among : (rs : List Row) → AllGood rs → (b i : ℕ) → Holds GoodRow (known (get_elem? rs b) i)
row_among [] no_row b i = not_ok
row_among (r ∷ rs) (a_row g gs) zero i = by g
row_among (r ∷ rs) (a_row g gs) (suc b) i = row_among rs gs b i

good_row : (b i : ℕ) → Holds GoodRow (known (row_of b) i)
good_row zero i = not_ok
good_row (suc b) i = row_among table table_good b i

-- a call whose lists have k and m entries
call_of : {d : Side} (S : Scope) (n i f k m : ℕ) (ls : List (Place d)) (xs : List ℕ) → length ls ≡ k → length xs ≡ m → CallRead S f ls xs
    → StatementRead S n i (i + 4 + k + m) (call i f ls xs)
call_of S n i f k m ls xs a b c =
    let e : i + 4 + length ls + length xs ≡ i + 4 + k + m = omega arith in
    subst (λ (q : ℕ). StatementRead S n i q (call i f ls xs)) e (call_read c)

-- the call at i, with its k places and m slots from i + 4 on
module _ (s : List ℕ) (d : Side) (S : Scope) (i : ℕ) where
  abbrev call_k : ℕ
  call_k = byte s (i + 2)

  abbrev call_m : ℕ
  call_m = byte s (i + 3)

  abbrev call_place : ℕ → Place d
  call_place n = record { no = byte s n }

  abbrev call_places : List (Place d)
  call_places = up_to (i + 4) call_k call_place

  abbrev call_slots : List ℕ
  call_slots = up_to (i + 4 + call_k) call_m (byte s)

  called : AllFit s S i 1 (Callee ∷ CalleeK ∷ CalleeM ∷ []) → AllFit s S i 4 (replicate call_k Location ++ replicate call_m Slot)
      → CallRead S (byte s (i + 1)) call_places call_slots
  called h r = record {
    earlier = h.0;
    locations = length_up_to (i + 4) call_k call_place ∙ h.1.0;
    slots = length_up_to (i + 4 + call_k) call_m (byte s) ∙ h.1.1.0;
    places_in = λ j l. at_place j (subst (λ (n : ℕ). j < n) (length_up_to (i + 4) call_k call_place) l);
    slots_in = λ j l. at_slot j (subst (λ (n : ℕ). j < n) (length_up_to (i + 4 + call_k) call_m (byte s)) l);
  }
    where
      first_slot : ℕ
      first_slot = 4 + length (replicate call_k Location)

      halves : AllFit s S i 4 (replicate call_k Location) × AllFit s S i first_slot (replicate call_m Slot)
      halves = split_fit s S i 4 (replicate call_k Location) (replicate call_m Slot) r

      at_place : (j : ℕ) → j < call_k → (at call_places j).no < S.places
      at_place j l = rw (get_d_up_to (i + 4) call_k j call_place (record { no = 0 }) l) (each_fits s S i 4 call_k Location halves.0 j l)

      at_slot : (j : ℕ) → j < call_m → get_or call_slots j 0 < 32
      at_slot j l =
          let e : i + first_slot + j ≡ i + 4 + call_k + j = omega (arith, length-replicate call_k Location) in
          rw (get_d_up_to (i + 4 + call_k) call_m j (byte s) 0 l)
          (subst (λ (n : ℕ). byte s n < 32) e (each_fits s S i first_slot call_m Slot halves.1 j l))

  called_read : (n : ℕ) → CallRead S (byte s (i + 1)) call_places call_slots
      → StatementRead S n i (i + 4 + call_k + call_m) (call i (byte s (i + 1)) call_places call_slots)
  called_read n c =
      call_of S n i (byte s (i + 1)) call_k call_m call_places call_slots (length_up_to (i + 4) call_k _) (length_up_to (i + 4 + call_k) call_m _) c

-- what is shown of a block read, and of a statement read, from i on in a block that ends at e, with n depths left
abbrev BlockIn : {d : Side} → Scope → ℕ → ℕ → ℕ → Read (Block d) → Type 0
BlockIn S n i e r = BlockRead S n i r.next r.it × (i ≤ r.next) × (r.next ≤ e)

abbrev StatementIn : {d : Side} → Scope → ℕ → ℕ → ℕ → Read (Statement d) → Type 0
StatementIn S n i e r = StatementRead S n i r.next r.it × (i < r.next) × (r.next ≤ e)

module _ (s : List ℕ) (d : Side) (S : Scope) where
  module _ (n : ℕ) (inner : ℕ → ℕ → Check (Read (Block d))) (inner-in : (i e : ℕ) → Holds (BlockIn S n i e) (inner i e)) where
    -- what follows the fixed part, by the kinds of rows
    meant_in : (r : Row) → GoodRow r → (i e : ℕ) → i + size r ≤ e → AllFit s S i 1 r.operands
        → Holds (StatementIn S n i e) (meant s d S inner r.meaning i (i + size r) e)
    meant_in r (good_simple {os = os} g) i e l h =
        let q : i < i + suc (length os) = omega arith in
        by (op_read (g s S i d h) q, q, l)
    meant_in r good_branches i e l h =
        holds_bind (inner-in (i + 2) e) λ b u.
        holds_bind (inner-in b.next e) λ c v.
        by (if_read h.0 u.0 v.0, omega arith, v.2)
    meant_in r good_loops i e l h =
        holds_bind (inner-in (i + 2) e) λ b u.
        by (while_read h.0 u.0, omega arith, u.2)
    meant_in r good_calls i e l h =
        holds_then (holds_need (leb (i + 4 + byte s (i + 2) + byte s (i + 3)) e) 8 i) λ u a.
        holds_then (operands_fit s S i 4 (replicate (byte s (i + 2)) Location ++ replicate (byte s (i + 3)) Slot)) λ v t.
        by (called_read s d S i n (called s d S i h t), omega arith, at_most (i + 4 + byte s (i + 2) + byte s (i + 3)) e a)

    statement_in : (i e : ℕ) → Holds (StatementIn S n i e) (statement s d S inner i e)
    statement_in i e =
        holds_bind (good_row (byte s i) i) λ r g.
        holds_then (holds_need (leb (i + size r) e) 8 i) λ u l.
        holds_then (operands_fit s S i 1 r.operands) λ v h.
        meant_in r g i e (at_most (i + size r) e l) h

    -- no statement, where the block is at its end
    none_left : (i e : ℕ) → i ≡ e → StatementsRead {s = d} S n i e done
    none_left i e q = subst (λ (p : ℕ). StatementsRead {s = d} S n i p done) q done_read

    -- the count is enough, so that the statements end at e
    statements_in : (more i e : ℕ) → i ≤ e → e ≤ i + more → Holds (StatementsRead S n i e) (statements s d S inner more i e)
    statements_in zero i e l m = by (none_left i e (omega arith))
    statements_in (suc more) i e l m =
        holds_choice (ltb i e) (λ h. by (none_left i e (omega (arith, not_below i e h)))) λ h.
        holds_bind (statement_in i e) λ t u.
        holds_bind (statements_in more t.next e u.2 (omega arith)) λ ts v.
        by (next_read u.0 v)

  -- a block, by the depths left
  block_in : (n i e : ℕ) → Holds (BlockIn S n i e) (read_block s d S n i e)
  block_in zero i e = holds_then (holds_need (leb (i + 2) e) 8 i) λ u a. not_ok
  block_in (suc n) i e =
      holds_then (holds_need (leb (i + 2) e) 8 i) λ u a.
      holds_then (holds_need (leb (i + 2 + word s i) e) 8 i) λ v b.
      holds_bind (statements_in n (read_block s d S n) (block_in n) (word s i) (i + 2) (i + 2 + word s i) (omega arith) (omega arith)) λ ts h.
      by (block_read h, omega arith, at_most (i + 2 + word s i) e b)

-- what a function's header says
header_in : (i k m : ℕ) → Holds (λ h. (h.locations ≤ 16) × (h.arguments ≤ 8) × (h.arguments ≤ h.locations)) (function_header i k m)
header_in i k m =
    holds_then (holds_need (leb k 16) 4 i) λ u a.
    holds_then (holds_need (leb m 8 && leb m k) 4 (i + 1)) λ v b.
    by (at_most k 16 a, at_most m 8 (and_left (leb m 8) (leb m k) b), at_most m k (and_right (leb m 8) (leb m k) b))

-- n functions read after those in fs: the list is fs and n more
abbrev FunctionsIn : ℕ → ℕ → List Function → Read (List Function) → Type 0
FunctionsIn n i fs r = (gs : List Function) × (r.it ≡ fs ++ gs) × (length gs ≡ n) × FunctionsRead fs i gs r.next

functions_in : (s : List ℕ) (n i : ℕ) (fs : List Function) → Holds (FunctionsIn n i fs) (functions_at s n i fs)
functions_in s zero i fs = by ([], sym (append-nil fs), refl, none_read)
functions_in s (suc n) i fs =
    holds_then (holds_need (leb (i + 2) (length s)) 8 i) λ u a.
    holds_bind (header_in i (byte s i) (byte s (i + 1))) λ h c.
    holds_bind (block_in s parameter (record { places = h.locations; earlier = fs }) 8 (i + 2) (length s)) λ b v.
    let g : Function = record { k = h.locations; m = h.arguments; body = b.it } in
    holds_map
    (λ r w. (g ∷ w.0, w.1 ∙ append_assoc fs (g ∷ []) w.0, ap suc w.2, function_read c.0 c.1 c.2 v.0 w.3))
    (functions_in s n b.next (fs ++ (g ∷ [])))

program_header_in : (f : ℕ) → Holds (λ h. h.functions ≤ 15) (program_header f)
program_header_in f = holds_then (holds_need (leb f 15) 4 5) λ u a. by (at_most f 15 a)

-- the main block is read after the functions, up to the last byte
program_in : (s : List ℕ) → Holds (ProgramRead (length s)) (read_program s)
program_in s =
    holds_then (holds_need (leb 8 (length s)) 1 0) λ u₁ a₁.
    holds_then (holds_need (leb (length s) 4096) 4 0) λ u₂ a₂.
    holds_then (holds_need (has_mark s 0x53) 2 0) λ u₃ a₃.
    holds_then (holds_need (eqb (word s 3) 1) 3 3) λ u₄ a₄.
    holds_bind (program_header_in (byte s 5)) λ h c.
    holds_bind (functions_in s h.functions 6 []) λ fs g.
    holds_bind (block_in s device (record { places = 256; earlier = fs.it }) 8 fs.next (length s)) λ b v.
    holds_then (holds_need (eqb b.next (length s)) 8 b.next) λ u₅ a₅.
    by (record {
      few = rw g.1 (omega (arith, g.2, c));
      main_at_lem = fs.next;
      functions = rw g.1 g.3;
      main = subst (λ (p : ℕ). BlockRead (record { places = 256; earlier = fs.it }) 8 fs.next p b.it) (eqb_true b.next (length s) a₅) v.0;
      short = at_most (length s) 4096 a₂;
    })

pub well_read : WellRead
well_read bytes p e = holds_at (program_in bytes) e
