-- The first refusal of reading. A reader is a row of checks and agrees with its list test by test. The list says from the bytes where the next block,
-- statement or function starts, so for each read it is shown too that it ends there. The list knows the functions before a body by their headers alone:
-- an operand is in range by these exactly where it is by the functions read, since nothing but their number, k and m is asked.
use mathlib.Core.Bool.{◌&&◌, ◌||◌}
use mathlib.Core.List.{List, [], ◌∷◌, ◌++◌, map, map-append}
use mathlib.Core.Option.{Option, none, some}
use mathlib.Core.Path.{◌≡◌, refl, sym, ap, subst, ◌∙◌}
use native.Mathlib.Omega.{arith}
use Prim.Native.Nat.{ℕ, zero, suc, ◌+◌, ◌*◌, ◌-◌}
use lib.Dec.{eqb, ltb, leb, eqb-suc-zero}
use lib.ListN.{length, length-map, get_or-map, replicate}
use Rattle.answers.specs.Check.{Check, ok, ◌>>=◌, ◌>>◌, need}
use Rattle.answers.proofs.Laws.{Holds, not_ok, by, holds_bind}
use Rattle.rules.specs.declared.statements.Operand.{Operand}
use Rattle.rules.specs.declared.statements.Operand.TheVariants.{Slot, Location, Gate, Basis, Value, Callee, CalleeK, CalleeM, Nothing}
use Rattle.rules.specs.Basics.{up_to, byte, word, has_mark}
use Rattle.rules.specs.Device.{Edge, read_device, owners, increases, edges}
use Rattle.rules.specs.Syntax.{Side, device, parameter, Statement, done, Block, block, Function, function, Program}
use Rattle.rules.specs.Table.{Meaning, simple, branches, loops, calls, Row, row_of, size}
use Rattle.rules.specs.Program.{Scope, Read, in_range, known, operands, meant, statements, read_block, functions_at, read_program}
use Rattle.theory.specs.Tests.{Test, test}
use Rattle.theory.specs.ReadingOrder.{headed, edge_passes, device_tests, operand_tests, after_block, following_tests, after_following}
use Rattle.theory.specs.ReadingOrder.{statement_tests, after_statement, statements_tests, block_tests, bodies_tests, program_tests, DeviceOrder, ProgramOrder}
use Rattle.theory.proofs.Rows.{past, past_any, AsFirst, end, next, passed, fails, made, gives}
use Rattle.theory.proofs.Rows.{after_having, after, then, next_in, value_in, row_in, choice}

-- Device
module _ (s : List ℕ) where
  abbrev owner_test : ℕ → Test
  owner_test i = test (leb (byte s (9 + i)) 2) 6 (9 + i)

  owners_row : (i m : ℕ) → AsFirst (owners s (9 + i) m) (up_to i m owner_test)
  owners_row i zero = end []
  owners_row i (suc m) =
      let p : 9 + suc i ≡ suc (9 + i) = omega arith in
      let rest : AsFirst (owners s (suc (9 + i)) m) (up_to (suc i) m owner_test) = rw p at (owners_row (suc i) m) in
      next (leb (byte s (9 + i)) 2) 6 (9 + i) (made (λ ws. byte s (9 + i) ∷ ws) rest)

  module _ (n : ℕ) where
    abbrev edge_test : ℕ → Test
    edge_test i = test (edge_passes s n i) 7 (9 + n + 2 * i)

    abbrev edge_at : ℕ → Edge
    edge_at p = record { from = byte s p; to = byte s (p + 1) }

    abbrev before : ℕ → Edge
    before p = record { from = byte s (p - 2); to = byte s (p - 1) }

    -- the edge d, if any, is the one before edge i
    abbrev Before : Option Edge → ℕ → Type 0
    Before d i = (e : Edge) → increases d e ≡ (eqb i 0 || increases (some (before (9 + n + 2 * i))) e)

    -- before edge i + 1 is edge i
    before_suc : (i : ℕ) → Before (some (edge_at (9 + n + 2 * i))) (suc i)
    before_suc i e =
        let p : 9 + n + 2 * i ≡ 9 + n + 2 * suc i - 2 = omega arith in
        let q : 9 + n + 2 * i + 1 ≡ 9 + n + 2 * suc i - 1 = omega arith in
        λ j. sym (eqb-suc-zero i) j || increases (some (record { from = byte s (p j); to = byte s (q j) })) e

    -- m edges at p, the first of them edge i
    abbrev EdgesAt : Option Edge → ℕ → ℕ → ℕ → Type 0
    EdgesAt d p i m = AsFirst (edges s n d p m) (up_to i m edge_test)

    edges_row : (d : Option Edge) (i m : ℕ) → Before d i → EdgesAt d (9 + n + 2 * i) i m
    edges_row d i zero h = end []
    edges_row d i (suc m) h =
        let p : ℕ = 9 + n + 2 * i in
        let q : 9 + n + 2 * suc i ≡ p + 2 = omega arith in
        let rest = subst (λ (r : ℕ). EdgesAt (some (edge_at p)) r (suc i) m) q (edges_row (some (edge_at p)) (suc i) m (before_suc i)) in
        rw (h (edge_at p)) (next (edge_passes s n i) 7 p (made (λ es. edge_at p ∷ es) rest))

    edges_first : (m : ℕ) → EdgesAt none (9 + n) 0 m
    edges_first m =
        let p : 9 + n + 2 * 0 ≡ 9 + n = omega arith in
        subst (λ (q : ℕ). EdgesAt none q 0 m) p (edges_row none 0 m λ e. refl)

device_row : (s : List ℕ) → AsFirst (read_device s) (device_tests s)
device_row s =
    next (leb 9 (length s)) 1 0
    (next (has_mark s 0x47) 2 0
    (next (eqb (word s 3) 1) 3 3
    (next_in (leb 1 (word s 5) && leb (word s 5) 256) 4 5 _ _
    (next_in (leb (word s 7) 1024) 4 7 _ _
    (value_in (record { locations = word s 5; edges = word s 7 }) _
    (next (eqb (length s) (9 + word s 5 + 2 * word s 7)) 5 0
    (after (owners_row s 0 (word s 5)) λ ws. made (λ es. record { owners = ws; edges = es }) (edges_first s (word s 5) (word s 7)))))))))

pub device_order : DeviceOrder
device_order s = (device_row s).same

-- Program. A block ends where its length word says.
module _ (s : List ℕ) (S : Scope) (d : Side) where
  block_end : (n i limit : ℕ) → Holds (λ b. b.next ≡ after_block s i) (read_block s d S n i limit)
  block_end zero i limit = past _ not_ok
  block_end (suc n) i limit = past _ (past _ (past_any _ λ ts. by refl))

-- Two scopes with which the same operands are in range: the reader's, and the list's.
abbrev Agree : Scope → Scope → Type 0
Agree S S' = (f : ℕ) (o : Operand) (b : ℕ) → in_range S f o b ≡ in_range S' f o b

module _ (s : List ℕ) (S S' : Scope) (agree : Agree S S') where
  operands_row : (i n : ℕ) (os : List Operand) → AsFirst (operands s S i n os) (operand_tests s S' i n os)
  operands_row i n [] = end tt
  operands_row i n (o ∷ os) = rw (agree (byte s (i + 1)) o (byte s (i + n))) (next _ 10 (i + n) (operands_row i (suc n) os))

  module _ (d : Side) where
    -- over how an inner block is read, its tests, and that it ends where the bytes say
    module _
        (inner : ℕ → ℕ → Check (Read (Block d)))
        (innerTests : ℕ → ℕ → List Test)
        (inner-row : (i e : ℕ) → AsFirst (inner i e) (innerTests i e))
        (inner-end : (i e : ℕ) → Holds (λ b. b.next ≡ after_block s i) (inner i e))
      where
        meant_row : (m : Meaning) (i p e : ℕ) → AsFirst (meant s d S inner m i p e) (following_tests s S' innerTests m i p e)
        meant_row (simple f) i p e = end _
        meant_row branches i p e = after_having (inner-end p e) (inner-row p e) λ b q. made _ (rw q (inner-row (after_block s p) e))
        meant_row loops i p e = made _ (inner-row p e)
        meant_row calls i p e =
            next (leb (p + byte s (i + 2) + byte s (i + 3)) e) 8 i
            (gives _ (operands_row i 4 (replicate (byte s (i + 2)) Location ++ replicate (byte s (i + 3)) Slot)))

        meant_end : (m : Meaning) (i p e : ℕ) → Holds (λ t. t.next ≡ after_following s m i p) (meant s d S inner m i p e)
        meant_end (simple f) i p e = by refl
        meant_end branches i p e =
            holds_bind (inner-end p e) λ b q. holds_bind (inner-end b.next e) λ c r. by (r ∙ ap (after_block s) q)
        meant_end loops i p e = holds_bind (inner-end p e) λ b q. by q
        meant_end calls i p e = past _ (past _ (by refl))

        -- the statement at i, of the row that its byte has
        abbrev statement_of : ℕ → ℕ → Option Row → Check (Read (Statement d))
        statement_of i e row = do
          r ← known row i
          need (leb (i + size r) e) 8 i
          operands s S i 1 r.operands
          meant s d S inner r.meaning i (i + size r) e

        statement_row : (i e : ℕ) (row : Option Row) → AsFirst (statement_of i e row) (statement_tests s S' innerTests i e row)
        unfolding ◌>>=◌
        statement_row i e none = fails 9 i []
        statement_row i e (some r) =
            passed 9 i (next (leb (i + size r) e) 8 i (then (operands_row i 1 r.operands) (meant_row r.meaning i (i + size r) e)))

        statement_end : (i e : ℕ) (row : Option Row) → Holds (λ t. t.next ≡ after_statement s i row) (statement_of i e row)
        unfolding ◌>>=◌
        statement_end i e none = not_ok
        statement_end i e (some r) = past _ (past _ (meant_end r.meaning i (i + size r) e))

        statements_row : (more i e : ℕ) → AsFirst (statements s d S inner more i e) (statements_tests s S' innerTests more i e)
        statements_row zero i e = end done
        statements_row (suc more) i e =
            let row : Option Row = row_of (byte s i) in
            choice (ltb i e) (end done)
            (after_having (statement_end i e row) (statement_row i e row) λ t q. made _ (rw q (statements_row more (after_statement s i row) e)))

    -- a block, by the depths left
    block_row : (n i limit : ℕ) → AsFirst (read_block s d S n i limit) (block_tests s S' n i limit)
    block_row zero i limit = next (leb (i + 2) limit) 8 i (fails 4 i [])
    block_row (suc n) i limit =
        next (leb (i + 2) limit) 8 i
        (passed 4 i
        (next (leb (after_block s i) limit) 8 i
        (made (λ ts. record { it = block i ts; next = after_block s i })
        (statements_row (read_block s d S n) (block_tests s S' n) (block_row n) (block_end s S d n) (word s i) (i + 2) (after_block s i)))))

-- the functions read, by their headers alone
abbrev head : Function → Function
head g = headed g.k g.m

abbrev scope : ℕ → List Function → Scope
scope n fs = record { places = n; earlier = fs }

head_of : (fs : List Function) (f : ℕ) → function (map head fs) f ≡ head (function fs f)
head_of fs f = get_or-map head fs f (headed 0 0)

heads_agree : (n : ℕ) (fs : List Function) → Agree (scope n fs) (scope n (map head fs))
heads_agree n fs f Slot b = refl
heads_agree n fs f Location b = refl
heads_agree n fs f Gate b = refl
heads_agree n fs f Basis b = refl
heads_agree n fs f Value b = refl
heads_agree n fs f Callee b = ap (ltb b) (sym (length-map fs head))
heads_agree n fs f CalleeK b = ap (λ (g : Function). eqb b g.k) (sym (head_of fs f))
heads_agree n fs f CalleeM b = ap (λ (g : Function). eqb b g.m) (sym (head_of fs f))
heads_agree n fs f Nothing b = refl

module _ (s : List ℕ) where
  -- a body's block, with the functions fs before it
  body_row : (d : Side) (n : ℕ) (fs : List Function) (i : ℕ)
      → AsFirst (read_block s d (scope n fs) 8 i (length s)) (block_tests s (scope n (map head fs)) 8 i (length s))
  body_row d n fs i = block_row s (scope n fs) (scope n (map head fs)) (heads_agree n fs) d 8 i (length s)

  body_end : (d : Side) (n : ℕ) (fs : List Function) (i : ℕ) → Holds (λ b. b.next ≡ after_block s i) (read_block s d (scope n fs) 8 i (length s))
  body_end d n fs i = block_end s (scope n fs) d 8 i (length s)

  -- main, after the functions
  abbrev main : Read (List Function) → Check Program
  main fs = do
    b ← read_block s device (scope 256 fs.it) 8 fs.next (length s)
    need (eqb b.next (length s)) 8 b.next
    ok (record { functions = fs.it; main = b.it })

  bodies_row : (n i : ℕ) (fs : List Function) → AsFirst (functions_at s n i fs >>= main) (bodies_tests s n i (map head fs))
  bodies_row zero i fs =
      value_in (record { it = fs; next = i }) main
      (after_having (body_end device 256 fs i) (body_row device 256 fs i) λ b q. rw q (next (eqb (after_block s i) (length s)) 8 (after_block s i) (end _)))
  bodies_row (suc n) i fs =
      next_in (leb (i + 2) (length s)) 8 i _ main
      (row_in _ _ main
      (next_in (leb (byte s i) 16) 4 i _ _
      (next_in (leb (byte s (i + 1)) 8 && leb (byte s (i + 1)) (byte s i)) 4 (i + 1) _ _
      (value_in (record { locations = byte s i; arguments = byte s (i + 1) }) _
      (row_in _ _ main
      (after_having (body_end parameter (byte s i) fs (i + 2)) (body_row parameter (byte s i) fs (i + 2)) λ b q.
      let g : Function = record { k = byte s i; m = byte s (i + 1); body = b.it } in
      rw (q, ← map-append head fs (g ∷ [])) (bodies_row n (after_block s (i + 2)) (fs ++ (g ∷ [])))))))))

  program_row : AsFirst (read_program s) (program_tests s)
  program_row =
      next (leb 8 (length s)) 1 0
      (next (leb (length s) 4096) 4 0
      (next (has_mark s 0x53) 2 0
      (next (eqb (word s 3) 1) 3 3
      (next_in (leb (byte s 5) 15) 4 5 _ _
      (value_in (record { functions = byte s 5 }) _
      (bodies_row (byte s 5) 6 []))))))

pub program_order : ProgramOrder
program_order s = (program_row s).same
