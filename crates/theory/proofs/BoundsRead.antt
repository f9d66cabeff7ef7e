-- What reading stays within. A file's length is tested before anything that goes by position, and reading stays inside the file: so every place that it
-- refuses at, and every offset in the tree that it gives, is at most 4,096.
use mathlib.Core.Bool.{Bool, true, ◌&&◌}
use mathlib.Core.List.{List, [], ◌∷◌, ◌++◌}
use mathlib.Core.Option.{Option, none, some}
use mathlib.Core.Path.{◌≡◌, refl, ap}
use native.Mathlib.Omega.{arith}
use Prim.Native.Nat.{ℕ, zero, suc, ◌+◌, ◌*◌, ◌≤◌}
use lib.Dec.{eqb, ltb, leb}
use lib.ListN.{get_elem?, length, length-append, length-replicate, replicate}
use Rattle.answers.specs.Check.{Check}
use Rattle.rules.specs.declared.statements.Operand.{Operand}
use Rattle.rules.specs.declared.statements.Operand.TheVariants as operand
use Rattle.rules.specs.Basics.{all, byte, word, has_mark}
use Rattle.rules.specs.Device.{Edge, device_header, owners, increases, edges, read_device}
use Rattle.rules.specs.Syntax.{Side, device, parameter}
use Rattle.rules.specs.Syntax.{Statement, op, if, while, call, Statements, done, ◌⨾◌, Block, block, Function, Program}
use Rattle.rules.specs.Table.{Meaning, simple, branches, loops, calls, Row, table, row_of, size}
use Rattle.rules.specs.Program.{Read, Scope, in_range, known, operands, meant, statement, statements, read_block}
use Rattle.rules.specs.Program.{function_header, program_header, functions_at, read_program}
use Rattle.theory.specs.Bounds.{Within, value, refusal as refuses}
use Rattle.rules.proofs.Tests.{eqb_true, at_most, and_left, and_right}
use Rattle.theory.proofs.BoundsLaws.{bind_within, then_within, Any, given, need_within, choice_within}

-- Devices

header_within : (n e : ℕ) → Within (λ h. (1 ≤ h.locations) × (h.locations ≤ 256) × (h.edges ≤ 1024)) (device_header n e)
header_within n e =
    then_within (need_within (leb 1 n && leb n 256) 4 5 refl (omega arith)) λ u h.
    then_within (need_within (leb e 1024) 4 7 refl (omega arith)) λ v k.
    value (at_most 1 n (and_left (leb 1 n) (leb n 256) h), at_most n 256 (and_right (leb 1 n) (leb n 256) h), at_most e 1024 k)

owners_within : (s : List ℕ) (i m : ℕ) → i + m ≤ 4096 → Within (λ ws. length ws ≡ m) (owners s i m)
owners_within s i zero l = value refl
owners_within s i (suc m) l =
    then_within (need_within (leb (byte s i) 2) 6 i refl (omega arith)) λ u h.
    bind_within (owners_within s (suc i) m (omega arith)) λ ws e. value (ap suc e)

edges_within : (s : List ℕ) (n : ℕ) (before : Option Edge) (i m : ℕ) → i + 2 * m ≤ 4096 → Within Any (edges s n before i m)
edges_within s n before i zero l = value tt
edges_within s n before i (suc m) l =
    let e : Edge = record { from = byte s i; to = byte s (i + 1) } in
    then_within (need_within (ltb e.from e.to && ltb e.to n && increases before e) 7 i refl (omega arith)) λ u h.
    bind_within (edges_within s n (some e) (i + 2) m (omega arith)) λ es k. value tt

pub device_within : (s : List ℕ) → Within (λ D. (1 ≤ length D.owners) × (length D.owners ≤ 256)) (read_device s)
device_within s =
    then_within (need_within (leb 9 (length s)) 1 0 refl (omega arith)) λ u₁ h₁.
    then_within (need_within (has_mark s 0x47) 2 0 refl (omega arith)) λ u₂ h₂.
    then_within (need_within (eqb (word s 3) 1) 3 3 refl (omega arith)) λ u₃ h₃.
    bind_within (header_within (word s 5) (word s 7)) λ h few.
    then_within (need_within (eqb (length s) (9 + h.locations + 2 * h.edges)) 5 0 refl (omega arith)) λ u₄ h₄.
    bind_within (owners_within s 9 h.locations (omega arith)) λ ws many.
    bind_within (edges_within s h.locations none (9 + h.locations) h.edges (omega arith)) λ es j.
    value (omega arith, omega arith)

-- Programs. Every offset of a tree, and of the commands that typing makes of it, is at most 4,096.

abbrev mutual
  pub StatementPlaced : {s : Side} → Statement s → Type 0
  StatementPlaced (op o a) = o ≤ 4096
  StatementPlaced (if o y b c) = (o ≤ 4096) × BlockPlaced b × BlockPlaced c
  StatementPlaced (while o r b) = (o ≤ 4096) × BlockPlaced b
  StatementPlaced (call o f ls xs) = o ≤ 4096

  pub StatementsPlaced : {s : Side} → Statements s → Type 0
  StatementsPlaced done = Unit {0}
  StatementsPlaced (t ⨾ ts) = StatementPlaced t × StatementsPlaced ts

  pub BlockPlaced : {s : Side} → Block s → Type 0
  BlockPlaced (block o ts) = (o ≤ 4096) × StatementsPlaced ts

abbrev pub FunctionsPlaced : List Function → Type 0
FunctionsPlaced [] = Unit {0}
FunctionsPlaced (g ∷ gs) = BlockPlaced g.body × FunctionsPlaced gs

one_more : (fs : List Function) (g : Function) → FunctionsPlaced fs → BlockPlaced g.body → FunctionsPlaced (fs ++ (g ∷ []))
one_more [] g h k = (k, tt)
one_more (f ∷ fs) g h k = (h.0, one_more fs g h.1 k)

-- a row whose meaning is a call has four bytes before the call's lists
abbrev lists : Meaning → ℕ → Bool
lists (simple f) n = true
lists branches n = true
lists loops n = true
lists calls n = eqb n 4

row_within : (rs : List Row) → all (λ r. lists r.meaning (size r)) rs ≡ true
    → (b i : ℕ) → i ≤ 4096 → Within (λ r. lists r.meaning (size r) ≡ true) (known (get_elem? rs b) i)
row_within [] h b i l = refuses (given 9 i refl l)
row_within (r ∷ rs) h zero i l = value (and_left (lists r.meaning (size r)) _ h)
row_within (r ∷ rs) h (suc b) i l = row_within rs (and_right (lists r.meaning (size r)) _ h) b i l

known_row : (b i : ℕ) → i ≤ 4096 → Within (λ r. lists r.meaning (size r) ≡ true) (known (row_of b) i)
known_row zero i l = refuses (given 9 i refl l)
known_row (suc b) i l = row_within table refl b i l

operands_within : (s : List ℕ) (S : Scope) (i n : ℕ) (os : List Operand) → i + n + length os ≤ 4096 → Within Any (operands s S i n os)
operands_within s S i n [] l = value tt
operands_within s S i n (o ∷ os) l =
    then_within (need_within (in_range S (byte s (i + 1)) o (byte s (i + n))) 10 (i + n) refl (omega arith)) λ u h.
    operands_within s S i (suc n) os (omega arith)

-- what is shown of a statement and of a block read in a block, or a file, that ends at e
abbrev StatementIn : {d : Side} → ℕ → Read (Statement d) → Type 0
StatementIn e t = StatementPlaced t.it × (t.next ≤ e)

abbrev BlockIn : {d : Side} → ℕ → Read (Block d) → Type 0
BlockIn e b = BlockPlaced b.it × (b.next ≤ e)

module _ (s : List ℕ) (d : Side) (S : Scope) where
  abbrev InnerWithin : (ℕ → ℕ → Check (Read (Block d))) → Type 0
  InnerWithin inner = (i e : ℕ) → i ≤ e → e ≤ 4096 → Within (BlockIn e) (inner i e)

  module _ (inner : ℕ → ℕ → Check (Read (Block d))) (inner-within : InnerWithin inner) where
    meant_within : (w : Meaning) (z i e : ℕ) → lists w z ≡ true → i + z ≤ e → e ≤ 4096
        → Within (StatementIn e) (meant s d S inner w i (i + z) e)
    meant_within (simple f) z i e h l m = let o : i ≤ 4096 = omega arith in value (o, l)
    meant_within branches z i e h l m =
        let o : i ≤ 4096 = omega arith in
        bind_within (inner-within (i + z) e l m) λ b u.
        bind_within (inner-within b.next e u.1 m) λ c v. value ((o, u.0, v.0), v.1)
    meant_within loops z i e h l m =
        let o : i ≤ 4096 = omega arith in
        bind_within (inner-within (i + z) e l m) λ b u. value ((o, u.0), u.1)
    meant_within calls z i e h l m =
        let o : i ≤ 4096 = omega arith in
        let k : ℕ = byte s (i + 2) in
        let n : ℕ = byte s (i + 3) in
        then_within (need_within (leb (i + z + k + n) e) 8 i refl o) λ u fits.
        then_within (operands_within s S i 4 (replicate k operand.Location ++ replicate n operand.Slot) (ends k n fits)) λ v r.
        value (o, at_most (i + z + k + n) e fits)
      where
        ends : (k n : ℕ) → leb (i + z + k + n) e ≡ true → i + 4 + length (replicate k operand.Location ++ replicate n operand.Slot) ≤ 4096
        ends k n fits =
            simp (length-append, length-replicate)
            (omega (arith, at_most (i + z + k + n) e fits, eqb_true z 4 h))

    statement_within : (i e : ℕ) → i ≤ e → e ≤ 4096 → Within (StatementIn e) (statement s d S inner i e)
    statement_within i e l m =
        let o : i ≤ 4096 = omega arith in
        bind_within (known_row (byte s i) i o) λ r h.
        then_within (need_within (leb (i + size r) e) 8 i refl o) λ u k.
        let p : i + size r ≤ e = at_most (i + size r) e k in
        then_within (operands_within s S i 1 r.operands (omega arith)) λ v q.
        meant_within r.meaning (size r) i e h p m

    statements_within : (more i e : ℕ) → i ≤ e → e ≤ 4096 → Within StatementsPlaced (statements s d S inner more i e)
    statements_within zero i e l m = value tt
    statements_within (suc more) i e l m =
        choice_within (ltb i e) (value tt)
        (bind_within (statement_within i e l m) λ t u.
        bind_within (statements_within more t.next e u.1 m) λ ts v. value (u.0, v))

  block_within : (n : ℕ) → InnerWithin (read_block s d S n)
  block_within zero i e l m =
      then_within (need_within (leb (i + 2) e) 8 i refl (omega arith)) λ u a. refuses (given 4 i refl (omega arith))
  block_within (suc n) i e l m =
      let o : i ≤ 4096 = omega arith in
      then_within (need_within (leb (i + 2) e) 8 i refl o) λ u a.
      then_within (need_within (leb (i + 2 + word s i) e) 8 i refl o) λ v b.
      let fits : i + 2 + word s i ≤ e = at_most (i + 2 + word s i) e b in
      bind_within (statements_within (read_block s d S n) (block_within n) (word s i) (i + 2) (i + 2 + word s i) (omega arith) (omega arith)) λ ts h.
      value ((o, h), fits)

function_header_within : (i k m : ℕ) → i + 1 ≤ 4096 → Within Any (function_header i k m)
function_header_within i k m l =
    then_within (need_within (leb k 16) 4 i refl (omega arith)) λ u a.
    then_within (need_within (leb m 8 && leb m k) 4 (i + 1) refl l) λ v b. value tt

module _ (s : List ℕ) (short : length s ≤ 4096) where
  functions_within : (n i : ℕ) (fs : List Function) → i ≤ length s → FunctionsPlaced fs
      → Within (λ r. FunctionsPlaced r.it × (r.next ≤ length s)) (functions_at s n i fs)
  functions_within zero i fs l p = value (p, l)
  functions_within (suc n) i fs l p =
      then_within (need_within (leb (i + 2) (length s)) 8 i refl (omega arith)) λ u a.
      let fits : i + 2 ≤ length s = at_most (i + 2) (length s) a in
      bind_within (function_header_within i (byte s i) (byte s (i + 1)) (omega arith)) λ h c.
      bind_within (block_within s parameter (record { places = h.locations; earlier = fs }) 8 (i + 2) (length s) fits short) λ b v.
      let g : Function = record { k = h.locations; m = h.arguments; body = b.it } in
      functions_within n b.next (fs ++ (g ∷ [])) v.1 (one_more fs g p v.0)

program_header_within : (f : ℕ) → Within Any (program_header f)
program_header_within f = then_within (need_within (leb f 15) 4 5 refl (omega arith)) λ u a. value tt

abbrev pub ProgramPlaced : Program → Type 0
ProgramPlaced p = FunctionsPlaced p.functions × BlockPlaced p.main

pub program_within : (s : List ℕ) → Within ProgramPlaced (read_program s)
program_within s =
    then_within (need_within (leb 8 (length s)) 1 0 refl (omega arith)) λ u₁ a₁.
    then_within (need_within (leb (length s) 4096) 4 0 refl (omega arith)) λ u₂ a₂.
    then_within (need_within (has_mark s 0x53) 2 0 refl (omega arith)) λ u₃ a₃.
    then_within (need_within (eqb (word s 3) 1) 3 3 refl (omega arith)) λ u₄ a₄.
    let long : 8 ≤ length s = at_most 8 (length s) a₁ in
    let short : length s ≤ 4096 = at_most (length s) 4096 a₂ in
    bind_within (program_header_within (byte s 5)) λ h c.
    bind_within (functions_within s short h.functions 6 [] (omega arith) tt) λ fs g.
    bind_within (block_within s device (record { places = 256; earlier = fs.it }) 8 fs.next (length s) g.1 short) λ b v.
    then_within (need_within (eqb b.next (length s)) 8 b.next refl (omega arith)) λ u₅ a₅.
    value (g.0, v.0)
