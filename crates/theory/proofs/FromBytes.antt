-- What a job steps over stands in its program file. A statement is read at the byte that its row in the table belongs to, so the byte at an init's offset is
-- 1 or 2, that at a free's is 3, and no other statement has one of these: for each reading function one lemma says so of what it gives. A job's items to
-- come are statements of the file and returns, which stand at their calls; every step keeps this. So a moved step is an init or a free exactly where the
-- byte at its record's offset says so.
use mathlib.Core.Bool.{Bool, true, false, not, ◌&&◌}
use mathlib.Core.List.{List, [], ◌∷◌, ◌++◌, map}
use mathlib.Core.Path.{◌≡◌, refl, sym, subst, ◌∙◌}
use native.Mathlib.Nat.{add-zero, add-suc, suc-add}
use native.Mathlib.Omega.{arith}
use Prim.Native.Nat.{ℕ, zero, suc, ◌+◌}
use lib.Dec.{eqb, ltb, leb}
use lib.ListN.{get_elem?, length, replicate}
use Rattle.answers.specs.Check.{Check, ok, refused, need}
use Rattle.answers.proofs.Laws.{Holds, not_ok, by, holds_bind, holds_then, holds_any, holds_at, holds_choice}
use Rattle.rules.specs.declared.statements.Operand.TheVariants.{Slot as ASlot, Location as ALocation}
use Rattle.rules.specs.Basics.{byte, word, has_mark}
use Rattle.rules.specs.Region.{Region}
use Rattle.rules.specs.Syntax.{Side, device, parameter, Op, init, free, gate, measure, merge, new_ref, get_ref, set_ref, constant}
use Rattle.rules.specs.Syntax.{Statement, op, if, while, call, Statements, done, ◌⨾◌, Block, block, Function, function, Program}
use Rattle.rules.specs.Table.{Meaning, simple, branches, loops, calls, Row, table, row_of, size}
use Rattle.rules.specs.Program.{Read, Scope, known, operands, meant, statement, statements, read_block, function_header, program_header, functions_at, read_program}
use Rattle.rules.specs.Slots.{Slot, slot, need_qubit, need_bool, need_ref, Setting, Act, quiet, perform, callable}
use Rattle.rules.specs.Machine.{Frame, Actual, themselves, locations, locate, Item, run, return, Job, statements_before, block_before, fresh}
use Rattle.rules.specs.Machine.{Move, floor, edges_of, move, item_offset}
use Rattle.rules.specs.Machine.{Stepped, stepped, step_items, step}
use Rattle.theory.specs.Tidy.{is_init, is_free}
use Rattle.theory.specs.TheRun.{init_byte, free_byte}
use Rattle.rules.proofs.Tests.{eqb_other}
use Rattle.theory.proofs.Base.{chosen_has}
use Rattle.theory.proofs.Reasons.{reason_above, Reasoned, reason_of, move_reasoned}

abbrev pub init_op : {s : Side} → Op s → Bool
init_op (init q x l) = true
init_op (free x) = false
init_op (gate g x) = false
init_op (measure y b x) = false
init_op (merge y b x e z) = false
init_op (new_ref r y) = false
init_op (get_ref y r) = false
init_op (set_ref r y) = false
init_op (constant y v) = false

abbrev pub free_op : {s : Side} → Op s → Bool
free_op (init q x l) = false
free_op (free x) = true
free_op (gate g x) = false
free_op (measure y b x) = false
free_op (merge y b x e z) = false
free_op (new_ref r y) = false
free_op (get_ref y r) = false
free_op (set_ref r y) = false
free_op (constant y v) = false

-- 1. The statement byte b says init or not, and free or not
abbrev pub Says : ℕ → Bool → Bool → Type 0
Says b i f = (init_byte b ≡ i) × (free_byte b ≡ f)

abbrev MeaningSays : ℕ → Meaning → Type 0
MeaningSays b (simple f) = (d : Side) (x : ℕ → ℕ) → Says b (init_op (f d x)) (free_op (f d x))
MeaningSays b branches = Says b false false
MeaningSays b loops = Says b false false
MeaningSays b calls = Says b false false

abbrev RowSays : ℕ → Row → Type 0
RowSays b r = MeaningSays b r.meaning

-- the rows of a list, the first being that of byte b
data AllSay : ℕ → List Row → Type 0 where
  no_row : {b : ℕ} → AllSay b []
  a_row : {b : ℕ} {r : Row} {rs : List Row} → RowSays b r → AllSay (suc b) rs → AllSay b (r ∷ rs)

infixr 20 ◌then◌
◌then◌ : {b : ℕ} {r : Row} {rs : List Row} → RowSays b r → AllSay (suc b) rs → AllSay b (r ∷ rs)
h then hs = a_row h hs

-- the table's rows, in its order
table_says : AllSay 1 table
table_says =
    (λ d x. (refl, refl))
    then (λ d x. (refl, refl))
    then (λ d x. (refl, refl))
    then (λ d x. (refl, refl))
    then (λ d x. (refl, refl))
    then (λ d x. (refl, refl))
    then (λ d x. (refl, refl))
    then (λ d x. (refl, refl))
    then (λ d x. (refl, refl))
    then (refl, refl)
    then (refl, refl)
    then (refl, refl)
    then (λ d x. (refl, refl))
    then no_row

row_among : (rs : List Row) {n : ℕ} → AllSay n rs → (b i : ℕ) → Holds (RowSays (n + b)) (known (get_elem? rs b) i)
row_among [] no_row b i = not_ok
row_among (r ∷ rs) {n = n} (a_row h hs) zero i = by (subst (λ (m : ℕ). RowSays m r) (sym (add-zero n)) h)
row_among (r ∷ rs) {n = n} (a_row h hs) (suc b) i =
    subst (λ (m : ℕ). Holds (RowSays m) (known (get_elem? rs b) i)) (suc-add n b ∙ sym (add-suc n b)) (row_among rs hs b i)

row_says : (b i : ℕ) → Holds (RowSays b) (known (row_of b) i)
row_says zero i = not_ok
row_says (suc b) i =
    let e : 1 + b ≡ suc b = omega arith in
    subst (λ (m : ℕ). Holds (RowSays m) (known (row_of (suc b)) i)) e (row_among table table_says b i)

-- 2. Statements that stand at their bytes
module _ (s : List ℕ) where
  abbrev mutual
    pub Stands : {d : Side} → Statement d → Type 0
    Stands (op o a) = Says (byte s o) (init_op a) (free_op a)
    Stands (if o y b c) = Says (byte s o) false false × BlockStands b × BlockStands c
    Stands (while o r b) = Says (byte s o) false false × BlockStands b
    Stands (call o f ls xs) = Says (byte s o) false false

    pub AllStand : {d : Side} → Statements d → Type 0
    AllStand done = Unit {0}
    AllStand (t ⨾ ts) = Stands t × AllStand ts

    pub BlockStands : {d : Side} → Block d → Type 0
    BlockStands (block o ts) = AllStand ts

  abbrev BodiesStand : List Function → Type 0
  BodiesStand [] = Unit {0}
  BodiesStand (g ∷ gs) = BlockStands g.body × BodiesStand gs

  bodies_append : (fs : List Function) (g : Function) → BodiesStand fs → BlockStands g.body → BodiesStand (fs ++ (g ∷ []))
  bodies_append [] g h k = (k, tt)
  bodies_append (f ∷ fs) g h k = (h.0, bodies_append fs g h.1 k)

  body_stands : (fs : List Function) → BodiesStand fs → (f : ℕ) → BlockStands (function fs f).body
  body_stands [] h f = tt
  body_stands (g ∷ gs) h zero = h.0
  body_stands (g ∷ gs) h (suc f) = body_stands gs h.1 f

  module _ (d : Side) (S : Scope) where
    module _ (inner : ℕ → ℕ → Check (Read (Block d))) (inner-stands : (i e : ℕ) → Holds (λ r. BlockStands r.it) (inner i e)) where
      meant_stands : (m : Meaning) (i p e : ℕ) → MeaningSays (byte s i) m → Holds (λ r. Stands r.it) (meant s d S inner m i p e)
      meant_stands (simple f) i p e h = by (h d λ n. byte s (i + n))
      meant_stands branches i p e h =
          holds_bind (inner-stands p e) λ b u.
          holds_bind (inner-stands b.next e) λ c v.
          by (h, u, v)
      meant_stands loops i p e h = holds_bind (inner-stands p e) λ b u. by (h, u)
      meant_stands calls i p e h =
          holds_then (holds_any (need (leb (p + byte s (i + 2) + byte s (i + 3)) e) 8 i)) λ u a.
          holds_then (holds_any (operands s S i 4 (replicate (byte s (i + 2)) ALocation ++ replicate (byte s (i + 3)) ASlot))) λ v t.
          by h

      statement_stands : (i e : ℕ) → Holds (λ r. Stands r.it) (statement s d S inner i e)
      statement_stands i e =
          holds_bind (row_says (byte s i) i) λ r g.
          holds_then (holds_any (need (leb (i + size r) e) 8 i)) λ u l.
          holds_then (holds_any (operands s S i 1 r.operands)) λ v h.
          meant_stands r.meaning i (i + size r) e g

      statements_stand : (more i e : ℕ) → Holds AllStand (statements s d S inner more i e)
      statements_stand zero i e = by tt
      statements_stand (suc more) i e =
          holds_choice (ltb i e) (λ _. by tt) λ _.
          holds_bind (statement_stands i e) λ t u.
          holds_bind (statements_stand more t.next e) λ ts v.
          by (u, v)

    block_stands : (n i e : ℕ) → Holds (λ r. BlockStands r.it) (read_block s d S n i e)
    block_stands zero i e = holds_then (holds_any (need (leb (i + 2) e) 8 i)) λ u a. not_ok
    block_stands (suc n) i e =
        holds_then (holds_any (need (leb (i + 2) e) 8 i)) λ u a.
        holds_then (holds_any (need (leb (i + 2 + word s i) e) 8 i)) λ v b.
        holds_bind (statements_stand (read_block s d S n) (block_stands n) (word s i) (i + 2) (i + 2 + word s i)) λ ts h.
        by h

  functions_stand : (n i : ℕ) (fs : List Function) → BodiesStand fs → Holds (λ r. BodiesStand r.it) (functions_at s n i fs)
  functions_stand zero i fs h = by h
  functions_stand (suc n) i fs h =
      holds_then (holds_any (need (leb (i + 2) (length s)) 8 i)) λ u a.
      holds_bind (holds_any (function_header i (byte s i) (byte s (i + 1)))) λ k c.
      holds_bind (block_stands parameter (record { places = k.locations; earlier = fs }) 8 (i + 2) (length s)) λ b v.
      functions_stand n b.next _ (bodies_append fs (record { k = k.locations; m = k.arguments; body = b.it }) h v)

  -- a program that was read stands in its file
  pub record ProgramStands (p : Program) : Type 0 where
    pub bodies : (f : ℕ) → BlockStands (function p.functions f).body
    pub main : BlockStands p.main

  program_in : Holds ProgramStands (read_program s)
  program_in =
      holds_then (holds_any (need (leb 8 (length s)) 1 0)) λ u₁ a₁.
      holds_then (holds_any (need (leb (length s) 4096) 4 0)) λ u₂ a₂.
      holds_then (holds_any (need (has_mark s 0x53) 2 0)) λ u₃ a₃.
      holds_then (holds_any (need (eqb (word s 3) 1) 3 3)) λ u₄ a₄.
      holds_bind (holds_any (program_header (byte s 5))) λ h c.
      holds_bind (functions_stand h.functions 6 [] tt) λ fs g.
      holds_bind (block_stands device (record { places = 256; earlier = fs.it }) 8 fs.next (length s)) λ b v.
      holds_then (holds_any (need (eqb b.next (length s)) 8 b.next)) λ u₅ a₅.
      by (record { bodies = body_stands fs.it g; main = v })

pub program_stands : (s : List ℕ) (p : Program) → read_program s ≡ ok p → ProgramStands s p
program_stands s p e = holds_at (program_in s) e

-- 3. What an operation does is what it is
acts_as : {s : Side} {B : Type 0} (W : Setting s device B) (o : ℕ) (φ : List (Slot device B)) (a : Op s)
    → Holds (λ d. (is_init d.act ≡ init_op a) × (is_free d.act ≡ free_op a)) (perform W o φ a)
acts_as W o φ (init q x l) =
    holds_then (holds_any (need (W.may_bind (slot φ x)) 12 o)) λ u a.
    holds_then (holds_any (need (W.inside (W.named l)) 13 o)) λ v b.
    holds_then (holds_any (need (W.is_free (W.named l)) 14 o)) λ w c.
    by (refl, refl)
acts_as W o φ (free x) = holds_bind (holds_any (need_qubit (slot φ x) o)) λ l a. by (refl, refl)
acts_as W o φ (gate g x) = holds_bind (holds_any (need_qubit (slot φ x) o)) λ l a. by (refl, refl)
acts_as W o φ (measure y b x) =
    holds_then (holds_any (need (W.may_bind (slot φ y)) 12 o)) λ u a.
    holds_bind (holds_any (need_qubit (slot φ x) o)) λ l c. by (refl, refl)
acts_as W o φ (merge y b x e z) =
    holds_then (holds_any (need (W.may_bind (slot φ y)) 12 o)) λ u a.
    holds_bind (holds_any (need_qubit (slot φ x) o)) λ l c.
    holds_bind (holds_any (need_qubit (slot φ z) o)) λ k f.
    holds_then (holds_any (need (not (eqb x z)) 15 o)) λ v g. by (refl, refl)
acts_as W o φ (new_ref r y) =
    holds_then (holds_any (need (W.may_bind (slot φ r)) 12 o)) λ u a.
    holds_bind (holds_any (need_bool (slot φ y) o)) λ v b. by (refl, refl)
acts_as W o φ (get_ref y r) =
    holds_then (holds_any (need (W.may_bind (slot φ y)) 12 o)) λ u a.
    holds_bind (holds_any (need_ref (slot φ r) o)) λ v b. by (refl, refl)
acts_as W o φ (set_ref r y) =
    holds_bind (holds_any (need_ref (slot φ r) o)) λ old a.
    holds_bind (holds_any (need_bool (slot φ y) o)) λ v b. by (refl, refl)
acts_as W o φ (constant y v) = holds_then (holds_any (need (W.may_bind (slot φ y)) 12 o)) λ u a. by (refl, refl)

-- 4. The items to come stand in the file, a return at its call.
module _ (s : List ℕ) where
  abbrev pub ItemStands : Item → Type 0
  ItemStands (run σ t) = Stands s t
  ItemStands (return o ls xs) = Says (byte s o) false false

  abbrev pub ItemsStand : List Item → Type 0
  ItemsStand [] = Unit {0}
  ItemsStand (i ∷ is) = ItemStands i × ItemsStand is

  before_stands : {d : Side} (σ : Actual d) (ts : Statements d) (is : List Item) → AllStand s ts → ItemsStand is → ItemsStand (statements_before σ ts is)
  before_stands σ done is h k = k
  before_stands σ (t ⨾ ts) is h k = (h.0, before_stands σ ts is h.1 k)

  block_before_lem : {d : Side} (σ : Actual d) (b : Block d) (is : List Item) → BlockStands s b → ItemsStand is → ItemsStand (block_before σ b is)
  block_before_lem σ (block o ts) is h k = before_stands σ ts is h k

  pub fresh_stands : (p : Program) → ProgramStands s p → ItemsStand (fresh p).items
  fresh_stands p h = block_before_lem themselves p.main [] h.main tt

  -- an act is an init or a free as the byte at the offset says
  abbrev ActSaid : ℕ → Act device → Type 0
  ActSaid o a = (is_init a ≡ init_byte (byte s o)) × (is_free a ≡ free_byte (byte s o))

  quiet_said : (o : ℕ) → Says (byte s o) false false → ActSaid o quiet
  quiet_said o h = (sym h.0, sym h.1)

  abbrev Moves : Item → Move → Type 0
  Moves i m = ActSaid (item_offset i) m.act × ItemsStand m.next.items

  -- of a step: a moved one (code 0) is an init or a free as the byte at its offset says, any other is neither; what is left to come stands
  abbrev pub StepSaid : (Act device → Bool) → (ℕ → Bool) → Stepped → Type 0
  StepSaid act byte' t = act t.act ≡ (eqb t.answer.code 0 && byte' (byte s t.answer.offset))

  pub record Steps (t : Stepped) : Type 0 where
    pub inits : StepSaid is_init init_byte t
    pub frees : StepSaid is_free free_byte t
    pub stand : ItemsStand t.next.items

  module _ (R : Region) (fs : List Function) (v : Bool) (open' : ℕ → Bool) (bodies : (f : ℕ) → BlockStands s (function fs f).body) where
    moves : (φ : Frame) (φs : List Frame) (i : Item) (is : List Item) → ItemStands i → ItemsStand is → Holds (Moves i) (move R fs v open' φ φs i is)
    moves φ φs (run σ (op o a)) is h k =
        holds_bind (acts_as (floor R fs v open' σ) o φ a) λ d e.
        holds_bind (holds_any (edges_of R fs v open' d.act o)) λ n c.
        by ((e.0 ∙ sym h.0, e.1 ∙ sym h.1), k)
    moves φ φs (run σ (if o y b c)) is h k =
        holds_bind (holds_any (need_bool (slot φ y) o)) λ t e.
        by (quiet_said o h.0, chosen_has ItemsStand t (block_before_lem σ b is h.1 k) (block_before_lem σ c is h.2 k))
    moves φ φs (run σ (while o r b)) is h k =
        holds_bind (holds_any (need_ref (slot φ r) o)) λ t e.
        by (quiet_said o h.0, chosen_has ItemsStand t (block_before_lem σ b _ h.1 (h, k)) k)
    moves φ φs (run σ (call o f ls xs)) is h k =
        holds_then (holds_any (callable (floor R fs v open' σ) o φ (map (locate σ) ls) xs)) λ u e.
        by (quiet_said o h, block_before_lem (locations (map (locate σ) ls)) (function fs f).body _ (bodies f) (h, k))
    moves φ [] (return o ls xs) is h k = by (quiet_said o h, k)
    moves φ (χ ∷ φs) (return o ls xs) is h k = by (quiet_said o h, k)

    step_said : (J : Job) (i : Item) (m : Check Move) → Reasoned (item_offset i) m → ItemsStand J.items → Holds (Moves i) m
        → Steps (stepped J (item_offset i) m)
    step_said J i (ok m) q k (by h) = record { inits = h.0.0; frees = h.0.1; stand = h.1 }
    step_said J i (refused r) q k h =
        let no : eqb r.number 0 ≡ false = eqb_other r.number 0 (λ e. let z = reason_above (reason_of q refl) in omega arith) in
        record { inits = rw no refl; frees = rw no refl; stand = k }

    items_stand : (φ : Frame) (φs : List Frame) (is : List Item) → ItemsStand is → Steps (step_items R fs v open' φ φs is)
    items_stand φ φs [] k = record { inits = refl; frees = refl; stand = tt }
    items_stand φ φs (i ∷ is) k =
        step_said _ i (move R fs v open' φ φs i is) (move_reasoned R fs v open' φ φs i is) k (moves φ φs i is k.0 k.1)

    pub step_stands : (J : Job) → ItemsStand J.items → Steps (step R fs v open' J)
    step_stands J k = items_stand J.top J.below J.items k
