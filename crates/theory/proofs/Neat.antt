-- One job of any readable program keeps its slots neat: the qubits of the body on top sit on locations whose map byte is the job, each a place of that
-- body, and no two slots hold one. A caller that waits keeps this for its other qubits, which the callee cannot name; its arguments are at the callee's
-- places, and the return leaves it just those that the callee still holds there. So a moved init takes a free location and a moved free gives back
-- one of the job's.
use mathlib.Core.Path.{◌≡◌, refl, sym, ap, subst, ◌∙◌}
use mathlib.Core.List.{List, [], ◌∷◌, ◌++◌, map, append-nil}
use mathlib.Core.Logic.{◌≢◌, ◌⊎◌, inl, inr, ⊎_elim}
use mathlib.Core.Bool.{Bool, true, false, ◌&&◌, false≢true}
use Prim.Native.Nat.{ℕ, zero, suc, ◌+◌, ◌≤◌, ◌<◌}
use lib.Dec.{eqb}
use lib.ListN.{get_or, set, length, take, drop, length-append, length-map, get_or-append, get_or-eq_default}
use lib.Seq.{get_or-set_same, get_or-set_other, get_or-take, length-take-le, get_or-append_seam, append_snoc}
use native.Mathlib.Decide.{ℕ_discrete, dec_lt}
use native.Mathlib.Omega.{arith}
use Rattle.answers.specs.Check.{Check, ok, refused}
use Rattle.answers.proofs.Laws.{Holds, by, holds_bind, holds_then, holds_need, holds_map, holds_any}
use Rattle.rules.specs.Basics.{all, up_to, without, set_all, distinct}
use Rattle.rules.specs.Region.{Region, owns, free_in}
use Rattle.rules.specs.Syntax.{Side, device, parameter, Place, at, Op, init, free, gate, measure, merge, new_ref, get_ref, set_ref, constant}
use Rattle.rules.specs.Syntax.{Statement, op, if, while, call, Statements, done, ◌⨾◌, Block, block, Function, function, Program}
use Rattle.rules.specs.Slots.{Slot, unbound, qubit, bool, ref, slot, holds_no_qubit, is_qubit_at}
use Rattle.rules.specs.Slots.{Act, quiet, takes, gives, merges, Done, perform, arguments_at, entered, kept}
use Rattle.rules.specs.Machine.{Frame, Actual, themselves, locations, locate, Item, run, return}
use Rattle.rules.specs.Machine.{Job, statements_before, block_before, fresh, Move, floor, move, Stepped, stepped, step_items, step}
use Rattle.rules.specs.Run.{written}
use Rattle.rules.specs.Program.{Scope}
use Rattle.theory.specs.WellRead.{OpRead, CallRead, StatementRead, op_read, if_read, while_read, call_read}
use Rattle.theory.specs.WellRead.{StatementsRead, next_read, BlockRead, block_read, FunctionsRead, function_read, ProgramRead}
use Rattle.rules.proofs.Tests.{eqb_true, and_left, and_right}
use Rattle.theory.proofs.Base.{chosen_has, true_in_range}
use Rattle.theory.proofs.Base.{get_d_set_stays, get_d_set_default, get_d_replicate_default}
use Rattle.theory.proofs.Places.{find, place_path, numbers, drop_at, at_map, distinct_places, unbound_qubit, old_qubit, new_qubit, qubit_held}
use Rattle.theory.proofs.Places.{Once, once_held, entered_qubit}

-- 1. Places in scope, as reading gives them: a place named is below the body's number of places, a call names as many as its callee has and no more
-- arguments than that.
abbrev pub ScopedOp : {s : Side} → ℕ → Op s → Type 0
ScopedOp n (init q x l) = l.no < n
ScopedOp n (free x) = Unit {0}
ScopedOp n (gate g x) = Unit {0}
ScopedOp n (measure y b x) = Unit {0}
ScopedOp n (merge y b x e z) = Unit {0}
ScopedOp n (new_ref r y) = Unit {0}
ScopedOp n (get_ref y r) = Unit {0}
ScopedOp n (set_ref r y) = Unit {0}
ScopedOp n (constant y v) = Unit {0}

pub record ScopedCall {s : Side} (k n : ℕ) (ls : List (Place s)) (xs : List ℕ) : Type 0 where
  pub below : (i : ℕ) → i < length ls → (at ls i).no < n
  pub size : length ls ≡ k
  pub few : length xs ≤ length ls

abbrev mutual
  pub Scoped : {s : Side} → List Function → ℕ → Statement s → Type 0
  Scoped fs n (op o a) = ScopedOp n a
  Scoped fs n (if o y b c) = ScopedBlock fs n b × ScopedBlock fs n c
  Scoped fs n (while o r b) = ScopedBlock fs n b
  Scoped fs n (call o f ls xs) = ScopedCall (function fs f).k n ls xs

  pub ScopedAll : {s : Side} → List Function → ℕ → Statements s → Type 0
  ScopedAll fs n done = Unit {0}
  ScopedAll fs n (t ⨾ ts) = Scoped fs n t × ScopedAll fs n ts

  pub ScopedBlock : {s : Side} → List Function → ℕ → Block s → Type 0
  ScopedBlock fs n (block o ts) = ScopedAll fs n ts

scoped_op : {s : Side} (S : Scope) (a : Op s) → OpRead S a → ScopedOp S.places a
scoped_op S (init q x l) h = h.1
scoped_op S (free x) h = tt
scoped_op S (gate g x) h = tt
scoped_op S (measure y b x) h = tt
scoped_op S (merge y b x e z) h = tt
scoped_op S (new_ref r y) h = tt
scoped_op S (get_ref y r) h = tt
scoped_op S (set_ref r y) h = tt
scoped_op S (constant y v) h = tt

-- a scope whose functions are the program's first
abbrev Within : Scope → List Function → Type 0
Within S fs = (f : ℕ) → f < length S.earlier → function S.earlier f ≡ function fs f

module _ (fs : List Function) (few : (f : ℕ) → (function fs f).m ≤ (function fs f).k) where
  scoped_call : {s : Side} (S : Scope) → Within S fs → (f : ℕ) (ls : List (Place s)) (xs : List ℕ) → CallRead S f ls xs
      → ScopedCall (function fs f).k S.places ls xs
  scoped_call S w f ls xs c =
      let same = w f c.earlier in
      let k : length ls ≡ (function fs f).k = c.locations ∙ ap (λ (g : Function). g.k) same in
      let m : length xs ≡ (function fs f).m = c.slots ∙ ap (λ (g : Function). g.m) same in
      let e = few f in
      record { below = c.places_in; size = k; few = omega arith }

  mutual
    scoped : {s : Side} (S : Scope) → Within S fs → (t : Statement s) {d o p : ℕ} → StatementRead S d o p t → Scoped fs S.places t
    scoped S w (op o a) (op_read h r) = scoped_op S a h
    scoped S w (if o y b c) (if_read h r q) = (scoped_block S w b r, scoped_block S w c q)
    scoped S w (while o r b) (while_read h q) = scoped_block S w b q
    scoped S w (call o f ls xs) (call_read c) = scoped_call S w f ls xs c

    scoped_all : {s : Side} (S : Scope) → Within S fs → (ts : Statements s) {d o p : ℕ} → StatementsRead S d o p ts → ScopedAll fs S.places ts
    scoped_all S w done r = tt
    scoped_all S w (t ⨾ ts) (next_read r q) = (scoped S w t r, scoped_all S w ts q)

    scoped_block : {s : Side} (S : Scope) → Within S fs → (b : Block s) {d o p : ℕ} → BlockRead S d o p b → ScopedBlock fs S.places b
    scoped_block S w (block o ts) (block_read r) = scoped_all S w ts r

-- a function whose body is in scope
abbrev Good : List Function → Function → Type 0
Good fs g = ScopedBlock fs g.k g.body

-- each function of the row that is read in the scope of those before it has P
abbrev EachRead : (Function → Type 0) → List Function → Type 0
EachRead P fs = (hs is : List Function) (g : Function) (o p : ℕ) → fs ≡ hs ++ (g ∷ is) → g.m ≤ g.k
    → BlockRead (record { places = g.k; earlier = hs }) 8 o p g.body → P g

-- what each function from the first of gs on has, the whole row has from there on
from_here : (P : Function → Type 0) → P (record { k = 0; m = 0; body = block 0 done }) → (gs fs : List Function) {o q : ℕ} → FunctionsRead fs o gs q
    → EachRead P (fs ++ gs) → (f : ℕ) → length fs ≤ f → P (function (fs ++ gs) f)
from_here P z [] fs r each f h = subst P (sym (ap (λ (hs : List Function). function hs f) (append-nil fs) ∙ get_or-eq_default fs _ h)) z
from_here P z (g ∷ gs) fs (function_read {o = o} {p = p} a b c r rest) each f h =
    go (ℕ_discrete f (length fs)) λ h'.
    from_here P z gs (fs ++ (g ∷ [])) rest (λ hs is k o' p' e. each hs is k o' p' (sym (append_snoc fs g gs) ∙ e)) f h'
  where
    go : Dec (f ≡ length fs) → (length (fs ++ (g ∷ [])) ≤ f → P (function ((fs ++ (g ∷ [])) ++ gs) f)) → P (function (fs ++ (g ∷ gs)) f)
    go (yes e) next = rw (e, get_or-append_seam fs g gs _) (each fs gs g (o + 2) p refl c r)
    go (no n) next = let l = length-append fs (g ∷ []) in subst (λ (hs : List Function). P (function hs f)) (append_snoc fs g gs) (next (omega arith))

module _ (p : Program) {size : ℕ} (r : ProgramRead size p) where
  few_arguments : (f : ℕ) → (function p.functions f).m ≤ (function p.functions f).k
  few_arguments f = from_here (λ g. g.m ≤ g.k) (omega arith) p.functions [] r.functions (λ hs is g o q e h b. h) f (omega arith)

  pub bodies_scoped : (f : ℕ) → ScopedBlock p.functions (function p.functions f).k (function p.functions f).body
  bodies_scoped f =
      from_here (Good p.functions) tt p.functions [] r.functions
      (λ hs is g o q e h b. scoped_block p.functions few_arguments (record { places = g.k; earlier = hs })
      (λ i l. sym (get_or-append hs (g ∷ is) _ i l) ∙ ap (λ (fs : List Function). function fs i) (sym e)) g.body b)
      f (omega arith)

  pub main_scoped : ScopedBlock p.functions 256 p.main
  main_scoped = scoped_block p.functions few_arguments (record { places = 256; earlier = p.functions }) (λ i l. refl) p.main r.main

-- 2. Slots: one that a test finds to hold a qubit, and a caller's after a return
qubit_is : (v : Slot device Bool) (p : Place device) → is_qubit_at v p ≡ true → (l : Place device) × (v ≡ qubit l) × (l.no ≡ p.no)
qubit_is unbound p h = absurd (false≢true h)
qubit_is (qubit k) p h = (k, refl, eqb_true k.no p.no h)
qubit_is (bool b) p h = absurd (false≢true h)
qubit_is (ref b) p h = absurd (false≢true h)

-- what a caller's frame holds after a return: only what it held, and of the arguments only what the callee ended with
set_all_old : (ns : List ℕ) (φ : Frame) (y : ℕ) (l : Place device) → slot (set_all unbound ns φ) y ≡ qubit l → slot φ y ≡ qubit l
set_all_old [] φ y l h = h
set_all_old (n ∷ ns) φ y l h = set_all_old ns φ y l (old_qubit (set_all unbound ns φ) n y unbound l refl h)

back_kept : (p : ℕ → Bool) (xs : List ℕ) (φ : Frame) (i j : ℕ) (l : Place device)
    → slot (set_all unbound (without (up_to i (length xs) p) xs) φ) (get_or xs j 0) ≡ qubit l → j < length xs → p (i + j) ≡ true
back_kept p [] φ i j l h k = absurd (omega arith)
back_kept p (x ∷ xs) φ i zero l h k = let z : i + 0 ≡ i = omega arith in rw z (go (p i) refl h)
  where
    go : (t : Bool) → p i ≡ t → slot (set_all unbound (without (t ∷ up_to (suc i) (length xs) p) (x ∷ xs)) φ) x ≡ qubit l → p i ≡ true
    go true e h = e
    go false e h = unbound_qubit _ l (get_d_set_default (set_all unbound (without (up_to (suc i) (length xs) p) xs) φ) x unbound) h
back_kept p (x ∷ xs) φ i (suc j) l h k = let z : i + suc j ≡ suc i + j = omega arith in rw z (back_kept p xs φ (suc i) j l (go (p i) h) (omega arith))
  where
    go : (t : Bool) → slot (set_all unbound (without (t ∷ up_to (suc i) (length xs) p) (x ∷ xs)) φ) (get_or xs j 0) ≡ qubit l
        → slot (set_all unbound (without (up_to (suc i) (length xs) p) xs) φ) (get_or xs j 0) ≡ qubit l
    go true h = h
    go false h = old_qubit (set_all unbound (without (up_to (suc i) (length xs) p) xs) φ) x (get_or xs j 0) unbound l refl h

-- 3. The invariant
-- The body on top: its qubits sit on the job's locations of its own places, no two on one
pub record Tidy {s : Side} (j : ℕ) (occ : List ℕ) (σ : Actual s) (size : ℕ) (φ : Frame) : Type 0 where
  pub held : (x : ℕ) (l : Place device) → slot φ x ≡ qubit l → (p : Place s) × (p.no < size) × (locate σ p ≡ l)
  pub taken : (x : ℕ) (l : Place device) → slot φ x ≡ qubit l → get_or occ l.no 0 ≡ j
  pub once : Once φ

-- A caller that waits: its arguments are at the callee's places, which are places of its own, and its other qubits nowhere among them
pub record Waits (j : ℕ) (occ : List ℕ) (k : ℕ) (ls : List (Place device)) (χ : Frame) (xs : List ℕ) : Type 0 where
  pub s : Side
  pub σ : Actual s
  pub size : ℕ
  pub places : List (Place s)
  pub located : (i : ℕ) → i < k → at ls i ≡ locate σ (at places i)
  pub range : (i : ℕ) → i < k → (at places i).no < size
  pub enough : length xs ≤ k
  pub args : (i : ℕ) → i < length xs → slot χ (get_or xs i 0) ≡ qubit (at ls i)
  pub once : Once χ
  pub others : (x : ℕ) (l : Place device) → slot χ x ≡ qubit l → ((i : ℕ) → i < length xs → get_or xs i 0 ≢ x)
      → ((p : Place s) × (p.no < size) × (locate σ p ≡ l)) × (get_or occ l.no 0 ≡ j) × ((i : ℕ) → i < k → (at ls i).no ≢ l.no)

-- the items to come: statements in scope of the body on top, then its return to a caller that waits, and so on
pub data Stack (fs : List Function) (j : ℕ) (occ : List ℕ) : (s : Side) → Actual s → ℕ → List Frame → List Item → Type 0 where
  empty : {s : Side} {σ : Actual s} {n : ℕ} → Stack fs j occ s σ n [] []
  todo : {s : Side} {σ : Actual s} {n : ℕ} {t : Statement s} {φs : List Frame} {is : List Item} → Scoped fs n t → Stack fs j occ s σ n φs is
      → Stack fs j occ s σ n φs (run σ t ∷ is)
  back : {ls : List (Place device)} {k o : ℕ} {χ : Frame} {xs : List ℕ} {φs : List Frame} {is : List Item}
      → (w : Waits j occ k ls χ xs) → Stack fs j occ w.s w.σ w.size φs is
      → Stack fs j occ parameter (locations ls) k (χ ∷ φs) (return o ls xs ∷ is)

pub record Neat (fs : List Function) (j : ℕ) (occ : List ℕ) (J : Job) : Type 0 where
  pub s : Side
  pub σ : Actual s
  pub size : ℕ
  pub tidy : Tidy j occ σ size J.top
  pub stack : Stack fs j occ s σ size J.below J.items

-- what a step does to the map: an init takes a free location, a free gives back one of the job's
abbrev pub Counts : ℕ → List ℕ → Act device → Type 0
Counts j occ quiet = Unit {0}
Counts j occ (takes q l) = (get_or occ l.no 0 ≡ 0) × (l.no < length occ)
Counts j occ (gives l) = get_or occ l.no 0 ≡ j
Counts j occ (merges b l e k) = Unit {0}

-- 4. A map that keeps the job's bytes keeps all this.
abbrev pub Keeps : ℕ → List ℕ → List ℕ → Type 0
Keeps j occ occ' = (l : ℕ) → get_or occ l 0 ≡ j → get_or occ' l 0 ≡ j

keeps_take : (j : ℕ) (occ : List ℕ) (t : ℕ) → Keeps j occ (set occ t j)
keeps_take j occ t l h = get_d_set_stays occ t l j 0 h

module _ {j : ℕ} where
  tidy_keep : {occ occ' : List ℕ} {s : Side} {σ : Actual s} {n : ℕ} {φ : Frame} → Keeps j occ occ' → Tidy j occ σ n φ → Tidy j occ' σ n φ
  tidy_keep K T = record { held = T.held; taken = λ x l h. K l.no (T.taken x l h); once = T.once }

  waits_keep : {occ occ' : List ℕ} {k : ℕ} {ls : List (Place device)} {χ : Frame} {xs : List ℕ} → Keeps j occ occ' → Waits j occ k ls χ xs
      → Waits j occ' k ls χ xs
  waits_keep K w = record {
    s = w.s;
    σ = w.σ;
    size = w.size;
    places = w.places;
    located = w.located;
    range = w.range;
    enough = w.enough;
    args = w.args;
    once = w.once;
    others = λ x l h n. let o = w.others x l h n in (o.0, K l.no o.1, o.2);
  }

  -- the callee on top gives back one of its places
  waits_give : {occ : List ℕ} {k : ℕ} {ls : List (Place device)} {χ : Frame} {xs : List ℕ} (i : ℕ) → i < k → Waits j occ k ls χ xs
      → Waits j (set occ (at ls i).no 0) k ls χ xs
  waits_give {occ = occ} {ls = ls} i r w = record {
    s = w.s;
    σ = w.σ;
    size = w.size;
    places = w.places;
    located = w.located;
    range = w.range;
    enough = w.enough;
    args = w.args;
    once = w.once;
    others = λ x l h n. let o = w.others x l h n in (o.0, get_or-set_other occ (at ls i).no l.no 0 0 (λ e. o.2 i r (sym e)) ∙ o.1, o.2);
  }

  module _ {fs : List Function} where
    stack_keep : {occ occ' : List ℕ} {s : Side} {σ : Actual s} {n : ℕ} {φs : List Frame} {is : List Item} → Keeps j occ occ'
        → Stack fs j occ s σ n φs is
        → Stack fs j occ' s σ n φs is
    unfolding waits_keep
    stack_keep K empty = empty
    stack_keep K (todo c r) = todo c (stack_keep K r)
    stack_keep K (back w r) = back (waits_keep K w) (stack_keep K r)

    stack_give : {occ : List ℕ} {s : Side} {σ : Actual s} {n : ℕ} {φs : List Frame} {is : List Item} (p : Place s) → p.no < n
        → Stack fs j occ s σ n φs is
        → Stack fs j (set occ (locate σ p).no 0) s σ n φs is
    unfolding waits_give
    stack_give p r empty = empty
    stack_give p r (todo c q) = todo c (stack_give p r q)
    stack_give {occ = occ} p r (back {φs = φs} {is = is} w q) =
        back (waits_give p.no r w)
        (subst (λ (t : ℕ). Stack fs j (set occ t 0) w.s w.σ w.size φs is) (ap (λ (l : Place device). l.no) (sym (w.located p.no r)))
        (stack_give (at w.places p.no) (w.range p.no r) q))

    stack_all : {occ : List ℕ} {s : Side} {σ : Actual s} {n : ℕ} (ts : Statements s) {φs : List Frame} {is : List Item}
        → ScopedAll fs n ts → Stack fs j occ s σ n φs is → Stack fs j occ s σ n φs (statements_before σ ts is)
    stack_all done c r = r
    stack_all (t ⨾ ts) c r = todo c.0 (stack_all ts c.1 r)

    pub stack_block : {occ : List ℕ} {s : Side} {σ : Actual s} {n : ℕ} (b : Block s) {φs : List Frame} {is : List Item}
        → ScopedBlock fs n b → Stack fs j occ s σ n φs is → Stack fs j occ s σ n φs (block_before σ b is)
    stack_block (block o ts) c r = stack_all ts c r

    pub neat_keep : {occ occ' : List ℕ} {J : Job} → Keeps j occ occ' → Neat fs j occ J → Neat fs j occ' J
    neat_keep K N = record { s = N.s; σ = N.σ; size = N.size; tidy = tidy_keep K N.tidy; stack = stack_keep K N.stack }

-- 5. What the operations do to the body on top
module _ {j : ℕ} {s : Side} {σ : Actual s} {size : ℕ} where
  tidy_store : {occ : List ℕ} {φ : Frame} (x : ℕ) (k : Slot device Bool) → holds_no_qubit k ≡ true → Tidy j occ σ size φ
      → Tidy j occ σ size (set φ x k)
  tidy_store {φ = φ} x k n T = record {
    held = λ y l h. T.held y l (old_qubit φ x y k l n h);
    taken = λ y l h. T.taken y l (old_qubit φ x y k l n h);
    once = λ y z l m h h' e. T.once y z l m (old_qubit φ x y k l n h) (old_qubit φ x z k m n h') e;
  }

  -- no qubit of the frame was on the location taken, since its byte was 0
  tidy_take : {occ : List ℕ} {φ : Frame} (x : ℕ) (p : Place s) → 1 ≤ j → p.no < size → get_or occ (locate σ p).no 0 ≡ 0
      → (locate σ p).no < length occ
      → Tidy j occ σ size φ → Tidy j (set occ (locate σ p).no j) σ size (set φ x (qubit (locate σ p)))
  tidy_take {occ = occ} {φ = φ} x p pos r f w T = record {
    held = λ y k h. ⊎_elim (λ e. (p, r, e)) (T.held y k) (new_qubit φ x y (locate σ p) k h);
    taken = λ y k h. is_taken y k (new_qubit φ x y (locate σ p) k h);
    once = once_held φ x (locate σ p) T.once not_there;
  }
    where
      is_taken : (y : ℕ) (k : Place device) → (locate σ p ≡ k) ⊎ (slot φ y ≡ qubit k) → get_or (set occ (locate σ p).no j) k.no 0 ≡ j
      is_taken y k (inl e) = rw (← e) (get_or-set_same occ (locate σ p).no j 0 w)
      is_taken y k (inr o) = keeps_take j occ (locate σ p).no k.no (T.taken y k o)

      not_there : (y : ℕ) (k : Place device) → slot φ y ≡ qubit k → k.no ≢ (locate σ p).no
      not_there y k h e =
          let t : get_or occ k.no 0 ≡ j = T.taken y k h in
          let z : get_or occ k.no 0 ≡ 0 = rw e f in
          omega arith

  -- the other qubits are on other locations
  tidy_give : {occ : List ℕ} {φ : Frame} (x : ℕ) (l : Place device) → slot φ x ≡ qubit l → Tidy j occ σ size φ
      → Tidy j (set occ l.no 0) σ size (set φ x unbound)
  tidy_give {occ = occ} {φ = φ} x l p T = record {
    held = λ y k h. T.held y k (old y k h);
    taken = λ y k h. get_or-set_other occ l.no k.no 0 0 (λ e. other y k h (T.once y x k l (old y k h) p e)) ∙ T.taken y k (old y k h);
    once = λ y z k m h h' e. T.once y z k m (old y k h) (old z m h') e;
  }
    where
      old : (y : ℕ) (k : Place device) → slot (set φ x unbound) y ≡ qubit k → slot φ y ≡ qubit k
      old y k h = old_qubit φ x y unbound k refl h

      other : (y : ℕ) (k : Place device) → slot (set φ x unbound) y ≡ qubit k → y ≡ x → ⊥
      other y k h e = unbound_qubit _ k (ap (λ (z : ℕ). slot (set φ x unbound) z) e ∙ get_d_set_default φ x unbound) h

-- what is free to a job has byte 0, and is on the map
free_there : (R : Region) (occ : List ℕ) (l : ℕ) → length R.owned ≡ length occ → free_in R occ l ≡ true
    → (get_or occ l 0 ≡ 0) × (l < length occ)
free_there R occ l e h = (eqb_true (get_or occ l 0) 0 (and_right (owns R l) _ h), omega (arith, true_in_range R.owned l (and_left (owns R l) _ h)))

-- 6. The moves of job j
module _ (R : Region) (fs : List Function) (bodies : (f : ℕ) → ScopedBlock fs (function fs f).k (function fs f).body) (v : Bool) (j : ℕ) (pos : 1 ≤ j)
    (occ : List ℕ) (fits : length R.owned ≡ length occ) where
  abbrev OpNeat : {s : Side} → Actual s → ℕ → List Frame → List Item → Done device Bool → Type 0
  OpNeat {s} σ n φs is d = Counts j occ d.act × Tidy j (written j d.act occ) σ n d.slots × Stack fs j (written j d.act occ) s σ n φs is

  neat_op : {s : Side} {σ : Actual s} {n : ℕ} {φ : Frame} {φs : List Frame} {is : List Item} (o : ℕ) (a : Op s) → ScopedOp n a → Tidy j occ σ n φ
      → Stack fs j occ s σ n φs is → Holds (OpNeat σ n φs is) (perform (floor R fs v (free_in R occ) σ) o φ a)
  neat_op {σ = σ} o (init q x l) c T S =
      holds_then (holds_any _) λ _ _. holds_then (holds_any _) λ _ _. holds_then (holds_need (free_in R occ (locate σ l).no) 14 o) λ _ f.
      let g = free_there R occ (locate σ l).no fits f in
      by (g, tidy_take x l pos c g.0 g.1 T, stack_keep (keeps_take j occ (locate σ l).no) S)
  neat_op {s = s} {σ = σ} {n = n} {φ = φ} {φs = φs} {is = is} o (free x) c T S = holds_bind (qubit_held (slot φ x) o) λ l p.
      let h = T.held x l p in
      by (T.taken x l p, tidy_give x l p T, subst (λ (k : Place device). Stack fs j (set occ k.no 0) s σ n φs is) h.2 (stack_give h.0 h.1 S))
  neat_op o (gate g x) c T S = holds_bind (holds_any _) λ _ _. by (tt, T, S)
  neat_op o (measure y b x) c T S = holds_then (holds_any _) λ _ _. holds_bind (holds_any _) λ _ _. by (tt, tidy_store y (bool v) refl T, S)
  neat_op o (merge y b x e z) c T S =
      holds_then (holds_any _) λ _ _. holds_bind (holds_any _) λ _ _. holds_bind (holds_any _) λ _ _. holds_then (holds_any _) λ _ _.
      by (tt, tidy_store y (bool v) refl T, S)
  neat_op o (new_ref r y) c T S = holds_then (holds_any _) λ _ _. holds_bind (holds_any _) λ b _. by (tt, tidy_store r (ref b) refl T, S)
  neat_op o (get_ref y r) c T S = holds_then (holds_any _) λ _ _. holds_bind (holds_any _) λ b _. by (tt, tidy_store y (bool b) refl T, S)
  neat_op o (set_ref r y) c T S = holds_bind (holds_any _) λ _ _. holds_bind (holds_any _) λ b _. by (tt, tidy_store r (ref b) refl T, S)
  neat_op o (constant y u) c T S = holds_then (holds_any _) λ _ _. by (tt, tidy_store y (bool u) refl T, S)

  -- a call's arguments are qubits at the call's first locations
  arguments_there : {s : Side} (σ : Actual s) (o : ℕ) (φ : Frame) (xs : List ℕ) (ls : List (Place device)) → length xs ≤ length ls
      → Holds (λ u. (i : ℕ) → i < length xs → slot φ (get_or xs i 0) ≡ qubit (at ls i)) (arguments_at (floor R fs v (free_in R occ) σ) o φ xs ls)
  arguments_there σ o φ [] ls e = by (λ i h. absurd (omega arith))
  arguments_there σ o φ (x ∷ xs) [] e = absurd (omega arith)
  arguments_there σ o φ (x ∷ xs) (l ∷ ls) e =
      holds_bind (qubit_held (slot φ x) o) λ k p. holds_then (holds_need (eqb k.no l.no) 16 o) λ _ q.
      holds_map (λ _ r. each k p (eqb_true k.no l.no q) r) (arguments_there σ o φ xs ls (omega arith))
    where
      each : (k : Place device) → slot φ x ≡ qubit k → k.no ≡ l.no → ((i : ℕ) → i < length xs → slot φ (get_or xs i 0) ≡ qubit (at ls i))
          → (i : ℕ) → i < suc (length xs) → slot φ (get_or (x ∷ xs) i 0) ≡ qubit (at (l ∷ ls) i)
      each k p q r zero h = p ∙ ap (λ (n : Place device). qubit n) (place_path k l q)
      each k p q r (suc i) h = r i (omega arith)

  -- a call that was let through
  module _ {s : Side} (σ : Actual s) (n k : ℕ) (φ : Frame) (ls : List (Place s)) (xs : List ℕ) (T : Tidy j occ σ n φ) (c : ScopedCall k n ls xs)
      (q : distinct (numbers (map (locate σ) ls)) ≡ true) (a : (i : ℕ) → i < length xs → slot φ (get_or xs i 0) ≡ qubit (at (map (locate σ) ls) i))
      (w : all (λ l. free_in R occ l.no) (drop (length xs) (map (locate σ) ls)) ≡ true) where
    rest_free : (i : ℕ) → length xs ≤ i → i < length ls → get_or occ (at (map (locate σ) ls) i).no 0 ≡ 0
    rest_free i h r =
        let is_free = drop_at (λ l. free_in R occ l.no) (length xs) (map (locate σ) ls) i w h (omega (arith, length-map ls (locate σ))) in
        (free_there R occ (at (map (locate σ) ls) i).no fits is_free).0

    callee_tidy : Tidy j occ (locations (map (locate σ) ls)) k (entered (take (length xs) (map (locate σ) ls)))
    callee_tidy = record {
      held = λ x l h. let g = here x l h in (record { no = x }, omega (arith, g.1, c.few, c.size), sym g.0);
      taken = λ x l h. let g = here x l h in T.taken (get_or xs x 0) l (a x g.1 ∙ ap (λ (p : Place device). qubit p) (sym g.0));
      once = λ x y l m h h' r. let g = here x l h in let g' = here y m h' in
          distinct_places (map (locate σ) ls) x y q (omega (arith, g.1, few)) (omega (arith, g'.1, few))
          (ap (λ (p : Place device). p.no) (sym g.0) ∙ r ∙ ap (λ (p : Place device). p.no) g'.0);
    }
      where
        few : length xs ≤ length (map (locate σ) ls)
        few = omega (arith, c.few, length-map ls (locate σ))

        here : (x : ℕ) (l : Place device) → slot {B = Bool} (entered (take (length xs) (map (locate σ) ls))) x ≡ qubit l
            → (l ≡ at (map (locate σ) ls) x) × (x < length xs)
        here x l h =
            let t = length-take-le (length xs) (map (locate σ) ls) few in
            let g = entered_qubit Bool (take (length xs) (map (locate σ) ls)) x l h in
            let d : x < length xs = omega (arith, g.1) in
            (g.0 ∙ get_or-take (length xs) (map (locate σ) ls) x _ d, d)

    waits : Waits j occ k (map (locate σ) ls) φ xs
    waits = record {
      s = s;
      σ = σ;
      size = n;
      places = ls;
      located = λ i h. at_map (locate σ) ls i (omega (arith, c.size));
      range = λ i h. c.below i (omega (arith, c.size));
      enough = omega (arith, c.few, c.size);
      args = a;
      once = T.once;
      others = λ x l h m. (T.held x l h, T.taken x l h, λ i r e. away x l h m i (omega (arith, c.size)) e (dec_lt i (length xs)));
    }
      where
        away : (x : ℕ) (l : Place device) → slot φ x ≡ qubit l → ((i : ℕ) → i < length xs → get_or xs i 0 ≢ x) → (i : ℕ) → i < length ls
            → (at (map (locate σ) ls) i).no ≡ l.no → Dec (i < length xs) → ⊥
        away x l h m i r e (yes d) = m i d (T.once (get_or xs i 0) x (at (map (locate σ) ls) i) l (a i d) h e)
        away x l h m i r e (no d) =
            let t : get_or occ l.no 0 ≡ j = T.taken x l h in
            let z : get_or occ l.no 0 ≡ 0 = rw e at (rest_free i (omega arith) r) in
            omega arith

  -- a return
  tidy_back : {ls : List (Place device)} {k : ℕ} {φ χ : Frame} {xs : List ℕ} → Tidy j occ (locations ls) k φ → (w : Waits j occ k ls χ xs)
      → Tidy j occ w.σ w.size (set_all unbound (without (kept φ (at ls) (length xs)) xs) χ)
  tidy_back {ls = ls} {k = k} {φ = φ} {χ = χ} {xs = xs} T w = record {
    held = λ y l h. (held y l h (find xs y)).0;
    taken = λ y l h. (held y l h (find xs y)).1;
    once = λ y z l m h h' e. w.once y z l m (old y l h) (old z m h') e;
  }
    where
      old : (y : ℕ) (l : Place device) → slot (set_all unbound (without (kept φ (at ls) (length xs)) xs) χ) y ≡ qubit l → slot χ y ≡ qubit l
      old y l h = set_all_old (without (kept φ (at ls) (length xs)) xs) χ y l h

      held : (y : ℕ) (l : Place device) → slot (set_all unbound (without (kept φ (at ls) (length xs)) xs) χ) y ≡ qubit l
          → ((i : ℕ) × (i < length xs) × (get_or xs i 0 ≡ y)) ⊎ ((i : ℕ) → i < length xs → get_or xs i 0 ≢ y)
          → ((p : Place w.s) × (p.no < w.size) × (locate w.σ p ≡ l)) × (get_or occ l.no 0 ≡ j)
      held y l h (inr m) = let o = w.others y l (old y l h) m in (o.0, o.1)
      held y l h (inl c) =
          let i = c.0 in
          let r : i < k = omega (arith, c.1, w.enough) in
          let arg : slot χ y ≡ qubit (at ls i) = rw (← c.2) (w.args i c.1) in
          let same : at ls i ≡ l = cc (old y l h) in
          let z : 0 + i ≡ i = omega arith in
          let still : is_qubit_at (slot φ i) (at ls i) ≡ true = rw z at (back_kept (λ m. is_qubit_at (slot φ m) (at ls m)) xs χ 0 i l (rw c.2 h) c.1) in
          let g = qubit_is (slot φ i) (at ls i) still in
          let n : g.0.no ≡ l.no = g.2 ∙ ap (λ (p : Place device). p.no) same in
          ((at w.places i, w.range i r, sym (w.located i r) ∙ same), rw (← n) (T.taken i g.0 g.1))

  abbrev NeatMove : Move → Type 0
  NeatMove m = Counts j occ m.act × Neat fs j (written j m.act occ) m.next

  neat_move : {s : Side} {σ : Actual s} {n : ℕ} (φ : Frame) (φs : List Frame) (i : Item) (is : List Item) → Tidy j occ σ n φ
      → Stack fs j occ s σ n φs (i ∷ is)
      → Holds NeatMove (move R fs v (free_in R occ) φ φs i is)
  unfolding waits
  neat_move {s = s} {σ = σ} {n = n} φ φs i is T (todo {t = op o a} c S) =
      holds_bind (neat_op o a c T S) λ d p. holds_bind (holds_any _) λ _ _. by (p.0, record { s = s; σ = σ; size = n; tidy = p.1; stack = p.2 })
  neat_move {s = s} {σ = σ} {n = n} φ φs i is T (todo {t = if o y b d} c S) =
      holds_bind (holds_any _) λ t _.
      let S' = chosen_has (λ js. Stack fs j occ s σ n φs js) t (stack_block b c.0 S) (stack_block d c.1 S) in
      by (tt, record { s = s; σ = σ; size = n; tidy = T; stack = S' })
  neat_move {s = s} {σ = σ} {n = n} φ φs i is T (todo {t = while o r b} c S) =
      holds_bind (holds_any _) λ t _.
      let S' = chosen_has (λ js. Stack fs j occ s σ n φs js) t (stack_block b c (todo {t = while o r b} c S)) S in
      by (tt, record { s = s; σ = σ; size = n; tidy = T; stack = S' })
  neat_move {s = s} {σ = σ} {n = n} φ φs i is T (todo {t = call o f ls xs} c S) =
      holds_then (holds_then (holds_any _) λ _ _. holds_then (holds_need (distinct (numbers (map (locate σ) ls)) && distinct xs) 15 o) λ _ q.
      holds_then (arguments_there σ o φ xs (map (locate σ) ls) (omega (arith, c.few, length-map ls (locate σ)))) λ _ a.
      holds_map (λ _ w. record {
        s = parameter;
        σ = locations (map (locate σ) ls);
        size = (function fs f).k;
        tidy = callee_tidy σ n (function fs f).k φ ls xs T c (and_left _ _ q) a w;
        stack = stack_block (function fs f).body (bodies f) (back (waits σ n (function fs f).k φ ls xs T c (and_left _ _ q) a w) S);
      })
      (holds_need (all (λ l. free_in R occ l.no) (drop (length xs) (map (locate σ) ls))) 14 o))
      λ _ g. by (tt, g)
  neat_move φ φs i is T (back w S) = by (tt, record { s = w.s; σ = w.σ; size = w.size; tidy = tidy_back T w; stack = S })

  abbrev NeatStep : Stepped → Type 0
  NeatStep t = Counts j occ t.act × Neat fs j (written j t.act occ) t.next

  neat_stepped : (J : Job) (o : ℕ) (m : Check Move) → Neat fs j occ J → Holds NeatMove m → NeatStep (stepped J o m)
  neat_stepped J o (refused r) N h = (tt, N)
  neat_stepped J o (ok m) N (by h) = h

  neat_items : {s : Side} {σ : Actual s} {n : ℕ} (φ : Frame) (φs : List Frame) (is : List Item) → Tidy j occ σ n φ → Stack fs j occ s σ n φs is
      → NeatStep (step_items R fs v (free_in R occ) φ φs is)
  neat_items {s = s} {σ = σ} {n = n} φ φs [] T S = (tt, record { s = s; σ = σ; size = n; tidy = T; stack = S })
  neat_items {s = s} {σ = σ} {n = n} φ φs (i ∷ is) T S =
      let J : Job = record { top = φ; below = φs; items = i ∷ is } in
      let here : Neat fs j occ J = record { s = s; σ = σ; size = n; tidy = T; stack = S } in
      neat_stepped J _ _ here (neat_move φ φs i is T S)

  -- a step keeps the job neat, over the map that the step leaves
  pub neat_step : (J : Job) → Neat fs j occ J
      → Counts j occ (step R fs v (free_in R occ) J).act × Neat fs j (written j (step R fs v (free_in R occ) J).act occ) (step R fs v (free_in R occ) J).next
  neat_step J N = neat_items J.top J.below J.items N.tidy N.stack

-- a fresh job holds no qubit, and its items are main's statements
pub neat_fresh : (p : Program) {size : ℕ} → ProgramRead size p → (j : ℕ) (occ : List ℕ) → Neat p.functions j occ (fresh p)
neat_fresh p r j occ = record {
  s = device;
  σ = themselves;
  size = 256;
  tidy = record { held = λ x l h. no_qubit x l h; taken = λ x l h. no_qubit x l h; once = λ x y l k h h' e. no_qubit x l h };
  stack = stack_block p.main (main_scoped p r) empty;
}
  where
    no_qubit : {X : Type 0} (x : ℕ) (l : Place device) → slot (fresh p).top x ≡ qubit l → X
    no_qubit x l h = unbound_qubit _ l (get_d_replicate_default 32 x unbound) h

-- no frame of the stack holds a location in two slots
below_once : {fs : List Function} {j : ℕ} {occ : List ℕ} {s : Side} {σ : Actual s} {n : ℕ} {φs : List Frame} {is : List Item}
    → Stack fs j occ s σ n φs is
    → (i : ℕ) → Once (get_or φs i [])
below_once empty i = λ x y l k h h' e. let z : ◌≡◌ {A = ℕ} 0 1 = cc in absurd (omega arith)
below_once (todo c S) i = below_once S i
below_once (back w S) zero = w.once
below_once (back w S) (suc i) = below_once S i

pub frames_once : {fs : List Function} {j : ℕ} {occ : List ℕ} (J : Job) → Neat fs j occ J → (i : ℕ) → Once (get_or (J.top ∷ J.below) i [])
frames_once J N zero = N.tidy.once
frames_once J N (suc i) = below_once N.stack i
