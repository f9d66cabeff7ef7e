-- One step of a typed job moves, or finds the job finished, and leaves it typed. What is to come is typed item by item: `Rest` goes through the items
-- with the environment and the free locations that each will meet, with the silent end of a block between items and a waiting caller at each return.
-- The typing's free places are free on the device, its kinds fit the slots, and Figure 12 has a path at each merge: these are the tests of a step.
use mathlib.Core.Bool.{Bool, true, false, not, ◌&&◌, false≢true}
use mathlib.Core.List.{List, [], ◌∷◌, ◌++◌, map}
use mathlib.Core.Logic.{◌≢◌, ◌⊎◌, inl, inr, ⊎_elim}
use mathlib.Core.Option.{some}
use mathlib.Core.Path.{◌≡◌, refl, sym, ap, subst, ◌∙◌}
use native.Mathlib.Decide.{ℕ_discrete, dec_lt}
use native.Mathlib.Nat.{zero-add}
use native.Mathlib.Omega.{arith}
use Prim.Native.Nat.{ℕ, zero, suc, ◌-◌, ◌≤◌, ◌<◌}
use lib.Dec.{eqb, leb}
use lib.ListN.{get_or, set, length, drop, take, replicate, length-set, length-map}
use lib.Seq.{get_or-set_same, get_or-set_other, set_out}
use Rattle.answers.specs.Check.{ok, ◌>>=◌, ◌>>◌}
use Rattle.rules.specs.Basics.{chosen, all, any, up_to, without, set_all, distinct}
use Rattle.rules.specs.Region.{Region, owns}
use Rattle.rules.specs.Path.{between, Along, last, then, Path, route}
use Rattle.rules.specs.Syntax.{Side, device, parameter, Place, param, at, Preparation, plain, magic, Op, init}
use Rattle.rules.specs.Syntax.{Statement, op, if, while, call, Statements, done, ◌⨾◌, Block, block, Function, function}
use Rattle.rules.specs.Slots.{unbound, qubit, bool, ref, slot, holds_no_qubit, is_qubit_at, quiet, takes, gives, merges}
use Rattle.rules.specs.Slots.{Done, perform, arguments_at, callable, entered, kept}
use Rattle.rules.specs.Commands.{Commands, ε, alloc, release, connect, either, repeat, ◌then◌, commands_at}
use Rattle.rules.specs.Typing.{Kind, Env, Typed, Signature, Context, signature, after_act, narrowed, entry, body_context, signature_of}
use Rattle.rules.specs.Figures.{stored, kind_at, substituted, OpRule, T-Init, T-MInit, T-Free, T-Gate, T-Meas1, T-Meas2, T-MkRef, T-Deref, T-Assign, T-Bool}
use Rattle.rules.specs.Figures.{Arguments, no_more, and, Callable, StatementRule, T-Op, T-If, T-While, T-Call, StatementsRule, T-Unit, T-Seq}
use Rattle.rules.specs.Figures.{BlockRule, T-Close, MainRule, T-Main, Linked, Connects, C-Empty, C-Alloc, C-Free, C-Merge, C-If, C-Loop}
use Rattle.rules.specs.Machine.{Frame, Actual, locations, locate, Item, run, return, Job, statements_before, block_before}
use Rattle.rules.specs.Machine.{Move, silent, floor, edges_of, move, Stepped, step_items, step}
use Rattle.rules.proofs.Tests.{eqb_same, eqb_other, below, and_left, and_right}
use Rattle.theory.proofs.Base.{chosen_has, true_in_range, get_d_set_cases}
use Rattle.theory.proofs.Places.{length_stored, place_path, numbers, all_at, drop_at, at_map, distinct_places, arguments_length}
use Rattle.theory.proofs.Places.{at_at, signature_newest, signature_older, entry_free, length_entry, entry_at, narrowed_home}
use Rattle.theory.proofs.Routes.{path_route}
use Rattle.theory.proofs.Frames.{Settled, Fits, fits_set, fits_narrowed, fits_back, fits_entered, settled}

-- 1. The places of a call, and what it leaves free
module _ {s : Side} where
  map_same : (f g : Place s → Place device) (p : Place s → Bool) (ls : List (Place s)) → ((l : Place s) → p l ≡ true → f l ≡ g l)
      → all p ls ≡ true
      → map f ls ≡ map g ls
  map_same f g p [] h k = refl
  map_same f g p (l ∷ ls) h k = rw (h l (and_left _ _ k), map_same f g p ls h (and_right (p l) _ k))

  -- a place is free after a call if the callee left it so, or if the call did not name it and it was free before
  abbrev Left : List Bool → List (Place s) → List Bool → Place s → Type 0
  Left bs ls fs q =
      ((i : ℕ) × ((at ls i).no ≡ q.no) × (get_or bs i false ≡ true))
      ⊎ (((i : ℕ) → i < length ls → (at ls i).no ≢ q.no) × (get_or fs q.no false ≡ true))

  left_cases : (bs : List Bool) (ls : List (Place s)) (fs : List Bool) (q : Place s) → length bs ≡ length ls
      → get_or (stored bs (numbers ls) fs) q.no false ≡ true → Left bs ls fs q
  left_cases [] [] fs q e h = inr ((λ i k. absurd (omega arith)), h)
  left_cases [] (l ∷ ls) fs q e h = absurd (omega arith)
  left_cases (b ∷ bs) [] fs q e h = absurd (omega arith)
  left_cases (b ∷ bs) (l ∷ ls) fs q e h =
      go (ℕ_discrete q.no l.no) (dec_lt l.no (length before)) (λ h'. left_cases bs ls fs q (omega arith) h')
    where
      before : List Bool
      before = stored bs (numbers ls) fs

      more : q.no ≢ l.no → ((i : ℕ) → i < length ls → (at ls i).no ≢ q.no) → (i : ℕ) → i < suc (length ls) → (at (l ∷ ls) i).no ≢ q.no
      more n f zero k = λ r. n (sym r)
      more n f (suc i) k = f i (omega arith)

      go : Dec (q.no ≡ l.no) → Dec (l.no < length before) → (get_or before q.no false ≡ true → Left bs ls fs q)
          → Left (b ∷ bs) (l ∷ ls) fs q
      go (yes r) (yes k) rec = inl (zero, sym r, sym (get_or-set_same before l.no b false k) ∙ (rw r at h))
      go (yes r) (no k) rec =
          let h' : get_or before q.no false ≡ true = rw (set_out before l.no b (omega arith)) at h in
          let m : q.no < length before = true_in_range before q.no h' in
          absurd (omega arith)
      go (no n) d rec = ⊎_elim
          (λ c. inl (suc c.0, c.1, c.2))
          (λ c. inr (more n c.0, c.1))
          (rec (sym (get_or-set_other before l.no q.no b false n) ∙ h))

-- 2. A path over some free locations is one over more, so there is a route
module _ (R : Region) (f g : ℕ → Bool) (a b : ℕ) (more : (i : ℕ) → f i ≡ true → g i ≡ true) where
  between_more : (x : ℕ) → between R f a b x ≡ true → between R g a b x ≡ true
  between_more x h =
      let p = and_left (f x && not (eqb x a)) _ h in
      rw (more x (and_left (f x) _ p), and_right (f x) _ p, and_right (f x && not (eqb x a)) _ h)

  along_more : {x : ℕ} {p : List ℕ} → Along R f a b x p → Along R g a b x p
  along_more (last h) = last h
  along_more ((then) {y = y} h k r) = (then) h (between_more y k) (along_more r)

  route_more : (p : List ℕ) → Path R f a b p → (q : List ℕ) × (route R g a b ≡ some q)
  route_more p P = path_route R g a b p (record { along = along_more P.along; once = P.once })

-- 3. A body on the device: what it may use, what its places are, and how many there are
pub record Body (s : Side) : Type 0 where
  pub context : Context s
  pub actual : Actual s
  pub place : Place s → Place device
  pub size : ℕ

-- places that typing has as free are free
abbrev pub Frees : {s : Side} → (Place s → Place device) → List Bool → List Bool → Type 0
Frees ρ fs N = (p : Place _) → get_or fs p.no false ≡ true → get_or N (ρ p).no false ≡ true

-- an argument's slot ends with the argument where it was, or with nothing of the caller's
abbrev pub Home : ℕ → List (Kind parameter) → Type 0
Home m vs = (j : ℕ) → j < m → (slot vs j ≡ qubit (param j)) ⊎ (slot vs j ≡ unbound)

-- the device has len locations, and these are free once main is done
module _ (R : Region) (fs : List Function) (len : ℕ) (last-free : List Bool) where
  pub record Placed {s : Side} (B : Body s) : Type 0 where
    pub agree : (p : Place s) → B.context.inside p ≡ true → locate B.actual p ≡ B.place p
    pub own : (p : Place s) → B.context.inside p ≡ true → owns R (B.place p).no ≡ true
    pub range : (p : Place s) → B.context.inside p ≡ true → p.no < B.size
    pub apart : (p q : Place s) → p.no < B.size → q.no < B.size → (B.place p).no ≡ (B.place q).no → p.no ≡ q.no
    pub room : (p : Place s) → p.no < B.size → (B.place p).no < len

  -- v stored at location t: a location that was free is so still, but for t where v is false
  stored_free : (N : List Bool) (t : ℕ) (v : Bool) (x : ℕ) → ((v ≡ false) × (x ≡ t) → ⊥) → get_or N x false ≡ true
      → get_or (set N t v) x false ≡ true
  stored_free N t v x n h = ⊎_elim (λ c. c.1 ∙ so v (λ z. n (z, c.0))) (λ c. c ∙ h) (get_d_set_cases N t x v false)
    where
      so : (b : Bool) → (b ≡ false → ⊥) → b ≡ true
      so true f = refl
      so false f = absurd (f refl)

  -- the same v stored at a place of a body and at its location
  stored_frees : {s : Side} {B : Body s} (fr N : List Bool) (l : Place s) (v : Bool) → Placed B → length fr ≡ B.size → length N ≡ len
      → (v ≡ false → l.no < B.size) → Frees B.place fr N → Frees B.place (set fr l.no v) (set N (B.place l).no v)
  stored_frees {B = B} fr N l v P e e' k F p h = go (ℕ_discrete p.no l.no) (dec_lt l.no (length fr))
    where
      go : Dec (p.no ≡ l.no) → Dec (l.no < length fr) → get_or (set N (B.place l).no v) (B.place p).no false ≡ true
      go (no n) d =
          let h' : get_or fr p.no false ≡ true = sym (get_or-set_other fr l.no p.no v false n) ∙ h in
          let r : p.no < length fr = true_in_range fr p.no h' in
          stored_free N (B.place l).no v (B.place p).no (λ z. n (P.apart p l (omega arith) (k z.0) z.1)) (F p h')
      go (yes q) (yes d) =
          let same : (B.place p).no ≡ (B.place l).no = ap (λ n. (B.place (record { no = n })).no) q in
          let r : (B.place l).no < len = P.room l (omega arith) in
          let here : v ≡ true = sym (get_or-set_same fr l.no v false d) ∙ (rw q at h) in
          rw same (get_or-set_same N (B.place l).no v false (omega arith) ∙ here)
      go (yes q) (no d) =
          let h' : get_or fr p.no false ≡ true = rw (set_out fr l.no v (omega arith)) at h in
          let r : p.no < length fr = true_in_range fr p.no h' in
          absurd (omega arith)

  -- Each known signature is that of a typed function
  pub data Known : List Signature → Type 0 where
    known_none : Known []
    known_more : {gs : List Signature} {g : Function} {d : Typed parameter} → Known gs → function fs (length gs) ≡ g → g.m ≤ 32
        → BlockRule (body_context gs g) (entry g) g.body d.env d.commands → Known (signature_of g d ∷ gs)

  record Callee (f : ℕ) (h : Signature) : Type 0 where
    gs : List Signature
    g : Function
    d : Typed parameter
    known : Known gs
    found : function fs f ≡ g
    few : g.m ≤ 32
    typed : BlockRule (body_context gs g) (entry g) g.body d.env d.commands
    is : h ≡ signature_of g d

  known_at : {gs : List Signature} (f : ℕ) → Known gs → f < length gs → Callee f (signature gs f)
  known_at f known_none h = absurd (omega arith)
  known_at f (known_more {gs = gs} {g = g} {d = d} K b n j) h = go (λ k. known_at f K k) (ℕ_discrete f (length gs))
    where
      go : (f < length gs → Callee f (signature gs f)) → Dec (f ≡ length gs) → Callee f (signature (signature_of g d ∷ gs) f)
      go rec (yes e) = record {
        gs = gs;
        g = g;
        d = d;
        known = K;
        found = ap (λ n. function fs n) e ∙ b;
        few = n;
        typed = j;
        is = signature_newest (signature_of g d) gs f e;
      }
      go rec (no n) = rw (signature_older (signature_of g d) gs f (omega arith)) (rec (omega arith))

  -- A caller with slots χ that waits for its callee D, called at these locations with these argument slots
  pub record Waiting (N : List Bool) (D : Body parameter) (χ : Frame) (actual : List (Place device)) (xs : List ℕ) : Type 0 where
    pub s : Side
    pub B : Body s
    pub Γ : Env s
    pub ls : List (Place s)
    pub known : Known B.context.functions
    pub placed : Placed B
    pub sized : length Γ.free ≡ B.size
    pub fits : Fits B.place Γ.slots χ
    pub arguments : Arguments Γ xs ls
    pub different : distinct xs ≡ true
    pub places : (p : Place parameter) → D.place p ≡ B.place (at ls p.no)
    pub named : (i : ℕ) → i < length xs → at actual i ≡ D.place (param i)
    pub count : D.size ≡ length ls
    pub range : (p : Place parameter) → p.no < D.size → (at ls p.no).no < B.size
    -- what the call did not name is still free
    pub frees : (q : Place s) → ((p : Place parameter) → p.no < D.size → (at ls p.no).no ≢ q.no) → get_or Γ.free q.no false ≡ true
        → get_or N (B.place q).no false ≡ true

  -- the caller's environment once the callee has ended with Δ
  abbrev pub resumed : {N : List Bool} {D : Body parameter} {χ : Frame} {actual : List (Place device)} {xs : List ℕ} (w : Waiting N D χ actual xs)
      → Env parameter → Env w.s
  resumed {xs = xs} w Δ = record {
    slots = stored (up_to 0 (length xs) λ i. kind_at w.ls (slot Δ.slots i)) xs w.Γ.slots;
    free = stored Δ.free (numbers w.ls) w.Γ.free;
  }

  -- What is left to do, typed. N is free now, L will be free when the items are reached.
  pub data Rest (N : List Bool) : (s : Side) → Body s → Env s → List Bool → List Frame → List Item → Type 0 where
    finished : {s : Side} {B : Body s} {Γ : Env s} → Rest N s B Γ last-free [] []
    close : {s : Side} {B : Body s} {Γ : Env s} {L : List Bool} {φs : List Frame} {is : List Item}
        → (Γ₀ : Env s) → Rest N s B (record { slots = narrowed Γ₀.slots Γ.slots; free = Γ.free }) L φs is → Rest N s B Γ L φs is
    next : {s : Side} {B : Body s} {Γ Δ : Env s} {L M : List Bool} {φs : List Frame} {is : List Item} {t : Statement s} {c : Commands s}
        → StatementRule B.context Γ t Δ c → Connects R L (commands_at B.place c) M → Rest N s B Δ M φs is
        → Rest N s B Γ L φs (run B.actual t ∷ is)
    back : {D : Body parameter} {Δ : Env parameter} {L : List Bool} {χ : Frame} {φs : List Frame} {is : List Item} {o : ℕ}
        {actual : List (Place device)} {xs : List ℕ} → (w : Waiting N D χ actual xs) → Home (length xs) Δ.slots
        → Rest N w.s w.B (resumed w Δ) L φs is → Rest N parameter D Δ L (χ ∷ φs) (return o actual xs ∷ is)

  -- The body on top: its places, its slots and its free places fit the device as it is
  pub record Good {s : Side} (B : Body s) (Γ : Env s) (N : List Bool) (φ : Frame) : Type 0 where
    pub known : Known B.context.functions
    pub placed : Placed B
    pub sized : length Γ.free ≡ B.size
    pub long : length N ≡ len
    pub fits : Fits B.place Γ.slots φ
    pub frees : Frees B.place Γ.free N

  pub record Inv (N : List Bool) (J : Job) : Type 0 where
    pub s : Side
    pub B : Body s
    pub Γ : Env s
    pub good : Good B Γ N J.top
    pub rest : Rest N s B Γ N J.below J.items

  -- 4. The map changes at a location, which is a place of the body on top where it is lost: nothing that waits below minds
  module _ (N : List Bool) (t : ℕ) (v : Bool) where
    abbrev LostInside : {s : Side} → Body s → Type 0
    LostInside {s} B = v ≡ false → (l : Place s) × (l.no < B.size) × ((B.place l).no ≡ t)

    waiting_stored : {D : Body parameter} {χ : Frame} {actual : List (Place device)} {xs : List ℕ} → LostInside D → Waiting N D χ actual xs
        → Waiting (set N t v) D χ actual xs
    waiting_stored {D = D} lost w = record {
      s = w.s;
      B = w.B;
      Γ = w.Γ;
      ls = w.ls;
      known = w.known;
      placed = w.placed;
      sized = w.sized;
      fits = w.fits;
      arguments = w.arguments;
      different = w.different;
      places = w.places;
      named = w.named;
      count = w.count;
      range = w.range;
      frees = λ q n h. stored_free N t v (w.B.place q).no (λ z. other q n h (lost z.0) z.1) (w.frees q n h);
    }
      where
        -- a place that the call did not name is elsewhere
        other : (q : Place w.s) → ((p : Place parameter) → p.no < D.size → (at w.ls p.no).no ≢ q.no)
            → get_or w.Γ.free q.no false ≡ true
            → (l : Place parameter) × (l.no < D.size) × ((D.place l).no ≡ t) → (w.B.place q).no ≢ t
        other q n h (l, k, e) f =
            let r : q.no < length w.Γ.free = true_in_range w.Γ.free q.no h in
            let z : length w.Γ.free ≡ w.B.size = w.sized in
            let same : (w.B.place q).no ≡ (w.B.place (at w.ls l.no)).no = f ∙ sym e ∙ ap (λ p. p.no) (w.places l) in
            n l k (sym (w.placed.apart q (at w.ls l.no) (omega arith) (w.range l k) same))

    -- a callee's places are its caller's
    lost_of_caller : {D : Body parameter} {χ : Frame} {actual : List (Place device)} {xs : List ℕ} (w : Waiting N D χ actual xs) → LostInside D
        → LostInside w.B
    lost_of_caller w lost z =
        let r = lost z in
        (at w.ls r.0.no, w.range r.0 r.1, ap (λ p. p.no) (sym (w.places r.0)) ∙ r.2)

    rest_stored : {s : Side} {B : Body s} {Γ : Env s} {L : List Bool} {φs : List Frame} {is : List Item} → LostInside B → Rest N s B Γ L φs is
        → Rest (set N t v) s B Γ L φs is
    unfolding waiting_stored
    rest_stored lost finished = finished
    rest_stored lost (close Γ₀ r) = close Γ₀ (rest_stored lost r)
    rest_stored lost (next j c r) = next j c (rest_stored lost r)
    rest_stored lost (back w h r) = back (waiting_stored lost w) h (rest_stored (lost_of_caller w lost) r)

  -- 5. The commands of a sequence, and a typed block put before typed items
  connects_nil : {L M : List Bool} → Connects R L ε M → L ≡ M
  connects_nil C-Empty = refl

  connects_alloc : {L M : List Bool} {q : Preparation} {l : Place device} → Connects R L (alloc q l ε) M → set L l.no false ≡ M
  connects_alloc (C-Alloc h C-Empty) = refl

  connects_release : {L M : List Bool} {l : Place device} → Connects R L (release l ε) M → set L l.no true ≡ M
  connects_release (C-Free C-Empty) = refl

  connects_merge : {L M : List Bool} {o b e : ℕ} {l k : Place device} → Connects R L (connect o b l e k ε) M → Linked R L l k × (L ≡ M)
  connects_merge (C-Merge h C-Empty) = (h, refl)

  connects_either : {L M : List Bool} {a b : Commands device} → Connects R L (either a b ε) M → Connects R L a M × Connects R L b M
  connects_either (C-If p q C-Empty) = (p, q)

  connects_repeat : {L M : List Bool} {a : Commands device} → Connects R L (repeat a ε) M → Connects R L a L × (L ≡ M)
  connects_repeat (C-Loop p C-Empty) = (p, refl)

  connects_split : {s : Side} (ρ : Place s → Place device) (c d : Commands s) {L M : List Bool} → Connects R L (commands_at ρ (◌then◌ c d)) M
      → (K : List Bool) × Connects R L (commands_at ρ c) K × Connects R K (commands_at ρ d) M
  connects_split ρ ε d {L = L} r = (L, C-Empty, r)
  connects_split ρ (alloc q l c) d (C-Alloc h r) = let (K, p, q) = connects_split ρ c d r in (K, C-Alloc h p, q)
  connects_split ρ (release l c) d (C-Free r) = let (K, p, q) = connects_split ρ c d r in (K, C-Free p, q)
  connects_split ρ (connect o b l e k c) d (C-Merge h r) = let (K, p, q) = connects_split ρ c d r in (K, C-Merge h p, q)
  connects_split ρ (either a b c) d (C-If h k r) = let (K, p, q) = connects_split ρ c d r in (K, C-If h k p, q)
  connects_split ρ (repeat a c) d (C-Loop h r) = let (K, p, q) = connects_split ρ c d r in (K, C-Loop h p, q)

  rest_statements : {N : List Bool} {s : Side} {B : Body s} {Γ Δ : Env s} (ts : Statements s) {c : Commands s} {L M : List Bool} {φs : List Frame}
      {is : List Item} → StatementsRule B.context Γ ts Δ c → Connects R L (commands_at B.place c) M → Rest N s B Δ M φs is
      → Rest N s B Γ L φs (statements_before B.actual ts is)
  rest_statements {N = N} {s = s} {B = B} {Γ = Γ} done {φs = φs} {is = is} T-Unit w r =
      subst (λ (L : List Bool). Rest N s B Γ L φs is) (sym (connects_nil w)) r
  rest_statements {N = N} {s = s} {B = B} {Γ = Γ} {Δ = Δ} (t ⨾ ts) {L = L} {M = M} {φs = φs} {is = is} (T-Seq {Δ = Δ'} {c = c} {d = d} j k) w r =
      let (K, p, q) = connects_split B.place c d w in next j p (rest_statements {Γ = Δ'} ts k q r)

  pub rest_block : {N : List Bool} {s : Side} {B : Body s} {Γ Δ : Env s} (b : Block s) {c : Commands s} {L M : List Bool} {φs : List Frame} {is : List Item}
      → BlockRule B.context Γ b Δ c → Connects R L (commands_at B.place c) M → Rest N s B Δ M φs is
      → Rest N s B Γ L φs (block_before B.actual b is)
  rest_block {Γ = Γ} (block o ts) (T-Close j p) w r = rest_statements ts j w (close Γ r)

  pub rest_main : {N : List Bool} {B : Body device} {Γ Δ : Env device} (b : Block device) {c : Commands device} {L : List Bool}
      → MainRule B.context Γ b Δ c → Connects R L (commands_at B.place c) last-free → Rest N device B Γ L [] (block_before B.actual b [])
  rest_main {Γ = Γ} (block o ts) (T-Main j) w = rest_statements ts j w finished

  -- where nothing is to come, the locations that are free are those that main ends with
  pub rest_end : {N : List Bool} {s : Side} {B : Body s} {Γ : Env s} {L : List Bool} {φs : List Frame} {is : List Item} → Rest N s B Γ L φs is
      → is ≡ [] → L ≡ last-free
  rest_end finished e = refl
  rest_end (close Γ₀ r) e = rest_end r e
  rest_end (next j w r) e = let z : ◌≡◌ {A = ℕ} 0 1 = cc in absurd (omega arith)
  rest_end (back w h r) e = let z : ◌≡◌ {A = ℕ} 0 1 = cc in absurd (omega arith)

  -- 6. One step
  module _ (v : Bool) (is_free : ℕ → Bool) where
    record Moves (N : List Bool) (φ : Frame) (φs : List Frame) (i : Item) (is : List Item) : Type 0 where
      to : Move
      moves : move R fs v is_free φ φs i is ≡ ok to
      inv : Inv (after_act to.act N) to.next

    module _ {s : Side} {B : Body s} {Γ : Env s} {N : List Bool} {φ : Frame} (more : (l : ℕ) → get_or N l false ≡ true → is_free l ≡ true)
        (G : Good B Γ N φ) where
      -- what a rule asks of a slot holds of the run-time slot
      can_bind : (x : ℕ) → slot Γ.slots x ≡ unbound → holds_no_qubit (slot φ x) ≡ true
      can_bind x p = rw p at (G.fits.each x)

      is_qubit : (x : ℕ) (l : Place s) → slot Γ.slots x ≡ qubit l → slot φ x ≡ qubit (B.place l)
      is_qubit x l p = rw p at (G.fits.each x)

      is_bool : (x : ℕ) → slot Γ.slots x ≡ bool tt → (w : Bool) × (slot φ x ≡ bool w)
      is_bool x p = rw p at (G.fits.each x)

      is_ref : (x : ℕ) → slot Γ.slots x ≡ ref tt → (w : Bool) × (slot φ x ≡ ref w)
      is_ref x p = rw p at (G.fits.each x)

      is_free_there : (l : Place s) → get_or Γ.free l.no false ≡ true → is_free (B.place l).no ≡ true
      is_free_there l h = more (B.place l).no (G.frees l h)

      -- the body on top after a store to a slot, and after a change of the places
      kept_good : {vs : List (Kind s)} {ψ : Frame} → Fits B.place vs ψ → Good B (record { slots = vs; free = Γ.free }) N ψ
      kept_good F = record { known = G.known; placed = G.placed; sized = G.sized; long = G.long; fits = F; frees = G.frees }

      stored_good : {vs : List (Kind s)} {ψ : Frame} (l : Place s) (v : Bool) → (v ≡ false → B.context.inside l ≡ true) → Fits B.place vs ψ
          → Good B (record { slots = vs; free = set Γ.free l.no v }) (set N (B.place l).no v) ψ
      stored_good l v i F = record {
        known = G.known;
        placed = G.placed;
        sized = length-set Γ.free l.no v ∙ G.sized;
        long = length-set N (B.place l).no v ∙ G.long;
        fits = F;
        frees = stored_frees Γ.free N l v G.placed G.sized G.long (λ z. G.placed.range l (i z)) G.frees;
      }

      -- a location of this body taken, and one given back
      rest_taken : {Δ : Env s} {M : List Bool} {φs : List Frame} {is : List Item} (l : Place s) → B.context.inside l ≡ true → Rest N s B Δ M φs is
          → Rest (set N (B.place l).no false) s B Δ M φs is
      rest_taken l i z = rest_stored N (B.place l).no false (λ u. (l, G.placed.range l i, refl)) z

      rest_given : {Δ : Env s} {M : List Bool} {φs : List Frame} {is : List Item} (l : Place s) → Rest N s B Δ M φs is
          → Rest (set N (B.place l).no true) s B Δ M φs is
      rest_given l z = rest_stored N (B.place l).no true (λ u. absurd (false≢true (sym u))) z

      performed : {Δ : Env s} {φs : List Frame} {is : List Item} {o : ℕ} {a : Op s} (d : Done device Bool) (e : ℕ)
          → perform (floor R fs v is_free B.actual) o φ a ≡ ok d → edges_of R fs v is_free d.act o ≡ ok e
          → Good B Δ (after_act d.act N) d.slots
          → Rest (after_act d.act N) s B Δ (after_act d.act N) φs is → Moves N φ φs (run B.actual (op o a)) is
      unfolding ◌>>=◌ ◌>>◌
      performed {Δ = Δ} {φs = φs} {is = is} d e p q H z = record {
        to = record { next = record { top = d.slots; below = φs; items = is }; act = d.act; edges = e };
        moves = rw (p, q);
        inv = record { s = s; B = B; Γ = Δ; good = H; rest = z };
      }

      now : {Δ : Env s} {N' M L : List Bool} {φs : List Frame} {is : List Item} → L ≡ M → Rest N' s B Δ M φs is → Rest N' s B Δ L φs is
      now {Δ = Δ} {N' = N'} {φs = φs} {is = is} e z = subst (λ (L : List Bool). Rest N' s B Δ L φs is) (sym e) z

      init_ok : (q : Preparation) (o x : ℕ) (l : Place s) → slot Γ.slots x ≡ unbound → B.context.inside l ≡ true
          → get_or Γ.free l.no false ≡ true
          → perform (floor R fs v is_free B.actual) o φ (init q x l) ≡ ok (record { slots = set φ x (qubit (B.place l)); act = takes q (B.place l) })
      unfolding ◌>>=◌ ◌>>◌
      init_ok q o x l p i r = rw (can_bind x p, G.placed.agree l i, G.placed.own l i, is_free_there l r)

      op_moves : {Δ : Env s} {M : List Bool} {φs : List Frame} {is : List Item} {o : ℕ} {a : Op s} {c : Commands s}
          → OpRule B.context Γ o a Δ c → Connects R N (commands_at B.place c) M → Rest N s B Δ M φs is
          → Moves N φ φs (run B.actual (op o a)) is
      unfolding ◌>>=◌ ◌>>◌
      op_moves {o = o} (T-Init {x = x} {l = l} p i r) w z =
          performed (record { slots = set φ x (qubit (B.place l)); act = takes plain (B.place l) }) 0 (init_ok plain o x l p i r) refl
          (stored_good l false (λ u. i) (fits_set B.place x (qubit l) (qubit (B.place l)) G.fits refl)) (now (connects_alloc w) (rest_taken l i z))
      op_moves {o = o} (T-MInit {x = x} {l = l} p i r) w z =
          performed (record { slots = set φ x (qubit (B.place l)); act = takes magic (B.place l) }) 0 (init_ok magic o x l p i r) refl
          (stored_good l false (λ u. i) (fits_set B.place x (qubit l) (qubit (B.place l)) G.fits refl)) (now (connects_alloc w) (rest_taken l i z))
      op_moves (T-Free {x = x} {l = l} p) w z =
          performed (record { slots = set φ x unbound; act = gives (B.place l) }) 0 (rw (is_qubit x l p)) refl
          (stored_good l true (λ u. absurd (false≢true (sym u))) (fits_set B.place x unbound unbound G.fits refl))
          (now (connects_release w) (rest_given l z))
      op_moves (T-Gate {x = x} {l = l} p) w z =
          performed (record { slots = φ; act = quiet }) 0 (rw (is_qubit x l p)) refl G (now (connects_nil w) z)
      op_moves (T-Meas1 {y = y} {x = x} {l = l} p q) w z =
          performed (record { slots = set φ y (bool v); act = quiet }) 0 (rw (can_bind y p, is_qubit x l q)) refl
          (kept_good (fits_set B.place y (bool tt) (bool v) G.fits (v, refl))) (now (connects_nil w) z)
      op_moves (T-Meas2 {y = y} {b = b} {x = x} {e = e} {z = x'} {l = l} {k = k} p q r n) w z =
          let (path, same) = connects_merge w in
          let (found, there) = route_more R (λ i. get_or N i false) is_free (B.place l).no (B.place k).no more path.0 path.1 in
          performed (record { slots = set φ y (bool v); act = merges b (B.place l) e (B.place k) }) (length found - 1)
          (rw (can_bind y p, is_qubit x l q, is_qubit x' k r, eqb_other x x' n)) (rw there)
          (kept_good (fits_set B.place y (bool tt) (bool v) G.fits (v, refl))) (now same z)
      op_moves (T-MkRef {r = r} {y = y} p q) w z =
          let (b, e) = is_bool y q in
          performed (record { slots = set φ r (ref b); act = quiet }) 0 (rw (can_bind r p, e)) refl
          (kept_good (fits_set B.place r (ref tt) (ref b) G.fits (b, refl))) (now (connects_nil w) z)
      op_moves (T-Deref {y = y} {r = r} p q) w z =
          let (b, e) = is_ref r q in
          performed (record { slots = set φ y (bool b); act = quiet }) 0 (rw (can_bind y p, e)) refl
          (kept_good (fits_set B.place y (bool tt) (bool b) G.fits (b, refl))) (now (connects_nil w) z)
      op_moves (T-Assign {r = r} {y = y} p q) w z =
          let (a, d) = is_ref r p in
          let (b, e) = is_bool y q in
          performed (record { slots = set φ r (ref b); act = quiet }) 0 (rw (d, e)) refl
          (kept_good (fits_set B.place r (ref tt) (ref b) G.fits (b, refl))) (now (connects_nil w) z)
      op_moves (T-Bool {y = y} {v = u} p) w z =
          performed (record { slots = set φ y (bool u); act = quiet }) 0 (rw (can_bind y p)) refl
          (kept_good (fits_set B.place y (bool tt) (bool u) G.fits (u, refl))) (now (connects_nil w) z)

      if_moves : {Δ : Env s} {M : List Bool} {φs : List Frame} {is : List Item} {o y : ℕ} (b b' : Block s) {c c' : Commands s}
          → slot Γ.slots y ≡ bool tt
          → BlockRule B.context Γ b Δ c → BlockRule B.context Γ b' Δ c' → Connects R N (commands_at B.place (either c c' ε)) M
          → Rest N s B Δ M φs is
          → Moves N φ φs (run B.actual (if o y b b')) is
      unfolding ◌>>=◌ ◌>>◌
      if_moves {φs = φs} {is = is} {y = y} b b' p j k w z =
          let (t, e) = is_bool y p in
          let (w₁, w₂) = connects_either w in
          let rest = chosen_has (λ js. Rest N s B Γ N φs js) t (rest_block b j w₁ z) (rest_block b' k w₂ z) in
          record {
            to = silent φ φs (chosen t (block_before B.actual b is) (block_before B.actual b' is));
            moves = rw e;
            inv = record { s = s; B = B; Γ = Γ; good = G; rest = rest };
          }

      while_moves : {M : List Bool} {φs : List Frame} {is : List Item} {o r : ℕ} (b : Block s) {c : Commands s}
          → slot Γ.slots r ≡ ref tt → BlockRule B.context Γ b Γ c → Connects R N (commands_at B.place (repeat c ε)) M
          → Rest N s B Γ M φs is
          → Moves N φ φs (run B.actual (while o r b)) is
      unfolding ◌>>=◌ ◌>>◌
      while_moves {φs = φs} {is = is} {o = o} {r = r} b {c = c} p j w z =
          let (t, e) = is_ref r p in
          let (w₁, q) = connects_repeat w in
          let rest = chosen_has (λ js. Rest N s B Γ N φs js) t (rest_block b j w₁ (next (T-While p j) w z)) (now q z) in
          record {
            to = silent φ φs (chosen t (block_before B.actual b (run B.actual (while o r b) ∷ is)) is);
            moves = rw e;
            inv = record { s = s; B = B; Γ = Γ; good = G; rest = rest };
          }

    -- 7. The return: the caller finds its slots and its places as typing says
    return_moves : {D : Body parameter} {Δ : Env parameter} {N : List Bool} {φ χ : Frame} {φs : List Frame} {is : List Item} {o : ℕ}
        {actual : List (Place device)} {xs : List ℕ} → Good D Δ N φ → (w : Waiting N D χ actual xs) → Home (length xs) Δ.slots
        → Rest N w.s w.B (resumed w Δ) N φs is → Moves N φ (χ ∷ φs) (return o actual xs) is
    return_moves {D = D} {Δ = Δ} {N = N} {φ = φ} {χ = χ} {φs = φs} {is = is} {actual = actual} {xs = xs} G w h r = record {
      to = silent (set_all unbound (without (kept φ (at actual) (length xs)) xs) χ) φs is;
      moves = refl;
      inv = record {
        s = w.s;
        B = w.B;
        Γ = resumed w Δ;
        rest = r;
        good = record {
          known = w.known;
          placed = w.placed;
          sized = length_stored Δ.free (numbers w.ls) w.Γ.free ∙ w.sized;
          long = G.long;
          fits = fits_back w.B.place 0 ends stays xs w.ls w.fits w.arguments w.different (λ j k. rw (zero-add j) (argument j k));
          frees = λ q k. ⊎_elim (named q) (other q) (left_cases Δ.free w.ls w.Γ.free q (G.sized ∙ w.count) k);
        };
      };
    }
      where
        -- what the caller's typing has of argument i, and whether its slot stays bound
        ends : ℕ → Kind w.s
        ends i = kind_at w.ls (slot Δ.slots i)

        stays : ℕ → Bool
        stays i = is_qubit_at (slot φ i) (at actual i)

        argument : (j : ℕ) → j < length xs → Settled (ends j) (stays j) (at w.ls j)
        argument j k = settled D.place w.ls actual (slot Δ.slots j) (slot φ j) j (G.fits.each j) (w.named j k) (h j k)

        named : (q : Place w.s) → (i : ℕ) × ((at w.ls i).no ≡ q.no) × (get_or Δ.free i false ≡ true)
            → get_or N (w.B.place q).no false ≡ true
        named q (i, e, k) =
            let same : D.place (param i) ≡ w.B.place q = w.places (param i) ∙ ap (λ p. w.B.place p) (place_path (at w.ls i) q e) in
            subst (λ (p : Place device). get_or N p.no false ≡ true) same (G.frees (param i) k)

        other : (q : Place w.s) → ((i : ℕ) → i < length w.ls → (at w.ls i).no ≢ q.no) × (get_or w.Γ.free q.no false ≡ true)
            → get_or N (w.B.place q).no false ≡ true
        other q c = w.frees q (λ p k. c.0 p.no (omega (arith, w.count))) c.1

  -- 8. A call asks on the device what it asks in typing
  module _ {s : Side} where
    all_map : (f : Place s → Bool) (g : Place device → Bool) (ρ : Place s → Place device) (ls : List (Place s))
        → ((l : Place s) → f l ≡ true → g (ρ l) ≡ true)
        → all f ls ≡ true → all g (map ρ ls) ≡ true
    all_map f g ρ [] h k = refl
    all_map f g ρ (l ∷ ls) h k = rw (h l (and_left _ _ k)) (all_map f g ρ ls h (and_right (f l) _ k))

    drop_map : (ρ : Place s → Place device) (m : ℕ) (ls : List (Place s)) → drop m (map ρ ls) ≡ map ρ (drop m ls)
    drop_map ρ zero ls = refl
    drop_map ρ (suc m) [] = refl
    drop_map ρ (suc m) (l ∷ ls) = drop_map ρ m ls

    eqb_map : {B : Body s} (l k : Place s) → Placed B → l.no < B.size → k.no < B.size
        → eqb (B.place l).no (B.place k).no ≡ eqb l.no k.no
    eqb_map {B = B} l k P a b = go (ℕ_discrete l.no k.no)
      where
        go : Dec (l.no ≡ k.no) → eqb (B.place l).no (B.place k).no ≡ eqb l.no k.no
        go (yes e) = rw (place_path l k e) (eqb_same (B.place k).no ∙ sym (eqb_same k.no))
        go (no n) = eqb_other _ _ (λ e. n (P.apart l k a b e)) ∙ sym (eqb_other _ _ n)

    any_map : {B : Body s} (l : Place s) (ls : List (Place s)) → Placed B → l.no < B.size → all B.context.inside ls ≡ true
        → any (eqb (B.place l).no) (numbers (map B.place ls)) ≡ any (eqb l.no) (numbers ls)
    any_map l [] P a h = refl
    any_map {B = B} l (k ∷ ls) P a h =
        rw (eqb_map l k P a (P.range k (and_left (B.context.inside k) _ h)), any_map l ls P a (and_right (B.context.inside k) _ h))

    distinct_map : {B : Body s} (ls : List (Place s)) → Placed B → all B.context.inside ls ≡ true
        → distinct (numbers (map B.place ls)) ≡ distinct (numbers ls)
    distinct_map [] P h = refl
    distinct_map {B = B} (l ∷ ls) P h =
        let rest : all B.context.inside ls ≡ true = and_right (B.context.inside l) _ h in
        rw (any_map l ls P (P.range l (and_left (B.context.inside l) _ h)) rest, distinct_map ls P rest)

  -- a function's body ends with its arguments at home
  body_home : {C : Context parameter} {Δ : Env parameter} {c : Commands parameter} (g : Function) (b : Block parameter) → BlockRule C (entry g) b Δ c
      → Home g.m Δ.slots
  body_home g (block o ts) (T-Close {Δ = Δ} j p) i k =
      narrowed_home (entry g).slots Δ.slots i (param i) p (entry_at g.m i k)

  module _ (v : Bool) (is_free : ℕ → Bool) {s : Side} {B : Body s} {Γ : Env s} {N : List Bool} {φ : Frame}
      (more : (l : ℕ) → get_or N l false ≡ true → is_free l ≡ true) (G : Good B Γ N φ) where
    arguments_ok : (o : ℕ) {xs : List ℕ} {ls : List (Place s)} → Arguments Γ xs ls
        → arguments_at (floor R fs v is_free B.actual) o φ xs (map B.place ls) ≡ ok tt
    unfolding ◌>>=◌ ◌>>◌
    arguments_ok o no_more = refl
    arguments_ok o (and {x = x} {l = l} p r) = rw (is_qubit v is_free more G x l p, eqb_same (B.place l).no) (arguments_ok o r)

    -- the callee's body on the device, and what the call shows of it
    module _ {f : ℕ} {ls : List (Place s)} {xs : List ℕ} (A : Callable B.context Γ f ls xs)
        (callee : Callee f (signature B.context.functions f)) where
      abbrev actual : List (Place device)
      actual = map (locate B.actual) ls

      abbrev inner : Body parameter
      inner = record { context = body_context callee.gs callee.g; actual = locations actual; place = λ p. B.place (at ls p.no); size = callee.g.k }

      same_places : actual ≡ map B.place ls
      same_places = map_same (locate B.actual) B.place B.context.inside ls (λ l h. G.placed.agree l h) A.inside

      places_own : all (λ l. owns R l.no) (map B.place ls) ≡ true
      places_own = all_map B.context.inside (λ l. owns R l.no) B.place ls G.placed.own A.inside

      others_free : all (λ l. is_free l.no) (drop (length xs) (map B.place ls)) ≡ true
      others_free =
          rw (drop_map B.place (length xs) ls)
          (all_map (λ l. get_or Γ.free l.no false) (λ l. is_free l.no) B.place (drop (length xs) ls) (is_free_there v is_free more G) A.others_free)

      call_ok : (o : ℕ) → callable (floor R fs v is_free B.actual) o φ actual xs ≡ ok tt
      unfolding ◌>>=◌ ◌>>◌
      call_ok o =
          let apart : distinct (numbers (map B.place ls)) ≡ true = distinct_map ls G.placed A.inside ∙ A.different in
          rw same_places (rw (places_own, apart, A.different_slots, arguments_ok o A.arguments, others_free))

      many : length ls ≡ callee.g.k
      many = A.locations ∙ ap (λ h. h.k) callee.is

      given_many : length xs ≡ callee.g.m
      given_many = A.slots ∙ ap (λ h. h.m) callee.is

      fit : callee.g.m ≤ callee.g.k
      fit = omega (arith, many, given_many, arguments_length A.arguments)

      range_of : (i : ℕ) → i < callee.g.k → (at ls i).no < B.size
      range_of i h = G.placed.range (at ls i) (all_at B.context.inside ls i A.inside (omega (arith, many)))

      named_at : (i : ℕ) → i < callee.g.k → at actual i ≡ B.place (at ls i)
      named_at i h =
          let k : i < length ls = omega (arith, many) in
          at_map (locate B.actual) ls i k ∙ G.placed.agree (at ls i) (all_at B.context.inside ls i A.inside k)

      inner_placed : Placed inner
      inner_placed = record {
        agree = λ i h. named_at i.no (below i.no callee.g.k h);
        own = λ i h. G.placed.own (at ls i.no) (all_at B.context.inside ls i.no A.inside (omega (arith, many, below i.no callee.g.k h)));
        range = λ i h. below i.no callee.g.k h;
        apart = λ i j h k e. distinct_places ls i.no j.no A.different (omega (arith, many)) (omega (arith, many))
            (G.placed.apart (at ls i.no) (at ls j.no) (range_of i.no h) (range_of j.no k) e);
        room = λ i h. G.placed.room (at ls i.no) (range_of i.no h);
      }

      inner_good : Good inner (entry callee.g) N (entered (take (length xs) actual))
      inner_good = record { known = callee.known; placed = inner_placed; sized = size; long = G.long; fits = rw given_many fitting; frees = frees }
        where
          size : length (replicate callee.g.m false ++ replicate (callee.g.k - callee.g.m) true) ≡ callee.g.k
          size = length_entry callee.g.m (callee.g.k - callee.g.m) ∙ omega (arith, fit)

          fitting : Fits inner.place (entered (up_to 0 callee.g.m param)) (entered (take callee.g.m actual))
          fitting =
              let long : callee.g.m ≤ length actual = omega (arith, fit, many, length-map ls (locate B.actual)) in
              fits_entered inner.place callee.g.m actual callee.few long (λ j h. named_at j (omega (arith, fit)))

          frees : (i : Place parameter) → get_or (entry callee.g).free i.no false ≡ true → get_or N (B.place (at ls i.no)).no false ≡ true
          frees i h =
              let h₁ = entry_free callee.g.m (replicate (callee.g.k - callee.g.m) true) i.no h in
              let h₂ = true_in_range (entry callee.g).free i.no h in
              G.frees (at ls i.no)
              (drop_at (λ l. get_or Γ.free l.no false) (length xs) ls i.no A.others_free (omega (arith, given_many)) (omega (arith, size, many)))

      waiting : Waiting N inner φ actual xs
      waiting = record {
        s = s;
        B = B;
        Γ = Γ;
        ls = ls;
        known = G.known;
        placed = G.placed;
        sized = G.sized;
        fits = G.fits;
        arguments = A.arguments;
        different = A.different_slots;
        places = λ i. refl;
        named = λ i h. named_at i (omega (arith, given_many, fit));
        count = sym many;
        range = λ i h. range_of i.no h;
        frees = λ q n h. G.frees q h;
      }

      call_moves : {M : List Bool} {φs : List Frame} {is : List Item} {o : ℕ}
          → Connects R N (commands_at B.place (commands_at (λ p. at ls p.no) callee.d.commands)) M
          → Rest N s B (substituted (signature_of callee.g callee.d) ls xs Γ) M φs is → Moves v is_free N φ φs (run B.actual (call o f ls xs)) is
      unfolding ◌>>=◌ ◌>>◌ waiting
      call_moves {φs = φs} {is = is} {o = o} w z = record {
        to = silent (entered (take (length xs) actual)) (φ ∷ φs) (block_before (locations actual) (function fs f).body (return o actual xs ∷ is));
        moves = rw (call_ok o);
        inv = record {
          s = parameter;
          B = inner;
          Γ = entry callee.g;
          good = inner_good;
          rest = rw callee.found (rest_block callee.g.body callee.typed (rw (at_at B.place ls callee.d.commands) at w)
              (back waiting (rw given_many (body_home callee.g callee.g.body callee.typed)) (rw (← given_many) at z)));
        };
      }

  connects_from : {L N M : List Bool} {c : Commands device} → L ≡ N → Connects R L c M → Connects R N c M
  connects_from {M = M} {c = c} e w = subst (λ (K : List Bool). Connects R K c M) e w

  -- 9. Every step of a job whose state is typed moves or finds it finished, and leaves its state typed.
  module _ (v : Bool) (is_free : ℕ → Bool) where
    rest_moves : {N L : List Bool} {s : Side} {B : Body s} {Γ : Env s} {φ : Frame} {φs : List Frame} {i : Item} {is : List Item}
        → ((l : ℕ) → get_or N l false ≡ true → is_free l ≡ true) → L ≡ N → Rest N s B Γ L φs (i ∷ is) → Good B Γ N φ → Moves v is_free N φ φs i is
    rest_moves {B = B} {Γ = Γ} {φ = φ} more e (close Γ₀ r) G =
        rest_moves more e r (kept_good v is_free more G (fits_narrowed B.place Γ₀.slots Γ.slots φ G.fits))
    rest_moves more e (next (T-Op j) w r) G = op_moves v is_free more G j (connects_from e w) r
    rest_moves {N = N} {s = s} {B = B} {Γ = Γ} {φs = φs} {is = is} more e (next {M = M} (T-Call {f = f} {ls = ls} {xs = xs} A) w r) G =
        let callee : Callee f (signature B.context.functions f) = known_at f G.known A.earlier in
        call_moves v is_free more G A callee
        (subst (λ (h : Signature). Connects R N (commands_at B.place (commands_at (λ p. at ls p.no) h.commands)) M) callee.is (connects_from e w))
        (subst (λ (h : Signature). Rest N s B (substituted h ls xs Γ) M φs is) callee.is r)
    rest_moves more e (next (T-If {b = b} {b' = b'} p j k) w r) G = if_moves v is_free more G b b' p j k (connects_from e w) r
    rest_moves more e (next (T-While {b = b} p j) w r) G = while_moves v is_free more G b p j (connects_from e w) r
    rest_moves {N = N} more e (back {Δ = Δ} {φs = φs} {is = is} w h r) G =
        return_moves v is_free G w h (subst (λ (K : List Bool). Rest N w.s w.B (resumed w Δ) K φs is) e r)

    pub record Fine (N : List Bool) (S : Stepped) : Type 0 where
      pub unstuck : leb S.answer.code 1 ≡ true
      pub inv : Inv (after_act S.act N) S.next

    moved : {N : List Bool} {φ : Frame} {φs : List Frame} {i : Item} {is : List Item} → Moves v is_free N φ φs i is
        → Fine N (step_items R fs v is_free φ φs (i ∷ is))
    moved m = rw m.moves (record { unstuck = refl; inv = m.inv })

    fine_items : {N : List Bool} {s : Side} {B : Body s} {Γ : Env s} (φ : Frame) (φs : List Frame) (is : List Item)
        → ((l : ℕ) → get_or N l false ≡ true → is_free l ≡ true) → Good B Γ N φ → Rest N s B Γ N φs is
        → Fine N (step_items R fs v is_free φ φs is)
    fine_items {s = s} {B = B} {Γ = Γ} φ φs [] more G r = record { unstuck = refl; inv = record { s = s; B = B; Γ = Γ; good = G; rest = r } }
    fine_items φ φs (i ∷ is) more G r = moved (rest_moves more refl r G)

    pub fine_step : (N : List Bool) (J : Job) → ((l : ℕ) → get_or N l false ≡ true → is_free l ≡ true) → Inv N J → Fine N (step R fs v is_free J)
    fine_step N J more I = fine_items J.top J.below J.items more I.good I.rest
