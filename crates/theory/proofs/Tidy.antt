-- What holds of any readable programs, accepted or not. Every job from 1 on stays neat over the map: its own steps keep it so, and a step of another
-- job writes only where that other job owns, so never on a byte that is this job's. So a moved init turns a byte 0 into the job and a moved free the
-- job into 0, and steps of other jobs leave the number of the job's bytes alone. A stuck job stays stuck: a refusal changes nothing at all, no refusal
-- reads the outcome, and other jobs change nothing that the job sees: its state and the bytes of its locations.
use mathlib.Core.Path.{◌≡◌, refl, sym, ap, subst, fun_ext, ◌∙◌}
use mathlib.Core.List.{List, [], ◌∷◌}
use mathlib.Core.Logic.{◌≢◌, inl, inr, ⊎_elim}
use mathlib.Core.Bool.{Bool, true, not, ◌&&◌}
use Prim.Native.Nat.{ℕ, zero, suc, ◌+◌, ◌≤◌, ◌<◌}
use lib.Dec.{eqb}
use lib.ListN.{get_or, set, length, replicate, length-map}
use lib.Seq.{get_or-set_other}
use native.Mathlib.Decide.{ℕ_discrete}
use native.Mathlib.Omega.{arith}
use Rattle.answers.specs.declared.Refusal.{Refusal}
use Rattle.answers.specs.Check.{Check, ok, refused, ◌>>=◌, ◌>>◌, need}
use Rattle.rules.specs.Basics.{chosen}
use Rattle.rules.specs.Device.{Device}
use Rattle.rules.specs.Region.{Region, region_of, owns, free_in}
use Rattle.rules.specs.Syntax.{Side, device, Place, Op, init, free, gate, measure, merge, new_ref, get_ref, set_ref, constant}
use Rattle.rules.specs.Syntax.{op, if, while, call, Function, Program}
use Rattle.rules.specs.Slots.{qubit, slot, need_qubit, holds_no_qubit, Act, quiet, takes, gives, merges, Done, perform}
use Rattle.rules.specs.Machine.{Frame, Actual, Item, run, return, Job, Move, floor, edges_of, move, item_offset, Stepped, stepped, step_items, step}
use Rattle.rules.specs.Run.{Turn, Machine, written, started, step_of, after, final}
use Rattle.theory.specs.Interleaving.{turns_of}
use Rattle.theory.specs.Tidy.{is_init, is_free, bytes_of, Readable, acts, Occupied, MapByte, frame, Stuck, StuckStays, HeldOnce}
use Rattle.rules.proofs.Tests.{eqb_same, eqb_other}
use Rattle.theory.proofs.Base.{how_many_set}
use Rattle.theory.proofs.Isolation.{Byte, own_slot, OwnFrame, OwnFrames, OwnAct, OwnJob, owns_owner, part, Sound, sound_started, sound_after}
use Rattle.theory.proofs.Isolation.{sound_final}
use Rattle.theory.proofs.Isolation.{View, view, view_step, view_after, view_final, acts_own, same_step, view_same, view_of_final}
use Rattle.theory.proofs.Neat.{Neat, Counts, Keeps, neat_keep, neat_step, neat_fresh, bodies_scoped, frames_once}

-- 1. The map's bytes
pub map_byte : MapByte
map_byte D programs ts l = (sound_final D programs ts (started D programs) (sound_started D programs)).bytes l

-- 2. Every job from 1 on stays neat.
module _ (D : Device) (programs : ℕ → Program) where
  -- a byte of job j is not where another job owns
  untouched : (i j k l : ℕ) (occ : List ℕ) → 1 ≤ j → j ≢ i → owns (region_of D i) k ≡ true → ((l : ℕ) → Byte D occ l)
      → get_or occ l 0 ≡ j → l ≢ k
  untouched i j k l occ pos n h b e same = go (b l)
    where
      go : Byte D occ l → ⊥
      go (inl z) = omega arith
      go (inr o) = n (sym e ∙ o ∙ ap (λ (m : ℕ). get_or D.owners m 0) same ∙ (owns_owner D.owners i k h).1)

  keeps_other : (i j : ℕ) (a : Act device) (occ : List ℕ) → 1 ≤ j → j ≢ i → OwnAct (owns (region_of D i)) a → ((l : ℕ) → Byte D occ l)
      → Keeps j occ (written i a occ)
  keeps_other i j quiet occ pos n h b l e = e
  keeps_other i j (takes q k) occ pos n h b l e = get_or-set_other occ k.no l i 0 (untouched i j k.no l occ pos n h b e) ∙ e
  keeps_other i j (gives k) occ pos n h b l e = get_or-set_other occ k.no l 0 0 (untouched i j k.no l occ pos n h b e) ∙ e
  keeps_other i j (merges c k d m) occ pos n h b l e = e

  -- 3. How a step changes the number of a job's bytes
  bytes_set : (j : ℕ) (occ : List ℕ) (l x : ℕ) → l < length occ
      → bytes_of j (set occ l x) + chosen (eqb (get_or occ l 0) j) 1 0 ≡ bytes_of j occ + chosen (eqb x j) 1 0
  bytes_set j occ l x h = how_many_set (λ b. eqb b j) occ l x 0 h

  -- a store where neither the old byte nor the new one is the job
  bytes_same : (j : ℕ) (occ : List ℕ) (l x : ℕ) → l < length occ → get_or occ l 0 ≢ j → x ≢ j → bytes_of j (set occ l x) ≡ bytes_of j occ
  bytes_same j occ l x h n m =
      let r = bytes_set j occ l x h in
      let s : bytes_of j (set occ l x) + 0 ≡ bytes_of j occ + 0 = rw (eqb_other (get_or occ l 0) j n, eqb_other x j m) at r in
      omega arith

  -- the act's own job
  bytes_own : (j : ℕ) (a : Act device) (occ : List ℕ) → 1 ≤ j → length D.owners ≡ length occ → OwnAct (owns (region_of D j)) a
      → Counts j occ a
      → bytes_of j (written j a occ) + chosen (is_free a) 1 0 ≡ bytes_of j occ + chosen (is_init a) 1 0
  bytes_own j quiet occ pos f h c = refl
  bytes_own j (takes q l) occ pos f h c =
      let r = bytes_set j occ l.no j c.1 in
      rw (eqb_other (get_or occ l.no 0) j (λ e. let z = c.0 in omega arith), eqb_same j) at r
  bytes_own j (gives l) occ pos f h c =
      let r = bytes_set j occ l.no 0 (omega (arith, (owns_owner D.owners j l.no h).0)) in
      let s : bytes_of j (set occ l.no 0) + chosen (eqb j j) 1 0 ≡ bytes_of j occ + chosen (eqb 0 j) 1 0 = rw c at r in
      rw (eqb_other 0 j (λ e. omega arith), eqb_same j) at s
  bytes_own j (merges b l e k) occ pos f h c = refl

  -- another job
  not_its : (i j : ℕ) (occ : List ℕ) (k : ℕ) → 1 ≤ j → j ≢ i → owns (region_of D i) k ≡ true → ((l : ℕ) → Byte D occ l)
      → get_or occ k 0 ≢ j
  not_its i j occ k pos n h b e = untouched i j k k occ pos n h b e refl

  in_range : (i k : ℕ) (occ : List ℕ) → length D.owners ≡ length occ → owns (region_of D i) k ≡ true → k < length occ
  in_range i k occ f h = omega (arith, (owns_owner D.owners i k h).0)

  bytes_other : (i j : ℕ) (a : Act device) (occ : List ℕ) → 1 ≤ j → j ≢ i → length D.owners ≡ length occ → OwnAct (owns (region_of D i)) a
      → ((l : ℕ) → Byte D occ l) → bytes_of j (written i a occ) ≡ bytes_of j occ
  bytes_other i j quiet occ pos n f h b = refl
  bytes_other i j (takes q k) occ pos n f h b =
      bytes_same j occ k.no i (in_range i k.no occ f h) (not_its i j occ k.no pos n h b) (λ e. n (sym e))
  bytes_other i j (gives k) occ pos n f h b =
      bytes_same j occ k.no 0 (in_range i k.no occ f h) (not_its i j occ k.no pos n h b) (λ e. omega arith)
  bytes_other i j (merges c k d m) occ pos n f h b = refl

  module _ (readable : Readable programs) where
    abbrev AllNeat : Machine → Type 0
    AllNeat M = (j : ℕ) → 1 ≤ j → Neat (programs j).functions j M.occupancy (M.jobs j)

    neat_started : AllNeat (started D programs)
    neat_started j pos = neat_fresh (programs j) (readable j).1 j (started D programs).occupancy

    neat_own : (t : Turn) (M : Machine) → Sound D programs M → 1 ≤ t.job → AllNeat M
        → Counts t.job M.occupancy (step_of D programs t M).act
        × Neat (programs t.job).functions t.job (written t.job (step_of D programs t M).act M.occupancy) (step_of D programs t M).next
    neat_own t M S pos A =
        let scoped = bodies_scoped (programs t.job) (readable t.job).1 in
        let fits : length (region_of D t.job).owned ≡ length M.occupancy = length-map D.owners (λ w. eqb w t.job) ∙ S.fits in
        neat_step (region_of D t.job) (programs t.job).functions scoped t.outcome t.job pos M.occupancy fits (M.jobs t.job) (A t.job pos)

    neat_after : (t : Turn) (M : Machine) → Sound D programs M → AllNeat M → AllNeat (after D programs t M)
    neat_after t M S A j pos = go (ℕ_discrete j t.job)
      where
        go : Dec (j ≡ t.job) → Neat (programs j).functions j (after D programs t M).occupancy ((after D programs t M).jobs j)
        go (yes e) = rw (e, eqb_same t.job) (neat_own t M S (rw e at pos) A).1
        go (no n) =
            let keeps = keeps_other t.job j (step_of D programs t M).act M.occupancy pos n (acts_own D programs t M S) S.bytes in
            rw (eqb_other j t.job n) (neat_keep keeps (A j pos))

    neat_final : (ts : List Turn) (M : Machine) → Sound D programs M → AllNeat M → AllNeat (final D programs ts M)
    neat_final [] M S A = A
    neat_final (t ∷ ts) M S A = neat_final ts (after D programs t M) (sound_after D programs t M S) (neat_after t M S A)

    -- 4. Over a schedule: the bytes at the end and the moved frees are the bytes at the start and the moved inits.
    one_step : (j : ℕ) → 1 ≤ j → (t : Turn) (M : Machine) → Sound D programs M → AllNeat M
        → bytes_of j (after D programs t M).occupancy + chosen (eqb t.job j && is_free (step_of D programs t M).act) 1 0
        ≡ bytes_of j M.occupancy + chosen (eqb t.job j && is_init (step_of D programs t M).act) 1 0
    one_step j pos t M S A = go (ℕ_discrete j t.job)
      where
        go : Dec (j ≡ t.job) → bytes_of j (after D programs t M).occupancy + chosen (eqb t.job j && is_free (step_of D programs t M).act) 1 0
            ≡ bytes_of j M.occupancy + chosen (eqb t.job j && is_init (step_of D programs t M).act) 1 0
        go (yes e) =
            let from : 1 ≤ t.job = rw e at pos in
            rw (e, eqb_same t.job)
            (bytes_own t.job (step_of D programs t M).act M.occupancy from S.fits (acts_own D programs t M S) (neat_own t M S from A).0)
        go (no n) =
            rw (eqb_other t.job j (λ e. n (sym e)))
            (ap (λ (m : ℕ). m + 0)
            (bytes_other t.job j (step_of D programs t M).act M.occupancy pos n S.fits (acts_own D programs t M S) S.bytes))

    counted : (j : ℕ) → 1 ≤ j → (ts : List Turn) (M : Machine) → Sound D programs M → AllNeat M
        → bytes_of j (final D programs ts M).occupancy + acts D programs is_free j ts M ≡ bytes_of j M.occupancy + acts D programs is_init j ts M
    counted j pos [] M S A = refl
    counted j pos (t ∷ ts) M S A =
        let one = one_step j pos t M S A in
        let rest = counted j pos ts (after D programs t M) (sound_after D programs t M S) (neat_after t M S A) in
        omega arith

none_at_start : (j n : ℕ) → 1 ≤ j → bytes_of j (replicate n 0) ≡ 0
none_at_start j zero pos = refl
none_at_start j (suc n) pos = let r = none_at_start j n pos in rw (eqb_other 0 j (λ e. omega arith)) (omega arith)

pub occupied : Occupied
occupied D programs readable j pos ts =
    let start : bytes_of j (started D programs).occupancy ≡ 0 = none_at_start j (length D.owners) pos in
    let all = counted D programs readable j pos ts (started D programs) (sound_started D programs) (neat_started D programs readable) in
    omega arith

-- 5. Nothing is held twice. (Number 0 is no job: an init by it would leave the byte at 0, and so the location free for another init by it.)
module _ (own : ℕ → Bool) where
  own_below : (φs : List Frame) (i : ℕ) → OwnFrames own φs → OwnFrame own (get_or φs i [])
  own_below [] i h = λ x. refl
  own_below (φ ∷ φs) zero h = h.0
  own_below (φ ∷ φs) (suc i) h = own_below φs i h.1

  own_frame : (J : Job) (i : ℕ) → OwnJob own J → OwnFrame own (frame J i)
  own_frame J zero h = h.0
  own_frame J (suc i) h = own_below J.below i h.1

  own_at : (φ : Frame) (x : ℕ) (l : Place device) → OwnFrame own φ → slot φ x ≡ qubit l → own l.no ≡ true
  own_at φ x l h e = sym (ap (own_slot own) e) ∙ h x

module _ (D : Device) (programs : ℕ → Program) where
  -- a location in a frame of a job is the job's
  owner_of : (M : Machine) → Sound D programs M → (j i x : ℕ) (l : Place device) → slot (frame (M.jobs j) i) x ≡ qubit l
      → get_or D.owners l.no 0 ≡ j
  owner_of M S j i x l h =
      let own = owns (region_of D j) in
      (owns_owner D.owners j l.no (own_at own (frame (M.jobs j) i) x l (own_frame own (M.jobs j) i (S.own j)) h)).1

  byte_of : (M : Machine) → Sound D programs M → (readable : Readable programs) → AllNeat D programs readable M → (j x : ℕ) (l : Place device)
      → slot (M.jobs j).top x ≡ qubit l → get_or M.occupancy l.no 0 ≡ j
  byte_of M S readable A zero x l h = ⊎_elim (λ z. z) (λ e. e ∙ owner_of M S zero 0 x l h) (S.bytes l.no)
  byte_of M S readable A (suc j) x l h = (A (suc j) (omega arith)).tidy.taken x l h

pub held_once : HeldOnce
held_once D programs readable ts =
    let M = final D programs ts (started D programs) in
    let S = sound_final D programs ts (started D programs) (sound_started D programs) in
    let A = neat_final D programs readable ts (started D programs) (sound_started D programs) (neat_started D programs readable) in
    record {
      one_slot = λ j i x y l k pos h h' e. frames_once (M.jobs j) (A j pos) i x y l k h h' e;
      one_job = λ i j a b x y l k h h' e. sym (owner_of D programs M S i a x l h) ∙ ap (λ (m : ℕ). get_or D.owners m 0) e
          ∙ owner_of D programs M S j b y k h';
      on_map = λ j x l h. byte_of D programs M S readable A j x l h;
    }

-- 6. A stuck job stays stuck.
-- two checks refuse alike, or both give values, related so
data Likewise {A : Type 0} (Q : A → A → Type 0) : Check A → Check A → Type 0 where
  refuse : {r : Refusal} → Likewise Q (refused r) (refused r)
  give : {a b : A} → Q a b → Likewise Q (ok a) (ok b)

likewise_bind : {A B : Type 0} {Q : A → A → Type 0} {P : B → B → Type 0} {m n : Check A} {f g : A → Check B}
    → Likewise Q m n → ((a b : A) → Q a b → Likewise P (f a) (g b)) → Likewise P (m >>= f) (n >>= g)
unfolding ◌>>=◌
likewise_bind refuse h = refuse
likewise_bind (give {a = a} {b = b} q) h = h a b q

likewise_then : {A B : Type 0} {Q : A → A → Type 0} {P : B → B → Type 0} {m n : Check A} {f g : Check B}
    → Likewise Q m n → Likewise P f g → Likewise P (m >> f) (n >> g)
unfolding ◌>>◌
likewise_then refuse h = refuse
likewise_then (give q) h = h

same : {A : Type 0} (m : Check A) → Likewise (λ a b. a ≡ b) m m
same (ok a) = give refl
same (refused r) = refuse

likewise_map : {A : Type 0} {P Q : A → A → Type 0} {m n : Check A} → ((a b : A) → P a b → Q a b) → Likewise P m n → Likewise Q m n
likewise_map f refuse = refuse
likewise_map f (give {a = a} {b = b} q) = give (f a b q)

-- no refusal reads the outcome
module _ (R : Region) (fs : List Function) (v w : Bool) (is_open : ℕ → Bool) where
  abbrev SameAct : Done device Bool → Done device Bool → Type 0
  SameAct d e = d.act ≡ e.act

  abbrev Both : Move → Move → Type 0
  Both m n = Unit {0}

  same_act : (m : Check (Done device Bool)) → Likewise SameAct m m
  same_act m = likewise_map (λ d e p. ap (λ r. r.act) p) (same m)

  performed : {s : Side} (σ : Actual s) (o : ℕ) (φ : Frame) (a : Op s)
      → Likewise SameAct (perform (floor R fs v is_open σ) o φ a) (perform (floor R fs w is_open σ) o φ a)
  performed σ o φ (init q x l) = same_act (perform (floor R fs v is_open σ) o φ (init q x l))
  performed σ o φ (free x) = same_act (perform (floor R fs v is_open σ) o φ (free x))
  performed σ o φ (gate g x) = same_act (perform (floor R fs v is_open σ) o φ (gate g x))
  performed σ o φ (measure y b x) =
      likewise_then (same (need (holds_no_qubit (slot φ y)) 12 o)) (likewise_bind (same (need_qubit (slot φ x) o)) λ l k e. give refl)
  performed σ o φ (merge y b x c z) =
      likewise_then (same (need (holds_no_qubit (slot φ y)) 12 o))
      (likewise_bind (same (need_qubit (slot φ x) o)) λ l l' e.
      likewise_bind (same (need_qubit (slot φ z) o)) λ k k' e'.
      likewise_then (same (need (not (eqb x z)) 15 o)) (give (λ i. merges b (e i) c (e' i))))
  performed σ o φ (new_ref r y) = same_act (perform (floor R fs v is_open σ) o φ (new_ref r y))
  performed σ o φ (get_ref y r) = same_act (perform (floor R fs v is_open σ) o φ (get_ref y r))
  performed σ o φ (set_ref r y) = same_act (perform (floor R fs v is_open σ) o φ (set_ref r y))
  performed σ o φ (constant y u) = same_act (perform (floor R fs v is_open σ) o φ (constant y u))

  edges_alike : (a : Act device) (o : ℕ) → edges_of R fs v is_open a o ≡ edges_of R fs w is_open a o
  edges_alike quiet o = refl
  edges_alike (takes q l) o = refl
  edges_alike (gives l) o = refl
  edges_alike (merges b l e k) o = refl

  edges_likewise : (a b : Act device) (o : ℕ) → a ≡ b → Likewise (λ m n. m ≡ n) (edges_of R fs v is_open a o) (edges_of R fs w is_open b o)
  edges_likewise a b o e = rw (← e, ← (edges_alike a o)) (same (edges_of R fs v is_open a o))

  moved : (φ : Frame) (φs : List Frame) (i : Item) (is : List Item) → Likewise Both (move R fs v is_open φ φs i is) (move R fs w is_open φ φs i is)
  moved φ φs (run σ (op o a)) is = likewise_bind (performed σ o φ a) λ d e p. likewise_bind (edges_likewise d.act e.act o p) λ m n q. give tt
  moved φ φs (run σ (if o y b c)) is = likewise_map (λ m n e. tt) (same (move R fs v is_open φ φs (run σ (if o y b c)) is))
  moved φ φs (run σ (while o r b)) is = likewise_map (λ m n e. tt) (same (move R fs v is_open φ φs (run σ (while o r b)) is))
  moved φ φs (run σ (call o f ls xs)) is = likewise_map (λ m n e. tt) (same (move R fs v is_open φ φs (run σ (call o f ls xs)) is))
  moved φ [] (return o ls xs) is = give tt
  moved φ (χ ∷ φs) (return o ls xs) is = give tt

  -- a stuck step leaves the job and the map as they are, and with another outcome it is the same step
  abbrev Stays : Job → Stepped → Stepped → Type 0
  Stays J s t = (t ≡ s) × (t.act ≡ quiet) × (t.next ≡ J)

  stuck_move : (J : Job) (o : ℕ) (m n : Check Move) → Likewise Both m n → 2 ≤ (stepped J o m).answer.code → Stays J (stepped J o m) (stepped J o n)
  stuck_move J o (refused r) (refused q) refuse h = (refl, refl, refl)
  stuck_move J o (refused r) (ok n) l h = elim l [ ]
  stuck_move J o (ok m) n l h = absurd (omega arith)

  stuck_items : (φ : Frame) (φs : List Frame) (is : List Item) → 2 ≤ (step_items R fs v is_open φ φs is).answer.code
      → Stays (record { top = φ; below = φs; items = is }) (step_items R fs v is_open φ φs is) (step_items R fs w is_open φ φs is)
  stuck_items φ φs [] h = absurd (omega arith)
  stuck_items φ φs (i ∷ is) h =
      let J : Job = record { top = φ; below = φs; items = i ∷ is } in
      stuck_move J (item_offset i) (move R fs v is_open φ φs i is) (move R fs w is_open φ φs i is) (moved φ φs i is) h

  stuck_step : (J : Job) → 2 ≤ (step R fs v is_open J).answer.code → Stays J (step R fs v is_open J) (step R fs w is_open J)
  stuck_step J h = stuck_items J.top J.below J.items h

module _ (D : Device) (programs : ℕ → Program) (j : ℕ) (v : Bool) (W : View) (stuck : 2 ≤ (view_step D programs j v W).answer.code) where
  stuck_view_step : (w : Bool) → view_step D programs j w W ≡ view_step D programs j v W
  stuck_view_step w = (stuck_step (region_of D j) (programs j).functions v w (free_in (region_of D j) W.mine) W.job stuck).0

  stuck_view_after : (w : Bool) → view_after D programs j w W ≡ W
  stuck_view_after w =
      let s = stuck_step (region_of D j) (programs j).functions v w (free_in (region_of D j) W.mine) W.job stuck in
      λ i. record { mine = written j (s.1 i) W.mine; job = s.2 i }

  stuck_view : (us : List Turn) → view_final D programs j us W ≡ W
  stuck_view [] = refl
  stuck_view (u ∷ us) = ap (λ (U : View). view_final D programs j us U) (stuck_view_after u.outcome) ∙ stuck_view us

-- the part of the map that a job sees has the bytes of the job's locations
part_its : (ws : List ℕ) (j : ℕ) (occ : List ℕ) (l : ℕ) → length ws ≡ length occ → get_or ws l 0 ≡ j → get_or (part ws j occ) l 0 ≡ get_or occ l 0
part_its [] j [] l h e = refl
part_its [] j (x ∷ occ) l h e = absurd (omega arith)
part_its (w ∷ ws) j [] l h e = absurd (omega arith)
part_its (w ∷ ws) j (x ∷ occ) zero h e = rw (e, eqb_same j)
part_its (w ∷ ws) j (x ∷ occ) (suc l) h e = part_its ws j occ l (omega arith) e

module _ (D : Device) (programs : ℕ → Program) (M : Machine) (S : Sound D programs M) (j : ℕ) (v : Bool)
    (h : 2 ≤ (step_of D programs (record { job = j; outcome = v }) M).answer.code) where
  abbrev t : Turn
  t = record { job = j; outcome = v }

  abbrev N : Machine
  N = after D programs t M

  abbrev W : View
  W = view D programs j M

  -- the step itself
  stays : Stays (region_of D j) (programs j).functions v v (free_in (region_of D j) M.occupancy) (M.jobs j) (step_of D programs t M) (step_of D programs t M)
  stays = stuck_step (region_of D j) (programs j).functions v v (free_in (region_of D j) M.occupancy) (M.jobs j) h

  jobs_stay : (i : ℕ) → Dec (i ≡ j) → chosen (eqb i j) (step_of D programs t M).next (M.jobs i) ≡ M.jobs i
  jobs_stay i (yes e) = rw (e, eqb_same j) stays.2
  jobs_stay i (no n) = rw (eqb_other i j n)

  -- and what follows: the job sees what it saw, so it steps as it did
  here : view_step D programs j v W ≡ step_of D programs t M
  here = same_step D programs t M S

  stuck : 2 ≤ (view_step D programs j v W).answer.code
  stuck = subst (λ (s : Stepped). 2 ≤ s.answer.code) (sym here) h

  sound : (us : List Turn) → Sound D programs (final D programs us N)
  sound us = sound_final D programs us N (sound_after D programs t M S)

  seen : (us : List Turn) → view D programs j (final D programs us N) ≡ W
  seen us =
      view_of_final D programs j us N (sound [])
      ∙ ap (λ (U : View). view_final D programs j (turns_of j us) U) (view_same D programs t M S ∙ stuck_view_after D programs j v W stuck v)
      ∙ stuck_view D programs j v W stuck (turns_of j us)

  told : (us : List Turn) (w : Bool) → step_of D programs (record { job = j; outcome = w }) (final D programs us N) ≡ step_of D programs t M
  told us w =
      sym (same_step D programs (record { job = j; outcome = w }) (final D programs us N) (sound us))
      ∙ ap (λ (U : View). view_step D programs j w U) (seen us) ∙ stuck_view_step D programs j v W stuck w ∙ here

  stuck_from : Stuck D programs M j v
  stuck_from = record {
    map_stays = ap (λ (a : Act device). written j a M.occupancy) stays.1;
    jobs_stay = fun_ext (λ i. jobs_stay i (ℕ_discrete i j));
    later_record = λ us w. ap (λ (s : Stepped). s.answer) (told us w);
    later_state = λ us. ap (λ (U : View). U.job) (seen us);
    later_map = λ us l e. sym (part_its D.owners j (final D programs us N).occupancy l (sound us).fits e)
        ∙ ap (λ (U : View). get_or U.mine l 0) (seen us) ∙ part_its D.owners j M.occupancy l S.fits e;
  }

pub stuck_stays : StuckStays
stuck_stays D programs ts j v h =
    let S = sound_final D programs ts (started D programs) (sound_started D programs) in
    stuck_from D programs (final D programs ts (started D programs)) S j v h
