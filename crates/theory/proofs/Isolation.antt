-- Jobs on one device do not disturb one another. A job's slots hold only its own locations, so its steps write only its own part of the map; and a
-- step reads of the map only which of its own locations are free. So what a job sees (its part of the map and its own state) changes by its own steps
-- alone, and what its steps answer depends on what it sees alone, whatever stands between them. For any number of jobs and any programs.
use mathlib.Core.Path.{◌≡◌, refl, sym, ap, fun_ext, ◌∙◌}
use mathlib.Core.List.{List, [], ◌∷◌, map, head-eq_of_cons-eq, tail-eq_of_cons-eq}
use mathlib.Core.Logic.{◌≢◌, ◌⊎◌, inl, inr, ⊎_elim}
use Prim.Native.Nat.{ℕ, zero, suc, ◌<◌}
use mathlib.Core.Bool.{Bool, true, false, ◌&&◌, false≢true}
use lib.ListN.{get_or, set, length, length-set, length-replicate, take, replicate}
use lib.Dec.{eqb}
use native.Mathlib.Decide.{ℕ_discrete, dec_lt}
use native.Mathlib.Omega.{arith}
use Rattle.answers.specs.Check.{Check, ok, refused}
use Rattle.answers.proofs.Laws.{Holds, by, holds_bind, holds_then, holds_need, holds_map, holds_any}
use Rattle.rules.specs.Basics.{chosen, all, without, set_all}
use Rattle.rules.specs.Device.{Device}
use Rattle.rules.specs.Region.{Region, region_of, owns, free_in}
use Rattle.rules.specs.Syntax.{Side, device, Place, at}
use Rattle.rules.specs.Syntax.{Op, init, free, gate, measure, merge, new_ref, get_ref, set_ref, constant, op, if, while, call, Function, Program}
use Rattle.rules.specs.Slots.{Slot, unbound, qubit, bool, ref, slot, need_qubit, Act, quiet, takes, gives, merges, Done, perform, callable, entered, kept}
use Rattle.rules.specs.Machine.{Frame, Actual, locate, Item, run, return, Job, fresh, Move, floor, move, Stepped, stepped, step_items, step}
use Rattle.rules.specs.Run.{Turn, Machine, Told, written, started, step_of, after, final, records}
use Rattle.theory.specs.Interleaving.{turns_of, records_of}
use Rattle.rules.proofs.Tests.{eqb_true, eqb_same, eqb_other, and_left, and_right}
use Rattle.theory.proofs.Base.{get_d_set_cases, get_d_replicate_default}
use Rattle.theory.proofs.Places.{all_at, qubit_held, entered_at, entered_past}

-- 1. A job whose slots hold only its own locations acts only on its own, and goes on so.
module _ (own : ℕ → Bool) where
  abbrev pub own_slot : Slot device Bool → Bool
  own_slot unbound = true
  own_slot (qubit l) = own l.no
  own_slot (bool b) = true
  own_slot (ref b) = true

  -- every qubit of the frame is at an own location
  abbrev pub OwnFrame : Frame → Type 0
  OwnFrame φ = (x : ℕ) → own_slot (slot φ x) ≡ true

  abbrev pub OwnFrames : List Frame → Type 0
  OwnFrames [] = Unit {0}
  OwnFrames (φ ∷ φs) = OwnFrame φ × OwnFrames φs

  -- what the act takes, gives back or merges is at own locations
  abbrev pub OwnAct : Act device → Type 0
  OwnAct quiet = Unit {0}
  OwnAct (takes q l) = own l.no ≡ true
  OwnAct (gives l) = own l.no ≡ true
  OwnAct (merges b l e k) = (own l.no ≡ true) × (own k.no ≡ true)

  -- every qubit of the job's frames is at an own location
  abbrev pub OwnJob : Job → Type 0
  OwnJob J = OwnFrame J.top × OwnFrames J.below

  pub own_set : (φ : Frame) (x : ℕ) (v : Slot device Bool) → OwnFrame φ → own_slot v ≡ true → OwnFrame (set φ x v)
  own_set φ x v h k y = ⊎_elim (λ c. rw c.1 k) (λ c. rw c (h y)) (get_d_set_cases φ x y v unbound)

  pub own_set_all : (xs : List ℕ) (φ : Frame) → OwnFrame φ → OwnFrame (set_all unbound xs φ)
  own_set_all [] φ h = h
  own_set_all (x ∷ xs) φ h = own_set (set_all unbound xs φ) x unbound (own_set_all xs φ h) refl

  own_qubit : (v : Slot device Bool) (o : ℕ) → own_slot v ≡ true → Holds (λ l. own l.no ≡ true) (need_qubit v o)
  own_qubit v o h = holds_map (λ l e. sym (ap own_slot e) ∙ h) (qubit_held v o)

  own_take : (m : ℕ) (ls : List (Place device)) → all (λ l. own l.no) ls ≡ true → all (λ l. own l.no) (take m ls) ≡ true
  own_take zero ls h = refl
  own_take (suc m) [] h = refl
  own_take (suc m) (l ∷ ls) h = rw (and_left (own l.no) _ h) (own_take m ls (and_right (own l.no) _ h))

  -- a callee's frame holds qubits at own locations if all the call's locations are own, however many the arguments are
  pub own_entered : (m : ℕ) (ls : List (Place device)) → all (λ l. own l.no) ls ≡ true → OwnFrame (entered (take m ls))
  own_entered m ls h x = go (dec_lt x (length (take m ls)))
    where
      go : Dec (x < length (take m ls)) → own_slot (slot (entered (take m ls)) x) ≡ true
      go (yes d) = rw (entered_at Bool (take m ls) x d) (all_at (λ l. own l.no) (take m ls) x (own_take m ls h) d)
      go (no d) = rw (entered_past Bool (take m ls) x (omega arith))

  -- a fresh job holds no qubit
  pub own_fresh : (p : Program) → OwnJob (fresh p)
  own_fresh p = ((λ x. ap own_slot (get_d_replicate_default 32 x unbound)), tt)

module _ (R : Region) (fs : List Function) (v : Bool) (is_free : ℕ → Bool) where
  abbrev OwnDone : Done device Bool → Type 0
  OwnDone d = OwnFrame (owns R) d.slots × OwnAct (owns R) d.act

  own_perform : {s : Side} (σ : Actual s) (o : ℕ) (φ : Frame) (a : Op s) → OwnFrame (owns R) φ
      → Holds OwnDone (perform (floor R fs v is_free σ) o φ a)
  own_perform σ o φ (init q x l) h =
      holds_then (holds_any _) λ _ _. holds_then (holds_need (owns R (locate σ l).no) 13 o) λ _ p. holds_then (holds_any _) λ _ _.
      by (own_set (owns R) φ x (qubit (locate σ l)) h p, p)
  own_perform σ o φ (free x) h = holds_bind (own_qubit (owns R) (slot φ x) o (h x)) λ l p. by (own_set (owns R) φ x unbound h refl, p)
  own_perform σ o φ (gate g x) h = holds_bind (holds_any _) λ _ _. by (h, tt)
  own_perform σ o φ (measure y b x) h = holds_then (holds_any _) λ _ _. holds_bind (holds_any _) λ _ _. by (own_set (owns R) φ y (bool v) h refl, tt)
  own_perform σ o φ (merge y b x c z) h =
      holds_then (holds_any _) λ _ _. holds_bind (own_qubit (owns R) (slot φ x) o (h x)) λ _ p. holds_bind (own_qubit (owns R) (slot φ z) o (h z)) λ _ q.
      holds_then (holds_any _) λ _ _. by (own_set (owns R) φ y (bool v) h refl, (p, q))
  own_perform σ o φ (new_ref r y) h = holds_then (holds_any _) λ _ _. holds_bind (holds_any _) λ b _. by (own_set (owns R) φ r (ref b) h refl, tt)
  own_perform σ o φ (get_ref y r) h = holds_then (holds_any _) λ _ _. holds_bind (holds_any _) λ b _. by (own_set (owns R) φ y (bool b) h refl, tt)
  own_perform σ o φ (set_ref r y) h = holds_bind (holds_any _) λ _ _. holds_bind (holds_any _) λ b _. by (own_set (owns R) φ r (ref b) h refl, tt)
  own_perform σ o φ (constant y b) h = holds_then (holds_any _) λ _ _. by (own_set (owns R) φ y (bool b) h refl, tt)

  -- a call goes on only where all its locations are inside
  own_callable : {s : Side} (σ : Actual s) (o : ℕ) (φ : Frame) (ls : List (Place device)) (xs : List ℕ)
      → Holds (λ u. all (λ l. owns R l.no) ls ≡ true) (callable (floor R fs v is_free σ) o φ ls xs)
  own_callable σ o φ ls xs =
      holds_then (holds_need (all (λ l. owns R l.no) ls) 13 o) λ _ p. holds_then (holds_any _) λ _ _. holds_then (holds_any _) λ _ _.
      holds_map (λ _ _. p) (holds_any _)

  abbrev OwnMove : Move → Type 0
  OwnMove m = OwnJob (owns R) m.next × OwnAct (owns R) m.act

  own_move : (φ : Frame) (φs : List Frame) (i : Item) (rest : List Item) → OwnFrame (owns R) φ → OwnFrames (owns R) φs
      → Holds OwnMove (move R fs v is_free φ φs i rest)
  own_move φ φs (run σ (op o a)) rest h hs = holds_bind (own_perform σ o φ a h) λ d p. holds_bind (holds_any _) λ _ _. by ((p.0, hs), p.1)
  own_move φ φs (run σ (if o y b c)) rest h hs = holds_bind (holds_any _) λ _ _. by ((h, hs), tt)
  own_move φ φs (run σ (while o r b)) rest h hs = holds_bind (holds_any _) λ _ _. by ((h, hs), tt)
  own_move φ φs (run σ (call o f ls xs)) rest h hs =
      holds_then (own_callable σ o φ (map (locate σ) ls) xs) λ _ p. by ((own_entered (owns R) (length xs) (map (locate σ) ls) p, (h, hs)), tt)
  own_move φ [] (return o ls xs) rest h hs = by ((h, tt), tt)
  own_move φ (χ ∷ φs) (return o ls xs) rest h hs = by ((own_set_all (owns R) (without (kept φ (at ls) (length xs)) xs) χ hs.0, hs.1), tt)

  own_stepped : (J : Job) (o : ℕ) (m : Check Move) → OwnJob (owns R) J → Holds OwnMove m
      → OwnJob (owns R) (stepped J o m).next × OwnAct (owns R) (stepped J o m).act
  own_stepped J o (refused r) h k = (h, tt)
  own_stepped J o (ok m) h (by k) = k

  own_items : (φ : Frame) (φs : List Frame) (is : List Item) → OwnFrame (owns R) φ → OwnFrames (owns R) φs
      → OwnJob (owns R) (step_items R fs v is_free φ φs is).next × OwnAct (owns R) (step_items R fs v is_free φ φs is).act
  own_items φ φs [] h hs = ((h, hs), tt)
  own_items φ φs (i ∷ is) h hs = own_stepped _ _ _ (h, hs) (own_move φ φs i is h hs)

  -- whatever is said to be free
  pub own_step : (J : Job) → OwnJob (owns R) J → OwnJob (owns R) (step R fs v is_free J).next × OwnAct (owns R) (step R fs v is_free J).act
  own_step J h = own_items J.top J.below J.items h.0 h.1

-- 2. Who owns a location
-- a location of a job's region is one of the device, and the job owns it
pub owns_owner : (ws : List ℕ) (j l : ℕ) → get_or (map (λ w. eqb w j) ws) l false ≡ true → (l < length ws) × (get_or ws l 0 ≡ j)
owns_owner [] j l h = absurd (false≢true h)
owns_owner (w ∷ ws) j zero h = (omega arith, eqb_true w j h)
owns_owner (w ∷ ws) j (suc l) h = let r : (l < length ws) × (get_or ws l 0 ≡ j) = owns_owner ws j l h in (let k : l < length ws = r.0 in omega arith, r.1)

-- and no other job
pub owns_other : (ws : List ℕ) (i j l : ℕ) → i ≢ j → get_or (map (λ w. eqb w j) ws) l false ≡ true
    → get_or (map (λ w. eqb w i) ws) l false ≡ false
owns_other [] i j l n h = refl
owns_other (w ∷ ws) i j zero n h = eqb_other w i (λ e. n (sym e ∙ eqb_true w j h))
owns_other (w ∷ ws) i j (suc l) n h = owns_other ws i j l n h

-- 3. The part of the map that belongs to one job, and 0 elsewhere
abbrev pub part : List ℕ → ℕ → List ℕ → List ℕ
part [] j occ = []
part (w ∷ ws) j [] = []
part (w ∷ ws) j (x ∷ occ) = chosen (eqb w j) x 0 ∷ part ws j occ

pub part_set_own : (ws : List ℕ) (j : ℕ) (occ : List ℕ) (l x : ℕ) → get_or (map (λ w. eqb w j) ws) l false ≡ true
    → part ws j (set occ l x) ≡ set (part ws j occ) l x
part_set_own [] j occ l x h = refl
part_set_own (w ∷ ws) j [] l x h = refl
part_set_own (w ∷ ws) j (y ∷ occ) zero x h = rw h
part_set_own (w ∷ ws) j (y ∷ occ) (suc l) x h = ap (λ r. chosen (eqb w j) y 0 ∷ r) (part_set_own ws j occ l x h)

pub part_set_other : (ws : List ℕ) (j : ℕ) (occ : List ℕ) (l x : ℕ) → get_or (map (λ w. eqb w j) ws) l false ≡ false
    → part ws j (set occ l x) ≡ part ws j occ
part_set_other [] j occ l x h = refl
part_set_other (w ∷ ws) j [] l x h = refl
part_set_other (w ∷ ws) j (y ∷ occ) zero x h = rw h
part_set_other (w ∷ ws) j (y ∷ occ) (suc l) x h = ap (λ r. chosen (eqb w j) y 0 ∷ r) (part_set_other ws j occ l x h)

-- the free locations of a region are read off its part
pub part_free : (ws : List ℕ) (j : ℕ) (occ : List ℕ) (l : ℕ) → length ws ≡ length occ
    → (get_or (map (λ w. eqb w j) ws) l false && eqb (get_or (part ws j occ) l 0) 0) ≡ (get_or (map (λ w. eqb w j) ws) l false && eqb (get_or occ l 0) 0)
part_free [] j occ l h = refl
part_free (w ∷ ws) j [] l h = absurd (omega arith)
part_free (w ∷ ws) j (x ∷ occ) zero h = go (eqb w j)
  where
    go : (b : Bool) → (b && eqb (chosen b x 0) 0) ≡ (b && eqb x 0)
    go true = refl
    go false = refl
part_free (w ∷ ws) j (x ∷ occ) (suc l) h = part_free ws j occ l (omega arith)

-- what stands at a location of the part, and how long it is
pub get_d_part : (ws : List ℕ) (j : ℕ) (occ : List ℕ) (l : ℕ) → length ws ≡ length occ
    → get_or (part ws j occ) l 0 ≡ chosen (get_or (map (λ w. eqb w j) ws) l false) (get_or occ l 0) 0
get_d_part [] j occ l h = refl
get_d_part (w ∷ ws) j [] l h = absurd (omega arith)
get_d_part (w ∷ ws) j (x ∷ occ) zero h = refl
get_d_part (w ∷ ws) j (x ∷ occ) (suc l) h = get_d_part ws j occ l (omega arith)

pub length_part : (ws : List ℕ) (j : ℕ) (occ : List ℕ) → length ws ≡ length occ → length ws ≡ length (part ws j occ)
length_part [] j occ h = refl
length_part (w ∷ ws) j [] h = h
length_part (w ∷ ws) j (x ∷ occ) h = ap suc (length_part ws j occ (omega arith))

-- maps of one length with equal parts are equal
part_ext : (ws xs ys : List ℕ) → length ws ≡ length xs → length ws ≡ length ys → ((j : ℕ) → part ws j xs ≡ part ws j ys) → xs ≡ ys
part_ext [] [] [] h k e = refl
part_ext [] [] (y ∷ ys) h k e = absurd (omega arith)
part_ext [] (x ∷ xs) ys h k e = absurd (omega arith)
part_ext (w ∷ ws) [] ys h k e = absurd (omega arith)
part_ext (w ∷ ws) (x ∷ xs) [] h k e = absurd (omega arith)
part_ext (w ∷ ws) (x ∷ xs) (y ∷ ys) h k e =
    let tails : xs ≡ ys = part_ext ws xs ys (omega arith) (omega arith) (λ j. tail-eq_of_cons-eq (e j)) in
    let heads : x ≡ y = rw (eqb_same w) at (head-eq_of_cons-eq (e w)) in
    cc

-- 4. What one job sees, and its steps over what it sees
pub record View : Type 0 where
  pub mine : List ℕ
  pub job : Job

length_written : (j : ℕ) (a : Act device) (occ : List ℕ) → length (written j a occ) ≡ length occ
length_written j quiet occ = refl
length_written j (takes q l) occ = length-set occ l.no j
length_written j (gives l) occ = length-set occ l.no 0
length_written j (merges b l e k) occ = refl

chosen_same : {A : Type 0} (j : ℕ) (a b : A) → chosen (eqb j j) a b ≡ a
chosen_same j a b = rw (eqb_same j)

chosen_other : {A : Type 0} (i j : ℕ) (a b : A) → i ≢ j → chosen (eqb i j) a b ≡ b
chosen_other i j a b n = rw (eqb_other i j n)

view_path : {a b : List ℕ} {J K : Job} → a ≡ b → J ≡ K → ◌≡◌ {A = View} (record { mine = a; job = J }) (record { mine = b; job = K })
view_path p q = λ i. record { mine = p i; job = q i }

-- a byte of the map is 0 or the location's owner
abbrev pub Byte : Device → List ℕ → ℕ → Type 0
Byte D occ l = (get_or occ l 0 ≡ 0) ⊎ (get_or occ l 0 ≡ get_or D.owners l 0)

module _ (D : Device) (programs : ℕ → Program) where
  abbrev pub view : ℕ → Machine → View
  view j M = record { mine = part D.owners j M.occupancy; job = M.jobs j }

  -- a step of job j with outcome v over what it sees: its result, and what the job sees then
  abbrev pub view_step : ℕ → Bool → View → Stepped
  view_step j v W = step (region_of D j) (programs j).functions v (free_in (region_of D j) W.mine) W.job

  abbrev pub view_after : ℕ → Bool → View → View
  view_after j v W = record { mine = written j (view_step j v W).act W.mine; job = (view_step j v W).next }

  -- the turns of a list, all taken as turns of job j
  abbrev pub view_final : ℕ → List Turn → View → View
  view_final j [] W = W
  view_final j (t ∷ ts) W = view_final j ts (view_after j t.outcome W)

  abbrev pub view_records : ℕ → List Turn → View → List Told
  view_records j [] W = []
  view_records j (t ∷ ts) W = record { job = j; told = (view_step j t.outcome W).answer } ∷ view_records j ts (view_after j t.outcome W)

  -- 5. What every machine of a run has: a byte of the map for each location, which is 0 or the location's owner; and jobs with their own locations only
  pub record Sound (M : Machine) : Type 0 where
    pub fits : length D.owners ≡ length M.occupancy
    pub bytes : (l : ℕ) → Byte D M.occupancy l
    pub own : (j : ℕ) → OwnJob (owns (region_of D j)) (M.jobs j)

  pub sound_started : Sound (started D programs)
  sound_started = record {
    fits = sym (length-replicate (length D.owners) 0);
    bytes = λ l. inl (get_d_replicate_default (length D.owners) l 0);
    own = λ j. own_fresh (owns (region_of D j)) (programs j);
  }

  -- at the start a job sees a map of zeros, and all its own locations are free
  part_zeros : (ws : List ℕ) (j : ℕ) → part ws j (replicate (length ws) 0) ≡ replicate (length ws) 0
  part_zeros [] j = refl
  part_zeros (w ∷ ws) j = λ i. first (eqb w j) i ∷ part_zeros ws j i
    where
      first : (b : Bool) → chosen b zero zero ≡ zero
      first true = refl
      first false = refl

  pub view_started : (j : ℕ) → view j (started D programs) ≡ record { mine = replicate (length D.owners) 0; job = fresh (programs j) }
  view_started j = view_path (part_zeros D.owners j) refl

  and_true : (b : Bool) → (b && true) ≡ b
  and_true true = refl
  and_true false = refl

  pub free_started : (j l : ℕ) → free_in (region_of D j) (replicate (length D.owners) 0) l ≡ owns (region_of D j) l
  free_started j l = ap (λ x. owns (region_of D j) l && eqb x 0) (get_d_replicate_default (length D.owners) l 0) ∙ and_true (owns (region_of D j) l)

  turn_own : (t : Turn) (M : Machine) → Sound M
      → OwnJob (owns (region_of D t.job)) (step_of D programs t M).next × OwnAct (owns (region_of D t.job)) (step_of D programs t M).act
  turn_own t M S =
      let R : Region = region_of D t.job in
      own_step R (programs t.job).functions t.outcome (free_in R M.occupancy) (M.jobs t.job) (S.own t.job)

  pub own_step_of : (t : Turn) (M : Machine) → Sound M → OwnJob (owns (region_of D t.job)) (step_of D programs t M).next
  own_step_of t M S = (turn_own t M S).0

  pub acts_own : (t : Turn) (M : Machine) → Sound M → OwnAct (owns (region_of D t.job)) (step_of D programs t M).act
  acts_own t M S = (turn_own t M S).1

  bytes_written : (j : ℕ) (a : Act device) (occ : List ℕ) → OwnAct (owns (region_of D j)) a → ((l : ℕ) → Byte D occ l) → (l : ℕ)
      → Byte D (written j a occ) l
  bytes_written j quiet occ h b l = b l
  bytes_written j (takes q k) occ h b l = ⊎_elim
      (λ c. inr (c.1 ∙ sym (owns_owner D.owners j k.no h).1 ∙ ap (λ x. get_or D.owners x 0) (sym c.0)))
      (λ c. rw c (b l))
      (get_d_set_cases occ k.no l j 0)
  bytes_written j (gives k) occ h b l = ⊎_elim (λ c. inl c.1) (λ c. rw c (b l)) (get_d_set_cases occ k.no l 0 0)
  bytes_written j (merges d l e k) occ h b m = b m

  pub sound_after : (t : Turn) (M : Machine) → Sound M → Sound (after D programs t M)
  sound_after t M S = record {
    fits = S.fits ∙ sym (length_written t.job (step_of D programs t M).act M.occupancy);
    bytes = bytes_written t.job (step_of D programs t M).act M.occupancy (acts_own t M S) S.bytes;
    own = λ i. go i (ℕ_discrete i t.job);
  }
    where
      go : (i : ℕ) → Dec (i ≡ t.job) → OwnJob (owns (region_of D i)) ((after D programs t M).jobs i)
      go i (yes e) = rw (e, eqb_same t.job) (own_step_of t M S)
      go i (no n) = rw (eqb_other i t.job n) (S.own i)

  pub sound_final : (ts : List Turn) (M : Machine) → Sound M → Sound (final D programs ts M)
  sound_final [] M S = S
  sound_final (t ∷ ts) M S = sound_final ts _ (sound_after t M S)

  -- The same of what job j sees: a byte of its part is 0, or j at an own location.
  abbrev OwnByte : ℕ → List ℕ → ℕ → Type 0
  OwnByte j occ l = (get_or occ l 0 ≡ 0) ⊎ ((get_or occ l 0 ≡ j) × (owns (region_of D j) l ≡ true))

  pub record SoundView (j : ℕ) (W : View) : Type 0 where
    pub fits : length D.owners ≡ length W.mine
    pub bytes : (l : ℕ) → OwnByte j W.mine l
    pub own : OwnJob (owns (region_of D j)) W.job

  pub sound_view : (j : ℕ) (M : Machine) → Sound M → SoundView j (view j M)
  sound_view j M S = record {
    fits = length_part D.owners j M.occupancy S.fits;
    bytes = λ l. go l (owns (region_of D j) l) refl (S.bytes l);
    own = S.own j;
  }
    where
      go : (l : ℕ) (b : Bool) → owns (region_of D j) l ≡ b → Byte D M.occupancy l → OwnByte j (view j M).mine l
      go l true e (inl z) = inl (get_d_part D.owners j M.occupancy l S.fits ∙ ap (λ b. chosen b (get_or M.occupancy l 0) 0) e ∙ z)
      go l true e (inr z) =
          let mine = get_d_part D.owners j M.occupancy l S.fits ∙ ap (λ b. chosen b (get_or M.occupancy l 0) 0) e in
          inr (mine ∙ z ∙ (owns_owner D.owners j l e).1, e)
      go l false e z = inl (get_d_part D.owners j M.occupancy l S.fits ∙ ap (λ b. chosen b (get_or M.occupancy l 0) 0) e)

  own_bytes_written : (j : ℕ) (a : Act device) (occ : List ℕ) → OwnAct (owns (region_of D j)) a → ((l : ℕ) → OwnByte j occ l)
      → (l : ℕ) → OwnByte j (written j a occ) l
  own_bytes_written j quiet occ h b l = b l
  own_bytes_written j (takes q k) occ h b l = ⊎_elim (λ c. inr (c.1, rw c.0 h)) (λ c. rw c (b l)) (get_d_set_cases occ k.no l j 0)
  own_bytes_written j (gives k) occ h b l = ⊎_elim (λ c. inl c.1) (λ c. rw c (b l)) (get_d_set_cases occ k.no l 0 0)
  own_bytes_written j (merges d l e k) occ h b m = b m

  pub sound_view_after : (j : ℕ) (v : Bool) (W : View) → SoundView j W → SoundView j (view_after j v W)
  sound_view_after j v W S =
      let p : OwnJob (owns (region_of D j)) (view_step j v W).next × OwnAct (owns (region_of D j)) (view_step j v W).act
      = own_step (region_of D j) (programs j).functions v (free_in (region_of D j) W.mine) W.job S.own in
      record {
        fits = S.fits ∙ sym (length_written j (view_step j v W).act W.mine);
        bytes = own_bytes_written j (view_step j v W).act W.mine p.1 S.bytes;
        own = p.0;
      }

  -- 6. What a step gives depends on what its job sees alone: the part of the map says which of the region's locations are free.
  pub same_free : (j : ℕ) (M : Machine) → Sound M → free_in (region_of D j) (view j M).mine ≡ free_in (region_of D j) M.occupancy
  same_free j M S = fun_ext (λ l. part_free D.owners j M.occupancy l S.fits)

  pub same_step : (t : Turn) (M : Machine) → Sound M → view_step t.job t.outcome (view t.job M) ≡ step_of D programs t M
  same_step t M S = ap (λ f. step (region_of D t.job) (programs t.job).functions t.outcome f (M.jobs t.job)) (same_free t.job M S)

  part_written : (j : ℕ) (a : Act device) (occ : List ℕ) → OwnAct (owns (region_of D j)) a
      → part D.owners j (written j a occ) ≡ written j a (part D.owners j occ)
  part_written j quiet occ h = refl
  part_written j (takes q l) occ h = part_set_own D.owners j occ l.no j h
  part_written j (gives l) occ h = part_set_own D.owners j occ l.no 0 h
  part_written j (merges b l e k) occ h = refl

  part_written_other : (i j : ℕ) (a : Act device) (occ : List ℕ) → i ≢ j → OwnAct (owns (region_of D j)) a
      → part D.owners i (written j a occ) ≡ part D.owners i occ
  part_written_other i j quiet occ n h = refl
  part_written_other i j (takes q l) occ n h = part_set_other D.owners i occ l.no j (owns_other D.owners i j l.no n h)
  part_written_other i j (gives l) occ n h = part_set_other D.owners i occ l.no 0 (owns_other D.owners i j l.no n h)
  part_written_other i j (merges b l e k) occ n h = refl

  -- a step of a job is a step over what that job sees ..
  pub view_same : (t : Turn) (M : Machine) → Sound M → view t.job (after D programs t M) ≡ view_after t.job t.outcome (view t.job M)
  view_same t M S =
      view_path
      (part_written t.job (step_of D programs t M).act M.occupancy (acts_own t M S)
      ∙ ap (λ s. written t.job s.act (part D.owners t.job M.occupancy)) (sym (same_step t M S)))
      (chosen_same t.job (step_of D programs t M).next (M.jobs t.job) ∙ ap (λ s. s.next) (sym (same_step t M S)))

  -- .. and changes nothing that another job sees
  pub view_other : (i : ℕ) (t : Turn) (M : Machine) → i ≢ t.job → Sound M → view i (after D programs t M) ≡ view i M
  view_other i t M n S =
      view_path
      (part_written_other i t.job (step_of D programs t M).act M.occupancy n (acts_own t M S))
      (chosen_other i t.job (step_of D programs t M).next (M.jobs i) n)

  -- 7. So what a job sees at the end, and its records, are those of its own turns over what it saw at the start.
  one_own : (i : ℕ) (t : Turn) (us : List Turn) (M : Machine) → Sound M → i ≡ t.job
      → view_final i us (view i (after D programs t M)) ≡ view_final i (chosen (eqb t.job i) (t ∷ us) us) (view i M)
  one_own i t us M S e =
      let j : ℕ = t.job in
      rw e (ap (λ w. view_final j us w) (view_same t M S) ∙ ap (λ b. view_final j (chosen b (t ∷ us) us) (view j M)) (sym (eqb_same j)))

  one_other : (i : ℕ) (t : Turn) (us : List Turn) (M : Machine) → Sound M → i ≢ t.job
      → view_final i us (view i (after D programs t M)) ≡ view_final i (chosen (eqb t.job i) (t ∷ us) us) (view i M)
  one_other i t us M S n = rw (eqb_other t.job i (λ e. n (sym e))) (ap (λ w. view_final i us w) (view_other i t M n S))

  pub view_of_final : (i : ℕ) (ts : List Turn) (M : Machine) → Sound M → view i (final D programs ts M) ≡ view_final i (turns_of i ts) (view i M)
  view_of_final i [] M S = refl
  view_of_final i (t ∷ ts) M S =
      view_of_final i ts (after D programs t M) (sound_after t M S)
      ∙ elim (ℕ_discrete i t.job) [ yes e ↦ one_own i t (turns_of i ts) M S e | no n ↦ one_other i t (turns_of i ts) M S n ]

  -- the record of a turn
  abbrev told_by : Turn → Machine → Told
  told_by t M = record { job = t.job; told = (step_of D programs t M).answer }

  told_own : (i : ℕ) (t : Turn) (us : List Turn) (rs : List Told) (M : Machine) → Sound M → i ≡ t.job
      → rs ≡ view_records i us (view i (after D programs t M))
      → chosen (eqb t.job i) (told_by t M ∷ rs) rs ≡ view_records i (chosen (eqb t.job i) (t ∷ us) us) (view i M)
  told_own i t us rs M S e h =
      let k : rs ≡ view_records t.job us (view t.job (after D programs t M)) = rw e at h in
      let later = k ∙ ap (λ w. view_records t.job us w) (view_same t M S) in
      rw e (rw (eqb_same t.job) (λ x. record { job = t.job; told = (sym (same_step t M S) x).answer } ∷ later x))

  told_other : (i : ℕ) (t : Turn) (us : List Turn) (rs : List Told) (M : Machine) → Sound M → i ≢ t.job
      → rs ≡ view_records i us (view i (after D programs t M))
      → chosen (eqb t.job i) (told_by t M ∷ rs) rs ≡ view_records i (chosen (eqb t.job i) (t ∷ us) us) (view i M)
  told_other i t us rs M S n h = rw (eqb_other t.job i (λ e. n (sym e))) (h ∙ ap (λ w. view_records i us w) (view_other i t M n S))

  pub records_of_lem : (i : ℕ) (ts : List Turn) (M : Machine) → Sound M → records_of i (records D programs ts M) ≡ view_records i (turns_of i ts) (view i M)
  records_of_lem i [] M S = refl
  records_of_lem i (t ∷ ts) M S = go (ℕ_discrete i t.job) (records_of_lem i ts (after D programs t M) (sound_after t M S))
    where
      go : Dec (i ≡ t.job) → records_of i (records D programs ts (after D programs t M)) ≡ view_records i (turns_of i ts) (view i (after D programs t M))
          → records_of i (records D programs (t ∷ ts) M) ≡ view_records i (turns_of i (t ∷ ts)) (view i M)
      go (yes e) h = told_own i t (turns_of i ts) _ M S e h
      go (no n) h = told_other i t (turns_of i ts) _ M S n h

  -- 8. Two schedules that give each job the same turns in the same order end alike.
  pub record Ends (ts us : List Turn) (M : Machine) : Type 0 where
    pub device : (final D programs ts M).occupancy ≡ (final D programs us M).occupancy
    pub jobs : (final D programs ts M).jobs ≡ (final D programs us M).jobs
    pub told : (j : ℕ) → records_of j (records D programs ts M) ≡ records_of j (records D programs us M)

  pub isolation : (ts us : List Turn) (M : Machine) → Sound M → ((j : ℕ) → turns_of j ts ≡ turns_of j us) → Ends ts us M
  isolation ts us M S e =
      let same : (j : ℕ) → view j (final D programs ts M) ≡ view j (final D programs us M)
      = λ j. view_of_final j ts M S ∙ ap (λ vs. view_final j vs (view j M)) (e j) ∙ sym (view_of_final j us M S) in
      record {
        device = part_ext D.owners _ _ (sound_final ts M S).fits (sound_final us M S).fits (λ j. ap (λ w. w.mine) (same j));
        jobs = fun_ext (λ j. ap (λ w. w.job) (same j));
        told = λ j. records_of_lem j ts M S ∙ ap (λ vs. view_records j vs (view j M)) (e j) ∙ sym (records_of_lem j us M S);
      }
