-- A job whose program the rules derive is never stuck, whatever the other jobs do between its steps. Its first state is typed, with all locations of
-- its region free; each of its steps keeps it typed, and keeps free on the device what typing has as free; the other jobs change nothing that it sees.
use mathlib.Core.Bool.{Bool, true, false, ◌&&◌, false≢true}
use mathlib.Core.List.{List, [], ◌∷◌}
use mathlib.Core.Logic.{◌≢◌}
use mathlib.Core.Path.{◌≡◌, refl, sym, ap, ◌∙◌}
use native.Mathlib.Decide.{ℕ_discrete}
use native.Mathlib.Nat.{add-zero}
use native.Mathlib.Omega.{arith}
use Prim.Native.Nat.{ℕ, suc, ◌+◌, ◌≤◌}
use lib.Dec.{eqb, leb}
use lib.ListN.{get_or, set, length, drop}
use lib.Seq.{get_or-set_other, get_or-drop, drop-drop}
use Rattle.rules.specs.Basics.{all}
use Rattle.rules.specs.Device.{Device}
use Rattle.rules.specs.Region.{Region, region_of, owns, free_in}
use Rattle.rules.specs.Syntax.{device, Function, function, Program}
use Rattle.rules.specs.Slots.{unbound, slot, Act, quiet, takes, gives, merges}
use Rattle.rules.specs.Commands.{Commands, commands_at}
use Rattle.rules.specs.Typing.{Env, Signature, after_act, main_context, start}
use Rattle.rules.specs.Figures.{FunctionsRule, T-NoFun, T-Fundecl, Connects, ProgramRule}
use Rattle.rules.specs.Machine.{fresh, themselves}
use Rattle.rules.specs.Run.{Turn, written, started, records}
use Rattle.theory.specs.WellRead.{FunctionsRead, none_read, function_read, ProgramRead}
use Rattle.theory.specs.Interleaving.{turns_of, records_of}
use Rattle.theory.proofs.Base.{true_in_range, get_d_set_default, get_d_replicate_default}
use Rattle.theory.proofs.Places.{at_same}
use Rattle.theory.proofs.Safety.{Known, known_none, known_more, rest_main, Inv, Fine, fine_step}
use Rattle.theory.proofs.Isolation.{OwnAct, own_step, View, view, view_step, view_after, view_records, sound_started, view_started, free_started}
use Rattle.theory.proofs.Isolation.{SoundView, sound_view, sound_view_after, records_of_lem}

-- 1. The first state of a derived program is typed.
function_at : (fs : List Function) (n : ℕ) (g : Function) (gs : List Function) → drop n fs ≡ g ∷ gs → function fs n ≡ g
function_at fs n g gs h = ap (λ i. function fs i) (sym (add-zero n)) ∙ sym (get_or-drop n fs 0 _) ∙ ap (λ r. function r 0) h

drop_tail : (fs : List Function) (n : ℕ) (g : Function) (gs : List Function) → drop n fs ≡ g ∷ gs → drop (suc n) fs ≡ gs
drop_tail fs n g gs h = let e : suc n ≡ n + 1 = omega arith in ap (λ i. drop i fs) e ∙ sym (drop-drop 1 n fs) ∙ ap (λ r. drop 1 r) h

-- a frame has room for the arguments of every function read
abbrev Roomy : List Function → Type 0
Roomy [] = Unit {0}
Roomy (g ∷ gs) = (g.m ≤ 32) × Roomy gs

read_roomy : {fs gs : List Function} {o q : ℕ} → FunctionsRead fs o gs q → Roomy gs
read_roomy none_read = tt
read_roomy (function_read k m n b r) = (omega arith, read_roomy r)

module _ (R : Region) (fs : List Function) (last-free : List Bool) where
  known_all : {rest : List Function} {gs hs : List Signature} → FunctionsRule rest gs hs → drop (length gs) fs ≡ rest → Roomy rest
      → Known R fs (length R.owned) last-free gs → Known R fs (length R.owned) last-free hs
  known_all T-NoFun h m K = K
  known_all (T-Fundecl {g = g} {fs = rest} {gs = gs} j r) h m K =
      known_all r (drop_tail fs (length gs) g rest h) m.1 (known_more K (function_at fs (length gs) g rest h) m.0 j)

first_typed : (R : Region) (p : Program) (Δ : Env device) (c : Commands device) → Roomy p.functions → (A : ProgramRule R p Δ c)
    → Inv R p.functions (length R.owned) A.left R.owned (fresh p)
first_typed R p Δ c m A =
    let w : Connects R R.owned (commands_at (λ l. l) c) A.left = rw (at_same c) A.connects in
    record {
      s = device;
      B = record { context = main_context R.owned A.signatures; actual = themselves; place = λ l. l; size = length R.owned };
      Γ = start R.owned;
      good = record {
        known = known_all R p.functions A.left A.functions refl m known_none;
        placed =
            record { agree = λ l h. refl; own = λ l h. h; range = λ l h. true_in_range R.owned l.no h; apart = λ l k h i e. e; room = λ l h. h };
        sized = refl;
        long = refl;
        fits = record { kinds_long = refl; slots_long = refl; each = λ x. rw (no_kind x, nothing x) };
        frees = λ l h. h;
      };
      rest = rest_main R p.functions (length R.owned) A.left p.main A.main w;
    }
  where
    no_kind : (x : ℕ) → slot (start R.owned).slots x ≡ unbound
    no_kind x = get_d_replicate_default 32 x unbound

    nothing : (x : ℕ) → slot (fresh p).top x ≡ unbound
    nothing x = get_d_replicate_default 32 x unbound

-- 2. What typing has as free stays free on the device
module _ (R : Region) (j : ℕ) where
  abbrev FreeOn : List Bool → List ℕ → Type 0
  FreeOn L occ = (l : ℕ) → get_or L l false ≡ true → free_in R occ l ≡ true

  free_other : (occ : List ℕ) (k x l : ℕ) → l ≢ k → free_in R occ l ≡ true → free_in R (set occ k x) l ≡ true
  free_other occ k x l n h = ap (λ y. owns R l && eqb y 0) (get_or-set_other occ k l x 0 n) ∙ h

  free_after : (a : Act device) (L : List Bool) (occ : List ℕ) → OwnAct (owns R) a → FreeOn L occ → FreeOn (after_act a L) (written j a occ)
  free_after quiet L occ own F l h = F l h
  free_after (takes q k) L occ own F l h = go (ℕ_discrete l k.no)
    where
      go : Dec (l ≡ k.no) → free_in R (set occ k.no j) l ≡ true
      go (no n) = free_other occ k.no j l n (F l (sym (get_or-set_other L k.no l false false n) ∙ h))
      go (yes e) = absurd (false≢true (sym (get_d_set_default L k.no false) ∙ rw e at h))
  free_after (gives k) L occ own F l h = go (ℕ_discrete l k.no)
    where
      go : Dec (l ≡ k.no) → free_in R (set occ k.no 0) l ≡ true
      go (no n) = free_other occ k.no 0 l n (F l (sym (get_or-set_other L k.no l true false n) ∙ h))
      go (yes e) = rw (e, own, get_d_set_default occ k.no 0)
  free_after (merges b k e k') L occ own F l h = F l h

-- 3. Over any schedule
module _ (D : Device) (programs : ℕ → Program) (j len : ℕ) (last-free : List Bool) where
  -- the job's state is typed, and these locations are free
  pub record TypedView (W : View) (L : List Bool) : Type 0 where
    pub inv : Inv (region_of D j) (programs j).functions len last-free L W.job
    pub frees : FreeOn (region_of D j) j L W.mine
    pub sound : SoundView D programs j W

  fine_view : (v : Bool) (W : View) (L : List Bool) → TypedView W L
      → Fine (region_of D j) (programs j).functions len last-free v (free_in (region_of D j) W.mine) L (view_step D programs j v W)
  fine_view v W L T =
      fine_step (region_of D j) (programs j).functions len last-free v (free_in (region_of D j) W.mine) L W.job T.frees T.inv

  pub typed_after : (v : Bool) (W : View) (L : List Bool) → TypedView W L
      → TypedView (view_after D programs j v W) (after_act (view_step D programs j v W).act L)
  typed_after v W L T = record {
    inv = (fine_view v W L T).inv;
    frees = free_after (region_of D j) j (view_step D programs j v W).act L W.mine
        (own_step (region_of D j) (programs j).functions v (free_in (region_of D j) W.mine) W.job T.sound.own).1 T.frees;
    sound = sound_view_after D programs j v W T.sound;
  }

  unstuck_view : (ts : List Turn) (W : View) (L : List Bool) → TypedView W L → all (λ r. leb r.told.code 1) (view_records D programs j ts W) ≡ true
  unstuck_view [] W L T = refl
  unstuck_view (t ∷ ts) W L T =
      rw (fine_view t.outcome W L T).unstuck (unstuck_view ts (view_after D programs j t.outcome W) _ (typed_after t.outcome W L T))

-- 4. A derived program
module _ (D : Device) (programs : ℕ → Program) (j size : ℕ) (Δ : Env device) (c : Commands device) (read : ProgramRead size (programs j))
    (A : ProgramRule (region_of D j) (programs j) Δ c) where
  -- at the start its region's locations are free, and no others
  pub started_free : (l : ℕ) → free_in (region_of D j) (view D programs j (started D programs)).mine l ≡ owns (region_of D j) l
  started_free l = ap (λ W. free_in (region_of D j) W.mine l) (view_started D programs j) ∙ free_started D programs j l

  pub typed_started : TypedView D programs j (length (region_of D j).owned) A.left (view D programs j (started D programs)) (region_of D j).owned
  typed_started = record {
    inv = first_typed (region_of D j) (programs j) Δ c (read_roomy read.functions) A;
    frees = λ l h. started_free l ∙ h;
    sound = sound_view D programs j (started D programs) (sound_started D programs);
  }

  pub never_stuck_derived : (ts : List Turn) → all (λ r. leb r.told.code 1) (records_of j (records D programs ts (started D programs))) ≡ true
  never_stuck_derived ts =
      rw (records_of_lem D programs j ts (started D programs) (sound_started D programs))
      (unstuck_view D programs j (length (region_of D j).owned) A.left (turns_of j ts) (view D programs j (started D programs)) _ typed_started)
