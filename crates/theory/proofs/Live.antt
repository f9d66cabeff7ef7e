-- An accepted job that has finished occupies as many locations as are left live. What is free on the device when it has finished is what Figure 12 ends
-- with (`rest_end`), and that is what main's last environment has as free (`walk_leaves`). That environment is linear: a location of the region is free in
-- it or held by one slot. So the bytes of the job on the map and the slots that hold a qubit pair off, a slot at a time.
use mathlib.Core.Bool.{Bool, true, false, not, ◌&&◌, false≢true}
use mathlib.Core.List.{List, [], ◌∷◌, map}
use mathlib.Core.Logic.{◌≢◌, ⊎_elim}
use mathlib.Core.Path.{◌≡◌, refl, sym, ap, subst, ◌∙◌}
use native.Mathlib.Decide.{ℕ_discrete}
use native.Mathlib.Omega.{arith}
use Prim.Native.Nat.{ℕ, zero, suc, ◌+◌, ◌≤◌, ◌<◌}
use lib.Dec.{eqb}
use lib.ListN.{get_or, set, length, length-map, length-set}
use lib.Seq.{get_or-set_same, get_or-set_other}
use Rattle.answers.specs.Check.{Check, ok, refused}
use Rattle.answers.proofs.Laws.{holds_at}
use Rattle.rules.specs.Basics.{how_many}
use Rattle.rules.specs.Device.{Device}
use Rattle.rules.specs.Region.{Region, region_of, owns, free_in}
use Rattle.rules.specs.Syntax.{device, Place, Program}
use Rattle.rules.specs.Slots.{Slot, unbound, qubit, bool, ref, slot, holds_no_qubit, Act, quiet, takes, gives, merges}
use Rattle.rules.specs.Commands.{Commands}
use Rattle.rules.specs.Typing.{Env, Typed, after_act, main_context, type_program, live_in}
use Rattle.rules.specs.Figures.{ProgramRule}
use Rattle.rules.specs.Run.{Turn, Machine, written, started, final}
use Rattle.rules.proofs.Tests.{eqb_same, eqb_other, and_right}
use Rattle.theory.specs.WellRead.{ProgramRead}
use Rattle.theory.specs.Exact.{Derives}
use Rattle.theory.specs.Interleaving.{turns_of}
use Rattle.theory.specs.Tidy.{bytes_of}
use Rattle.theory.specs.Live.{LiveAtEnd, LiveWhere}
use Rattle.theory.proofs.Base.{true_in_range, how_many_set, get_d_set_default}
use Rattle.theory.proofs.Places.{Once, unbound_qubit, same_qubit}
use Rattle.theory.proofs.WellRead.{well_read}
use Rattle.theory.proofs.Linear.{Linear, AllEnd, linear_start, linear_main, functions_end}
use Rattle.theory.proofs.ExactTyping.{exact_typing}
use Rattle.theory.proofs.WalkDecides.{walk_leaves}
use Rattle.theory.proofs.ExactCheck.{judged_sound}
use Rattle.theory.proofs.Isolation.{OwnAct, own_step, owns_owner, View, view, view_step, view_after, view_final, view_of_final}
use Rattle.theory.proofs.Isolation.{Sound, sound_started, sound_final, same_free}
use Rattle.theory.proofs.Safety.{rest_end}
use Rattle.theory.proofs.NeverStuck.{TypedView, typed_after, typed_started, started_free}

-- 1. Slots against bytes: each qubit sits on a byte of its own that is the job, and each byte that is the job has a qubit on it.
module _ (j : ℕ) (pos : 1 ≤ j) where
  record Paired {B : Type 0} (φ : List (Slot device B)) (occ : List ℕ) : Type 0 where
    pub once : Once φ
    pub on_map : (x : ℕ) (l : Place device) → slot φ x ≡ qubit l → (l.no < length occ) × (get_or occ l.no 0 ≡ j)
    pub held : (l : Place device) → get_or occ l.no 0 ≡ j → (x : ℕ) × (slot φ x ≡ qubit l)

  none_held : (occ : List ℕ) → ((l : ℕ) → get_or occ l 0 ≢ j) → bytes_of j occ ≡ 0
  none_held [] n = refl
  none_held (b ∷ occ) n = let r = none_held occ (λ l. n (suc l)) in rw (eqb_other b j (n 0)) (omega arith)

  module _ {B : Type 0} (φ : List (Slot device B)) (occ : List ℕ) where
    -- a slot that holds no qubit
    past : (v : Slot device B) → holds_no_qubit v ≡ true → Paired (v ∷ φ) occ → Paired φ occ
    past v h T = record {
      once = λ x y l k p q e. let z : suc x ≡ suc y = T.once (suc x) (suc y) l k p q e in omega arith;
      on_map = λ x l p. T.on_map (suc x) l p;
      held = λ l p. later l (T.held l p);
    }
      where
        later : (l : Place device) → (x : ℕ) × (slot (v ∷ φ) x ≡ qubit l) → (x : ℕ) × (slot φ x ≡ qubit l)
        later l (zero, p) = absurd (false≢true (sym (ap holds_no_qubit p) ∙ h))
        later l (suc x, p) = (x, p)

    -- a slot with a qubit goes with its byte
    pair_off : (k : Place device) → Paired (qubit k ∷ φ) occ → Paired φ (set occ k.no 0)
    pair_off k T = record {
      once = λ x y l m p q e. let z : suc x ≡ suc y = T.once (suc x) (suc y) l m p q e in omega arith;
      on_map = λ x l p. let o = T.on_map (suc x) l p in
          (omega (arith, o.0, length-set occ k.no 0), get_or-set_other occ k.no l.no 0 0 (apart x l p) ∙ o.1);
      held = λ l p. later l p (ℕ_discrete l.no k.no);
    }
      where
        apart : (x : ℕ) (l : Place device) → slot φ x ≡ qubit l → l.no ≢ k.no
        apart x l p e = let z : suc x ≡ 0 = T.once (suc x) 0 l k p refl e in omega arith

        later : (l : Place device) → get_or (set occ k.no 0) l.no 0 ≡ j → Dec (l.no ≡ k.no) → (x : ℕ) × (slot φ x ≡ qubit l)
        later l p (yes e) =
            let z : 0 ≡ j = sym (get_d_set_default occ k.no 0) ∙ ap (λ (n : ℕ). get_or (set occ k.no 0) n 0) (sym e) ∙ p in
            absurd (omega arith)
        later l p (no n) = there (T.held l (sym (get_or-set_other occ k.no l.no 0 0 n) ∙ p))
          where
            there : (x : ℕ) × (slot (qubit k ∷ φ) x ≡ qubit l) → (x : ℕ) × (slot φ x ≡ qubit l)
            there (zero, q) = absurd (n (ap (λ (m : Place device). m.no) (same_qubit (qubit k) l k q refl)))
            there (suc x, q) = (x, q)

  as_many : {B : Type 0} (φ : List (Slot device B)) (occ : List ℕ) → Paired φ occ → bytes_of j occ ≡ how_many (λ v. not (holds_no_qubit v)) φ
  as_many [] occ T = none_held occ (λ l e. unbound_qubit unbound (record { no = l }) refl (T.held (record { no = l }) e).1)
  as_many (unbound ∷ φ) occ T = let r = as_many φ occ (past φ occ unbound refl T) in omega arith
  as_many (bool b ∷ φ) occ T = let r = as_many φ occ (past φ occ (bool b) refl T) in omega arith
  as_many (ref b ∷ φ) occ T = let r = as_many φ occ (past φ occ (ref b) refl T) in omega arith
  as_many (qubit k ∷ φ) occ T =
      let here = T.on_map 0 k refl in
      let one = how_many_set (λ b. eqb b j) occ k.no 0 0 here.0 in
      let less : bytes_of j (set occ k.no 0) + 1 ≡ bytes_of j occ + 0 = rw (here.1, eqb_same j, eqb_other 0 j (λ e. omega arith)) at one in
      let rest = as_many φ (set occ k.no 0) (pair_off φ occ k T) in
      omega arith

-- 2. What is free on the device is free in typing's list too, as far as this job sees: its acts write both alike. (Number 0 is no job: its init would
-- leave the byte at 0.)
module _ (R : Region) (j : ℕ) (pos : 1 ≤ j) where
  abbrev OnlyFree : List Bool → List ℕ → Type 0
  OnlyFree L occ = (l : ℕ) → free_in R occ l ≡ true → get_or L l false ≡ true

  free_before : (occ : List ℕ) (k x l : ℕ) → l ≢ k → free_in R (set occ k x) l ≡ true → free_in R occ l ≡ true
  free_before occ k x l n h = ap (λ y. owns R l && eqb y 0) (sym (get_or-set_other occ k l x 0 n)) ∙ h

  -- a location where the job was put is not free
  not_free : (occ : List ℕ) (k : ℕ) → k < length occ → free_in R (set occ k j) k ≡ true → ⊥
  not_free occ k r h =
      let b : eqb j 0 ≡ true = ap (λ y. eqb y 0) (sym (get_or-set_same occ k j 0 r)) ∙ and_right (owns R k) _ h in
      false≢true (sym (eqb_other j 0 (λ e. omega arith)) ∙ b)

  only_free_after : (a : Act device) (L : List Bool) (occ : List ℕ) → OwnAct (owns R) a
      → ((k : ℕ) → owns R k ≡ true → (k < length L) × (k < length occ))
      → OnlyFree L occ → OnlyFree (after_act a L) (written j a occ)
  only_free_after quiet L occ own room F l h = F l h
  only_free_after (takes q k) L occ own room F l h = go (ℕ_discrete l k.no)
    where
      go : Dec (l ≡ k.no) → get_or (set L k.no false) l false ≡ true
      go (yes e) = absurd (not_free occ k.no (room k.no own).1 (rw e at h))
      go (no n) = get_or-set_other L k.no l false false n ∙ F l (free_before occ k.no j l n h)
  only_free_after (gives k) L occ own room F l h = go (ℕ_discrete l k.no)
    where
      go : Dec (l ≡ k.no) → get_or (set L k.no true) l false ≡ true
      go (yes e) = rw e (get_or-set_same L k.no true false (room k.no own).0)
      go (no n) = get_or-set_other L k.no l true false n ∙ F l (free_before occ k.no 0 l n h)
  only_free_after (merges b k e k') L occ own room F l h = F l h

-- 3. Over any schedule
module _ (D : Device) (programs : ℕ → Program) (j : ℕ) (pos : 1 ≤ j) (last-free : List Bool) where
  abbrev R : Region
  R = region_of D j

  record ExactView (W : View) : Type 0 where
    L : List Bool
    typed : TypedView D programs j (length R.owned) last-free W L
    only : OnlyFree R j pos L W.mine

  exact_after : (v : Bool) (W : View) → ExactView W → ExactView (view_after D programs j v W)
  exact_after v W X = record {
    L = after_act (view_step D programs j v W).act X.L;
    typed = typed_after D programs j (length R.owned) last-free v W X.L X.typed;
    only = only_free_after R j pos (view_step D programs j v W).act X.L W.mine
        (own_step R (programs j).functions v (free_in R W.mine) W.job X.typed.sound.own).1 room X.only;
  }
    where
      room : (k : ℕ) → owns R k ≡ true → (k < length X.L) × (k < length W.mine)
      room k h =
          let r = (owns_owner D.owners j k h).0 in
          (omega (arith, r, X.typed.inv.good.long, length-map D.owners (λ w. eqb w j)), omega (arith, r, X.typed.sound.fits))

  exact_final : (ts : List Turn) (W : View) → ExactView W → ExactView (view_final D programs j ts W)
  exact_final [] W X = X
  exact_final (t ∷ ts) W X = exact_final ts (view_after D programs j t.outcome W) (exact_after t.outcome W X)

owner_owns : (ws : List ℕ) (j l : ℕ) → 1 ≤ j → get_or ws l 0 ≡ j → get_or (map (λ w. eqb w j) ws) l false ≡ true
owner_owns [] j l pos e = absurd (omega arith)
owner_owns (w ∷ ws) j zero pos e = rw e (eqb_same j)
owner_owns (w ∷ ws) j (suc l) pos e = owner_owns ws j l pos e

-- 4. A derived program whose job has finished
module _ (D : Device) (programs : ℕ → Program) (j : ℕ) (pos : 1 ≤ j) (size : ℕ) (Δ : Env device) (c : Commands device)
    (read : ProgramRead size (programs j)) (A : ProgramRule (region_of D j) (programs j) Δ c) (ts : List Turn) where
  abbrev end : Machine
  end = final D programs ts (started D programs)

  abbrev at_end : View
  at_end = view D programs j end

  exact_end : ExactView D programs j pos A.left at_end
  exact_end =
      subst (λ (W : View). ExactView D programs j pos A.left W)
      (sym (view_of_final D programs j ts (started D programs) (sound_started D programs)))
      (exact_final D programs j pos A.left (turns_of j ts) (view D programs j (started D programs))
      (record {
        L = (region_of D j).owned;
        typed = typed_started D programs j size Δ c read A;
        only = λ l h. sym (started_free D programs j size Δ c read A l) ∙ h;
      }))

  sound_end : Sound D programs end
  sound_end = sound_final D programs ts (started D programs) (sound_started D programs)

  -- main's last environment
  ends_linear : Linear (main_context (region_of D j).owned A.signatures) Δ
  ends_linear =
      let H : AllEnd A.signatures = functions_end (programs j).functions read.functions A.functions tt in
      linear_main (main_context (region_of D j).owned A.signatures) _ (programs j).main A.main read.main H
      (linear_start (region_of D j).owned A.signatures)

  module _ (done : (end.jobs j).items ≡ []) where
    -- what is free on the device is what main ends with
    abbrev free : ℕ → Bool
    free = free_in (region_of D j) end.occupancy

    seen : (l : ℕ) → free_in (region_of D j) at_end.mine l ≡ free l
    seen l = ap (λ (f : ℕ → Bool). f l) (same_free D programs j end sound_end)

    list_ends : exact_end.L ≡ A.left
    list_ends = rest_end _ _ _ _ exact_end.typed.inv.rest done

    leaves : (l : ℕ) → owns (region_of D j) l ≡ true → get_or Δ.free l false ≡ get_or exact_end.L l false
    leaves l h =
        let t : Typed device = record { env = Δ; commands = c } in
        let d : Derives (region_of D j).owned (programs j) t =
        record { signatures = A.signatures; functions = A.functions; main = A.main } in
        walk_leaves (region_of D j) size (programs j) t A.left read d A.connects l (true_in_range (region_of D j).owned l h)
        ∙ ap (λ (L : List Bool). get_or L l false) (sym list_ends)

    -- a location of the region is free on the device exactly where that environment has it as free
    open_here : (l : Place device) → owns (region_of D j) l.no ≡ true → get_or Δ.free l.no false ≡ true → free l.no ≡ true
    open_here l own f = sym (seen l.no) ∙ exact_end.typed.frees l.no (sym (leaves l.no own) ∙ f)

    taken : (l : Place device) → owns (region_of D j) l.no ≡ true → get_or Δ.free l.no false ≡ false → free l.no ≡ true → ⊥
    taken l own f h = false≢true (sym f ∙ leaves l.no own ∙ exact_end.only l.no (seen l.no ∙ h))

    byte_owner : (l : ℕ) → get_or end.occupancy l 0 ≡ j → get_or D.owners l 0 ≡ j
    byte_owner l e = ⊎_elim (λ z. absurd (omega arith)) (λ o. sym o ∙ e) (sound_end.bytes l)

    -- a qubit of that environment sits on a byte that is the job ..
    byte_held : (x : ℕ) (l : Place device) → slot Δ.slots x ≡ qubit l → (l.no < length end.occupancy) × (get_or end.occupancy l.no 0 ≡ j)
    byte_held x l h =
        let own : owns (region_of D j) l.no ≡ true = ends_linear.inside x l h in
        let owner = owns_owner D.owners j l.no own in (
          omega (arith, owner.0, sound_end.fits),
          ⊎_elim
              (λ z. absurd (taken l own (ends_linear.taken x l h) (rw own (ap (λ (b : ℕ). eqb b 0) z))))
              (λ o. o ∙ owner.1)
              (sound_end.bytes l.no),
        )

    -- .. and on such a byte sits one
    held_byte : (l : Place device) → get_or end.occupancy l.no 0 ≡ j → (x : ℕ) × (slot Δ.slots x ≡ qubit l)
    held_byte l e =
        let own : owns (region_of D j) l.no ≡ true = owner_owns D.owners j l.no pos (byte_owner l.no e) in
        ⊎_elim
        (λ f. let zero-byte : eqb (get_or end.occupancy l.no 0) 0 ≡ true = and_right (owns (region_of D j) l.no) _ (open_here l own f) in
        absurd (false≢true (sym (eqb_other j 0 (λ z. omega arith)) ∙ ap (λ (b : ℕ). eqb b 0) (sym e) ∙ zero-byte)))
        (λ h. h)
        (ends_linear.covered l own)

    pub live_derived : bytes_of j end.occupancy ≡ live_in Δ
    live_derived = as_many j pos Δ.slots end.occupancy (record { once = ends_linear.once; on_map = byte_held; held = held_byte })

pub live_at_end : LiveAtEnd
live_at_end file D programs j a pos reads accepted ts done =
    let read = well_read file (programs j) reads in
    let J = holds_at (judged_sound (region_of D j) (length file) (programs j) read) accepted in
    live_derived D programs j pos (length file) J.ends J.commands read J.derived ts done ∙ J.live

-- what typing gives is one environment
ends_same : {m : Check (Typed device)} {t u : Typed device} → m ≡ ok t → m ≡ ok u → u.env ≡ t.env
ends_same {t = t} e f = ap (λ (c : Check (Typed device)). (given c).env) (sym f ∙ e)
  where
    given : Check (Typed device) → Typed device
    given (ok v) = v
    given (refused r) = t

pub live_where : LiveWhere
live_where file D programs j a t pos reads accepted typed ts done l =
    let R = region_of D j in
    let read = well_read file (programs j) reads in
    let J = holds_at (judged_sound R (length file) (programs j) read) accepted in
    let again : type_program R.owned (programs j) ≡ ok (record { env = J.ends; commands = J.commands }) =
    (exact_typing R.owned (length file) (programs j) _ read).1
    (record { signatures = J.derived.signatures; functions = J.derived.functions; main = J.derived.main }) in
    let same : J.ends ≡ t.env = ends_same typed again in (
      (λ e. subst (λ (Γ : Env device). (x : ℕ) × (slot Γ.slots x ≡ qubit l)) same
          (held_byte D programs j pos (length file) J.ends J.commands read J.derived ts done l e)),
      (λ h. (byte_held D programs j pos (length file) J.ends J.commands read J.derived ts done h.0 l
          (ap (λ (Γ : Env device). slot Γ.slots h.0) same ∙ h.1)).1),
    )
