-- What an accepted job leaves live, over the bytes of a run. A record begins with 1 only where nothing is to come, for a move is told 0 and a refusal by its
-- own number; and where nothing is to come, nothing comes later. So the job has finished at the run's end, and the map's bytes are counted by `live_at_end`.
use mathlib.Core.Bool.{Bool, true, false, ◌||◌, false≢true}
use mathlib.Core.List.{List, [], ◌∷◌, map}
use mathlib.Core.Path.{◌≡◌, refl, sym, ap, ◌∙◌}
use native.Mathlib.Omega.{arith}
use Prim.Native.Nat.{ℕ}
use lib.Dec.{eqb}
use Rattle.answers.specs.Check.{Check, ok, refused}
use Rattle.answers.specs.declared.Moved.{Moved}
use Rattle.rules.specs.Basics.{any}
use Rattle.rules.specs.Device.{Device}
use Rattle.rules.specs.Region.{Region, region_of, free_in}
use Rattle.rules.specs.Syntax.{Function, Program}
use Rattle.rules.specs.Machine.{Frame, Item, Job, Move, move, item_offset, stepped, step_items}
use Rattle.rules.specs.Run.{Turn, Told, started, final, records}
use Rattle.rules.specs.Promises.{run_of}
use Rattle.rules.proofs.Tests.{eqb_true}
use Rattle.theory.specs.Interleaving.{turns_of, records_of}
use Rattle.theory.specs.Tidy.{bytes_of}
use Rattle.theory.specs.TheRun.{turn_of, of_job, LeavesLive, LiveInRuns}
use Rattle.theory.proofs.Isolation.{View, view, view_step, view_after, view_final, view_records, view_of_final, records_of_lem, sound_started}
use Rattle.theory.proofs.Reasons.{reason_above, reason_of, Reasoned, move_reasoned}
use Rattle.theory.proofs.TheRun.{bytewise, files, its_codes, reads, accepted_here}
use Rattle.theory.proofs.OccupiedRuns.{positive, map_bytes}
use Rattle.theory.proofs.Live.{live_at_end}

-- 1. A step
module _ (R : Region) (fs : List Function) (v : Bool) (is_free : ℕ → Bool) where
  none_to_come : (φ : Frame) (φs : List Frame) (is : List Item) → (step_items R fs v is_free φ φs is).answer.code ≡ 1 → is ≡ []
  none_to_come φ φs [] h = refl
  none_to_come φ φs (i ∷ is) h = absurd (go (move R fs v is_free φ φs i is) (move_reasoned R fs v is_free φ φs i is) h)
    where
      now : Job
      now = record { top = φ; below = φs; items = i ∷ is }

      go : (m : Check Move) → Reasoned (item_offset i) m → (stepped now (item_offset i) m).answer.code ≡ 1 → ⊥
      go (ok m) r e = omega arith
      go (refused x) r e = let above = reason_above (reason_of r refl) in omega arith

  none_later : (φ : Frame) (φs : List Frame) (is : List Item) → is ≡ [] → (step_items R fs v is_free φ φs is).next.items ≡ []
  none_later φ φs [] e = refl
  none_later φ φs (i ∷ is) e = let z : ◌≡◌ {A = ℕ} 0 1 = cc in absurd (omega arith)

-- 2. Over a job's turns
module _ (D : Device) (programs : ℕ → Program) (j : ℕ) where
  abbrev Done : View → Type 0
  Done W = W.job.items ≡ []

  done_after : (v : Bool) (W : View) → Done W → Done (view_after D programs j v W)
  done_after v W e =
      none_later (region_of D j) (programs j).functions v (free_in (region_of D j) W.mine) W.job.top W.job.below W.job.items e

  done_final : (ts : List Turn) (W : View) → Done W → Done (view_final D programs j ts W)
  done_final [] W e = e
  done_final (t ∷ ts) W e = done_final ts (view_after D programs j t.outcome W) (done_after t.outcome W e)

  told_done : (ts : List Turn) (W : View) → any (eqb 1) (map (λ (r : Told). r.told.code) (view_records D programs j ts W)) ≡ true
      → Done (view_final D programs j ts W)
  told_done [] W h = absurd (false≢true h)
  told_done (t ∷ ts) W h = go (eqb 1 code) refl (λ k. told_done ts next k) h
    where
      code : ℕ
      code = (view_step D programs j t.outcome W).answer.code

      next : View
      next = view_after D programs j t.outcome W

      later : Bool
      later = any (eqb 1) (map (λ (r : Told). r.told.code) (view_records D programs j ts next))

      go : (b : Bool) → eqb 1 code ≡ b → (later ≡ true → Done (view_final D programs j ts next)) → (b || later) ≡ true
          → Done (view_final D programs j ts next)
      go true e rest k =
          let R : Region = region_of D j in
          let none = none_to_come R (programs j).functions t.outcome (free_in R W.mine) W.job.top W.job.below W.job.items
          (sym (eqb_true 1 code e)) in
          done_final ts next (done_after t.outcome W none)
      go false e rest k = rest k

-- 3. The run
module _ (device first second schedule buffer map' : List ℕ) (m : Moved) (e : (run_of device first second schedule buffer map').answer ≡ ok m) where
  abbrev D : Device
  D = (bytewise device first second schedule buffer map' m e).D

  abbrev P : ℕ → Program
  P = of_job (bytewise device first second schedule buffer map' m e).p (bytewise device first second schedule buffer map' m e).q

  abbrev ts : List Turn
  ts = map turn_of schedule

  done_at_end : (j : ℕ) → any (eqb 1) (map (λ (r : Told). r.told.code) (records_of j (records D P ts (started D P)))) ≡ true
      → ((final D P ts (started D P)).jobs j).items ≡ []
  done_at_end j h =
      let sound = sound_started D P in
      let told = ap (λ (rs : List Told). any (eqb 1) (map (λ (r : Told). r.told.code) rs)) (records_of_lem D P j ts (started D P) sound) in
      ap (λ (W : View). W.job.items) (view_of_final D P j ts (started D P) sound)
      ∙ told_done D P j (turns_of j ts) (view D P j (started D P)) (sym told ∙ h)

  leaves_live : LeavesLive device first second schedule buffer map'
  leaves_live j a h k told =
      let Told-here = sym (ap (any (eqb 1)) (its_codes device first second schedule buffer map' m e j)) ∙ told in
      let B = bytewise device first second schedule buffer map' m e in
      ap (bytes_of j) (map_bytes device first second schedule buffer map' m e D B.p B.q (files device first second schedule buffer map' m e))
      ∙ live_at_end (of_job first second j) D P j a (positive j h) (reads device first second schedule buffer map' m e j)
      (accepted_here device first second schedule buffer map' m e j a k) ts (done_at_end j Told-here)

pub live_in_runs : LiveInRuns
live_in_runs device first second schedule buffer map' m e = leaves_live device first second schedule buffer map' m e
