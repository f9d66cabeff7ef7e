-- What the bytes of an answered run say of its map and of a stuck job. The device's owners are the file's owner bytes, so a map byte, which is 0 or the
-- location's owner, is 0 or that byte. A job that is stuck at schedule byte i is stuck from there on: the schedule is the bytes before i, byte i and those
-- after it, and what stuck does to the machine is known for any turns before and after.
use mathlib.Core.Bool.{Bool, true}
use mathlib.Core.List.{List, [], ◌∷◌, ◌++◌, map}
use mathlib.Core.Logic.{inl, inr, ⊎_elim}
use mathlib.Core.Path.{◌≡◌, refl, sym, ap, ◌∙◌, subst}
use native.Mathlib.Omega.{arith}
use native.Mathlib.Nat.{add-zero}
use Prim.Native.Nat.{ℕ, zero, suc, ◌+◌, ◌-◌, ◌*◌, ◌/◌, ◌≤◌, ◌<◌}
use lib.ListN.{length, take, drop, get_or, get_or-append}
use lib.Seq.{length-take-le, take-add, drop-cons, split_at, get_or-drop, get_or-take}
use Rattle.answers.specs.Check.{ok}
use Rattle.answers.specs.declared.Moved.{Moved}
use Rattle.rules.specs.Basics.{all, byte, word}
use Rattle.rules.specs.Device.{Device}
use Rattle.rules.specs.Syntax.{Program}
use Rattle.rules.specs.Run.{Turn, Machine, started, step_of, after, final}
use Rattle.rules.specs.Promises.{Ran, run_of}
use Rattle.theory.specs.Tidy.{Stuck}
use Rattle.theory.specs.TheRun.{is_turn, turn_of, record_at, of_job, Files, MapBytes, StuckFrom, MapInRuns, StuckInRuns}
use Rattle.rules.proofs.Tests.{and_left, and_right, and_both}
use Rattle.theory.proofs.OwnerBytes.{BytesFrom, owner_bytes}
use Rattle.theory.proofs.Isolation.{sound_started, sound_final}
use Rattle.theory.proofs.Tidy.{map_byte, stuck_stays}
use Rattle.theory.proofs.TheRun.{bytewise, files, run_with}
use Rattle.theory.proofs.Records.{four_bytes, machine_at, record_in_run}

-- ---- a schedule in parts
-- the first k bytes, where k is past i
take_past : (s : List ℕ) (i k : ℕ) → i < length s → i < k → take k s ≡ take i s ++ (byte s i ∷ take (k - suc i) (drop (suc i) s))
take_past s i k h l =
    let n : k ≡ i + suc (k - suc i) = omega arith in
    ap (λ (x : ℕ). take x s) n ∙ take-add i (suc (k - suc i)) s ∙ ap (λ (t : List ℕ). take i s ++ take (suc (k - suc i)) t) (drop-cons s i 0 h)

all_take : (i : ℕ) (s : List ℕ) → all is_turn s ≡ true → all is_turn (take i s) ≡ true
all_take zero s h = refl
all_take (suc i) [] h = refl
all_take (suc i) (b ∷ s) h =
    and_both (is_turn b) (all is_turn (take i s)) (and_left (is_turn b) (all is_turn s) h) (all_take i s (and_right (is_turn b) (all is_turn s) h))

-- the turns before a byte, its own and those after it
final_parts : (D : Device) (P : ℕ → Program) (xs : List ℕ) (b : ℕ) (ys : List ℕ) (M : Machine)
    → final D P (map turn_of (xs ++ b ∷ ys)) M ≡ final D P (map turn_of ys) (after D P (turn_of b) (final D P (map turn_of xs) M))
final_parts D P [] b ys M = refl
final_parts D P (x ∷ xs) b ys M = final_parts D P xs b ys (after D P (turn_of x) M)

-- ---- a run that is answered
module _ (device first second schedule buffer map' : List ℕ) (m : Moved) (e : (run_of device first second schedule buffer map').answer ≡ ok m)
    (D : Device) (p q : Program) (F : Files device first second schedule buffer map' D p q) where
  abbrev P : ℕ → Program
  P = of_job p q

  abbrev at : ℕ → Machine
  at i = machine_at D P schedule i (started D P)

  its_owners : BytesFrom device 9 (word device 5) D.owners
  its_owners = owner_bytes device D F.device_reads

  its_turns : all is_turn schedule ≡ true
  its_turns = (bytewise device first second schedule buffer map' m e).all_turns

  -- the map that a schedule no longer than this one writes
  map_of : (s : List ℕ) → length s ≤ length schedule → all is_turn s ≡ true → (l : ℕ) → l < word device 5
      → byte (run_of device first second s buffer map').map l ≡ get_or (final D P (map turn_of s) (started D P)).occupancy l 0
  map_of s n u l h =
      let occ : List ℕ = (final D P (map turn_of s) (started D P)).occupancy in
      let fits : length D.owners ≡ length occ = (sound_final D P (map turn_of s) (started D P) (sound_started D P)).fits in
      let many : length D.owners ≡ word device 5 = its_owners.many in
      ap (λ (w : Ran). byte w.map l) (run_with device first second schedule buffer map' m e D p q F s n u)
      ∙ get_or-append occ _ 0 l (omega (arith, fits, many))

  map_bytes : MapBytes device first second schedule buffer map'
  map_bytes l h =
      let here = map_of schedule (omega arith) its_turns l h in
      ⊎_elim (λ z. inl (here ∙ z)) (λ o. inr (here ∙ o ∙ its_owners.each l h)) (map_byte D P (map turn_of schedule) l)

  -- a record's first byte is its step's code
  code_at : (i : ℕ) → i < length schedule
      → byte (run_of device first second schedule buffer map').records (4 * i) ≡ (step_of D P (turn_of (byte schedule i)) (at i)).answer.code
  code_at i h =
      let bytes : List ℕ = (run_of device first second schedule buffer map').records in
      let first_byte : byte (record_at i bytes) 0 ≡ byte bytes (4 * i) =
      get_or-take 4 (drop (4 * i) bytes) 0 0 (omega arith) ∙ get_or-drop (4 * i) bytes 0 0 ∙ ap (byte bytes) (add-zero (4 * i)) in
      sym first_byte ∙ ap (λ (r : List ℕ). byte r 0) (record_in_run device first second schedule buffer map' m e D p q F i h)

  module _ (i : ℕ) (h : i < length schedule) (c : 2 ≤ byte (run_of device first second schedule buffer map').records (4 * i)) where
    abbrev t : Turn
    t = turn_of (byte schedule i)

    stays : Stuck D P (at i) t.job t.outcome
    stays = stuck_stays D P (map turn_of (take i schedule)) t.job t.outcome (subst (λ (x : ℕ). 2 ≤ x) (code_at i h) c)

    later_machine : (k : ℕ) → i < k → at k ≡ final D P (map turn_of (take (k - suc i) (drop (suc i) schedule))) (after D P t (at i))
    later_machine k l =
        ap (λ (s : List ℕ). final D P (map turn_of s) (started D P)) (take_past schedule i k h l)
        ∙ final_parts D P (take i schedule) (byte schedule i) (take (k - suc i) (drop (suc i) schedule)) (started D P)

    last_machine : final D P (map turn_of schedule) (started D P) ≡ final D P (map turn_of (drop (suc i) schedule)) (after D P t (at i))
    last_machine =
        ap (λ (s : List ℕ). final D P (map turn_of s) (started D P)) (split_at schedule i 0 h)
        ∙ final_parts D P (take i schedule) (byte schedule i) (drop (suc i) schedule) (started D P)

    same_answer : (k : ℕ) → i < k → byte schedule k / 16 ≡ t.job
        → (step_of D P (turn_of (byte schedule k)) (at k)).answer ≡ (step_of D P t (at i)).answer
    same_answer k l j =
        let w : Bool = (turn_of (byte schedule k)).outcome in
        let turn : turn_of (byte schedule k) ≡ record { job = t.job; outcome = w } = λ x. record { job = j x; outcome = w } in
        ap (λ (u : Turn). (step_of D P u (at k)).answer) turn
        ∙ ap (λ (M : Machine). (step_of D P (record { job = t.job; outcome = w }) M).answer) (later_machine k l)
        ∙ stays.later_record (map turn_of (take (k - suc i) (drop (suc i) schedule))) w

    stuck_from : StuckFrom device first second schedule buffer map' i
    stuck_from = record {
      same_record = λ k l n j. record_in_run device first second schedule buffer map' m e D p q F k n ∙ ap four_bytes (same_answer k l j)
          ∙ sym (record_in_run device first second schedule buffer map' m e D p q F i h);
      same_map = λ l n o. map_of schedule (omega arith) its_turns l n ∙ ap (λ (M : Machine). get_or M.occupancy l 0) last_machine
          ∙ stays.later_map (map turn_of (drop (suc i) schedule)) l (its_owners.each l n ∙ o)
          ∙ sym (map_of (take i schedule) (omega (arith, length-take-le i schedule (omega arith))) (all_take i schedule its_turns) l n);
    }

pub map_in_runs : MapInRuns
map_in_runs device first second schedule buffer map' m e =
    let B = bytewise device first second schedule buffer map' m e in
    map_bytes device first second schedule buffer map' m e B.D B.p B.q (files device first second schedule buffer map' m e)

pub stuck_in_runs : StuckInRuns
stuck_in_runs device first second schedule buffer map' m e i h c =
    let B = bytewise device first second schedule buffer map' m e in
    stuck_from device first second schedule buffer map' m e B.D B.p B.q (files device first second schedule buffer map' m e) i h c
