-- Locations occupied equal moved inits less moved frees, over the bytes of a run. `occupied` counts the acts of a job's turns; a turn acts as an init or a free
-- exactly where its record says moved and points at a byte of the job's program that is an init's or a free's (FromBytes). So the records' bytes count
-- the acts.
use mathlib.Core.Bool.{Bool, true, ◌&&◌, ◌||◌, false≢true}
use mathlib.Core.List.{List, [], ◌∷◌, ◌++◌, map}
use mathlib.Core.Path.{◌≡◌, refl, sym, ap, ap₂, ◌∙◌}
use native.Mathlib.Decide.{ℕ_discrete}
use native.Mathlib.Omega.{arith}
use Prim.Native.Nat.{ℕ, zero, suc, ◌+◌, ◌*◌, ◌/◌, ◌%◌, ◌≤◌}
use lib.Dec.{eqb}
use lib.ListN.{length, take}
use Rattle.answers.specs.Check.{ok}
use Rattle.answers.specs.declared.Moved.{Moved}
use Rattle.rules.specs.Basics.{chosen, byte, word}
use Rattle.rules.specs.Device.{Device}
use Rattle.rules.specs.Region.{Region, region_of, free_in}
use Rattle.rules.specs.Syntax as trees
use Rattle.rules.specs.Syntax.{Program}
use Rattle.rules.specs.Program.{read_program}
use Rattle.rules.specs.Slots.{Act}
use Rattle.rules.specs.Machine.{Stepped}
use Rattle.rules.specs.Run.{Turn, Machine, started, step_of, after, final, records, record_bytes}
use Rattle.rules.specs.Promises.{over, Ran, run_written, run_of}
use Rattle.theory.specs.Tidy.{is_init, is_free, bytes_of, Readable, acts}
use Rattle.theory.specs.TheRun.{turn_of, moved_at, init_byte, free_byte, of_job, Files, OccupiedAtEnd, OccupiedInRuns}
use Rattle.rules.proofs.Tests.{eqb_same, eqb_other}
use Rattle.theory.proofs.WellRead.{well_read}
use Rattle.theory.proofs.Isolation.{sound_started, sound_final}
use Rattle.theory.proofs.Tidy.{occupied}
use Rattle.theory.proofs.TheRun.{job_reads, ran_by, bytewise, files, run_with}
use Rattle.theory.proofs.OwnerBytes.{owner_bytes}
use Rattle.theory.proofs.FromBytes.{ProgramStands, program_stands, ItemsStand, fresh_stands, Steps, step_stands}

-- an offset is what its two bytes say
offset_back : (o : ℕ) → o / 256 * 256 + o % 256 ≡ o
offset_back o = omega arith

-- for inits and for frees alike: a step acts so exactly where it moved and the byte at its offset says so
abbrev Agrees : List ℕ → (Act trees.device → Bool) → (ℕ → Bool) → Type 0
Agrees file act test = (t : Stepped) → Steps file t → act t.act ≡ (eqb t.answer.code 0 && test (byte file t.answer.offset))

-- The acts of job j are counted by its records' bytes.
module _ (D : Device) (programs : ℕ → Program) (j : ℕ) (file : List ℕ) (stands : ProgramStands file (programs j)) (rest : List ℕ) where
  abbrev JobStands : Machine → Type 0
  JobStands M = ItemsStand file (M.jobs j).items

  -- what a turn of the job does
  turn_steps : (t : Turn) (M : Machine) → t.job ≡ j → JobStands M → Steps file (step_of D programs t M)
  turn_steps t M e h =
      let R : Region = region_of D j in
      rw e (step_stands file R (programs j).functions t.outcome (free_in R M.occupancy) stands.bodies (M.jobs j) h)

  stands_after : (t : Turn) (M : Machine) → JobStands M → JobStands (after D programs t M)
  stands_after t M h = go (ℕ_discrete j t.job)
    where
      go : Dec (j ≡ t.job) → JobStands (after D programs t M)
      go (yes e) =
          let own : eqb j t.job ≡ true = ap (λ (k : ℕ). eqb j k) (sym e) ∙ eqb_same j in
          rw own (turn_steps t M (sym e) h).stand
      go (no n) = rw (eqb_other j t.job n) h

  module _ (act : Act trees.device → Bool) (test : ℕ → Bool) (agree : Agrees file act test) where
    acts_by_bytes : (s : List ℕ) (M : Machine) → JobStands M
        → acts D programs act j (map turn_of s) M ≡ moved_at test file j s (record_bytes (records D programs (map turn_of s) M) ++ rest)
    acts_by_bytes [] M h = refl
    acts_by_bytes (b ∷ s) M h = go (ℕ_discrete (b / 16) j) (acts_by_bytes s (after D programs (turn_of b) M) (stands_after (turn_of b) M h))
      where
        t : Stepped
        t = step_of D programs (turn_of b) M

        o : ℕ
        o = t.answer.offset

        said : Bool
        said = eqb t.answer.code 0 && test (byte file (o / 256 * 256 + o % 256))

        go : Dec (b / 16 ≡ j) → {m n : ℕ} → m ≡ n → chosen (eqb (b / 16) j && act t.act) 1 0 + m ≡ chosen (eqb (b / 16) j && said) 1 0 + n
        go (yes e) q = let a = agree t (turn_steps (turn_of b) M e h) in rw (offset_back o, a, q) refl
        go (no n) q = rw (eqb_other (b / 16) j n, q) refl

-- ---- the run's map
take_all : (xs ys : List ℕ) → take (length xs) (xs ++ ys) ≡ xs
take_all [] ys = refl
take_all (x ∷ xs) ys = ap (λ (l : List ℕ). x ∷ l) (take_all xs ys)

pub positive : (j : ℕ) → (eqb j 1 || eqb j 2) ≡ true → 1 ≤ j
positive zero h = absurd (false≢true h)
positive (suc j) h = omega arith

module _ (device first second schedule buffer map' : List ℕ) (m : Moved) (e : (run_of device first second schedule buffer map').answer ≡ ok m)
    (D : Device) (p q : Program) (F : Files device first second schedule buffer map' D p q) where
  abbrev P : ℕ → Program
  P = of_job p q

  abbrev ts : List Turn
  ts = map turn_of schedule

  abbrev end : Machine
  end = final D P ts (started D P)

  ran_as : run_of device first second schedule buffer map' ≡ run_written buffer map' (ok (ran_by D P schedule))
  ran_as =
      let B = bytewise device first second schedule buffer map' m e in
      run_with device first second schedule buffer map' m e D p q F schedule (omega arith) B.all_turns

  reads : (j : ℕ) → read_program (of_job first second j) ≡ ok (P j)
  reads j = job_reads first second p q F.first_reads F.second_reads j

  readable : Readable P
  readable j = (length (of_job first second j), well_read (of_job first second j) (P j) (reads j))

  pub map_bytes : take (word device 5) (run_of device first second schedule buffer map').map ≡ end.occupancy
  map_bytes =
      let fits : length D.owners ≡ length end.occupancy = (sound_final D P ts (started D P) (sound_started D P)).fits in
      let long : word device 5 ≡ length end.occupancy = sym (owner_bytes device D F.device_reads).many ∙ fits in
      ap (λ (w : Ran). take (word device 5) w.map) ran_as
      ∙ ap (λ (n : ℕ). take n (over end.occupancy map')) long ∙ take_all end.occupancy _

  -- the acts of job j by the records written
  counted : (j : ℕ) (act : Act trees.device → Bool) (test : ℕ → Bool) → Agrees (of_job first second j) act test
      → acts D P act j ts (started D P) ≡ moved_at test (of_job first second j) j schedule (run_of device first second schedule buffer map').records
  counted j act test agree =
      let file : List ℕ = of_job first second j in
      let stands : ProgramStands file (P j) = program_stands file (P j) (reads j) in
      acts_by_bytes D P j file stands _ act test agree schedule (started D P) (fresh_stands file (P j) stands)
      ∙ sym (ap (λ (w : Ran). moved_at test file j schedule w.records) ran_as)

  occupied_at_end : OccupiedAtEnd device first second schedule buffer map'
  occupied_at_end j h =
      let inits = counted j is_init init_byte (λ t s. s.inits) in
      let frees = counted j is_free free_byte (λ t s. s.frees) in
      ap₂ (λ (bs : List ℕ) (n : ℕ). bytes_of j bs + n) map_bytes (sym frees) ∙ occupied D P readable j (positive j h) ts ∙ inits

pub occupied_in_runs : OccupiedInRuns
occupied_in_runs device first second schedule buffer map' m e =
    let B = bytewise device first second schedule buffer map' m e in
    occupied_at_end device first second schedule buffer map' m e B.D B.p B.q (files device first second schedule buffer map' m e)
