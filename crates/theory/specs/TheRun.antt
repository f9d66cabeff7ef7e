-- Demand 3 of the run call, and what its records and map say, over what it promises: the answer and the bytes that it writes. A call's contract is an
-- equation with `run_of`, so what is said here of `run_of` holds of the compiled call.
use Rattle.std.specs.Prelude.{Bool, true, false, ◌&&◌, ◌||◌, List, [], ◌∷◌, ◌++◌, map, ◌⊎◌, ◌≡◌, ℕ, suc, ◌+◌, ◌*◌, ◌/◌, ◌%◌, ◌≤◌, ◌<◌, eqb, leb, length, take, drop}
use Rattle.answers.specs.Check.{Check, ok, refused}
use Rattle.answers.specs.declared.Counted.{Counted}
use Rattle.answers.specs.declared.Moved.{Moved}
use Rattle.answers.specs.declared.Refusal.{Refusal}
use Rattle.rules.specs.Basics.{chosen, all, any, byte, word}
use Rattle.rules.specs.Device.{Device, read_device}
use Rattle.rules.specs.Region.{Region, region_of, free_in}
use Rattle.rules.specs.Path.{Route}
use Rattle.rules.specs.Syntax as trees
use Rattle.rules.specs.Syntax.{Side, Place, Op, op, if, while, call, Block, Program}
use Rattle.rules.specs.Program.{read_program}
use Rattle.rules.specs.Slots.{Act, quiet, takes, gives, merges}
use Rattle.rules.specs.Machine.{Actual, Item, run, return, Job, Move, move}
use Rattle.rules.specs.Run.{Turn, Machine, started, final}
use Rattle.rules.specs.Promises.{check_of, Ran, run_of}
use Rattle.theory.specs.Counts.{begin_with_zero}
use Rattle.theory.specs.Tidy.{bytes_of}

-- a byte that names a job of two and an outcome, and the turn that it stands for
abbrev pub is_turn : ℕ → Bool
is_turn b = leb 1 (b / 16) && leb (b / 16) 2 && leb (b % 16) 1

abbrev pub turn_of : ℕ → Turn
turn_of b = record { job = b / 16; outcome = eqb (b % 16) 1 }

-- of a schedule the bytes of job j
abbrev pub bytes_for : ℕ → List ℕ → List ℕ
bytes_for j [] = []
bytes_for j (b ∷ s) = chosen (eqb (b / 16) j) (b ∷ bytes_for j s) (bytes_for j s)

-- of the records that a schedule wrote, four bytes each, those of job j, and the first byte of each
abbrev pub records_for : ℕ → List ℕ → List ℕ → List ℕ
records_for j [] bytes = []
records_for j (b ∷ s) bytes = chosen (eqb (b / 16) j) (take 4 bytes ++ records_for j s (drop 4 bytes)) (records_for j s (drop 4 bytes))

abbrev pub codes_for : ℕ → List ℕ → List ℕ → List ℕ
codes_for j [] bytes = []
codes_for j (b ∷ s) bytes = chosen (eqb (b / 16) j) (byte bytes 0 ∷ codes_for j s (drop 4 bytes)) (codes_for j s (drop 4 bytes))

-- record i, from 0 on
abbrev pub record_at : ℕ → List ℕ → List ℕ
record_at i bytes = take 4 (drop (4 * i) bytes)

-- of the records that a schedule wrote, how many are of job j, moved, and at a statement of its program whose byte passes the test
abbrev pub moved_at : (ℕ → Bool) → List ℕ → ℕ → List ℕ → List ℕ → ℕ
moved_at test program j [] bytes = 0
moved_at test program j (b ∷ s) bytes =
    chosen (eqb (b / 16) j && (eqb (byte bytes 0) 0 && test (byte program (word bytes 2)))) 1 0 + moved_at test program j s (drop 4 bytes)

abbrev pub init_byte : ℕ → Bool
init_byte b = eqb b 1 || eqb b 2

abbrev pub free_byte : ℕ → Bool
free_byte b = eqb b 3

-- the first one's for job 1, the second one's for job 2
abbrev pub of_job : {A : Type 0} → A → A → ℕ → A
of_job first second j = chosen (eqb j 1) first second

-- ---- what the four bytes of a record are
-- the offset that an item's record gives: a statement its own, a return that of its call
pub data OffsetOf : Item → ℕ → Type 0 where
  of_operation : {s : Side} {σ : Actual s} {o : ℕ} {a : Op s} → OffsetOf (run σ (op o a)) o
  of_if : {s : Side} {σ : Actual s} {o y : ℕ} {b c : Block s} → OffsetOf (run σ (if o y b c)) o
  of_while : {s : Side} {σ : Actual s} {o r : ℕ} {b : Block s} → OffsetOf (run σ (while o r b)) o
  of_call : {s : Side} {σ : Actual s} {o f : ℕ} {ls : List (Place s)} {xs : List ℕ} → OffsetOf (run σ (call o f ls xs)) o
  of_return : {o : ℕ} {ls : List (Place trees.device)} {xs : List ℕ} → OffsetOf (return o ls xs) o

-- why a step is stuck: kinds (11), a qubit in the slot to be bound (12), locations (13 to 16) or path (21)
abbrev pub Reason : ℕ → Type 0
Reason n = ((11 ≤ n) × (n ≤ 16)) ⊎ (n ≡ 21)

abbrev pub is_merge : Act trees.device → Bool
is_merge quiet = false
is_merge (takes q l) = false
is_merge (gives l) = false
is_merge (merges b l e k) = true

-- a turn taken on a machine
module _ (D : Device) (programs : ℕ → Program) (t : Turn) (M : Machine) where
  abbrev the_job : Job
  the_job = M.jobs t.job

  abbrev the_region : Region
  the_region = region_of D t.job

  abbrev is_open : ℕ → Bool
  is_open = free_in the_region M.occupancy

  -- the first item to come and those after it
  abbrev Next : Item → List Item → ℕ → Type 0
  Next i rest o = (the_job.items ≡ i ∷ rest) × OffsetOf i o

  abbrev move_of : Item → List Item → Check Move
  move_of i rest = move the_region (programs t.job).functions t.outcome is_open the_job.top the_job.below i rest

  -- 0 moved, 1 finished or the reason; the edges of the route for a moved merge, else 0; the statement's offset as u16, FFFF finished
  pub data Tells : List ℕ → Type 0 where
    finished : the_job.items ≡ [] → Tells (1 ∷ 0 ∷ 0xFF ∷ 0xFF ∷ [])
    moved : {i : Item} {rest : List Item} {o : ℕ} {m : Move} → Next i rest o → move_of i rest ≡ ok m → is_merge m.act ≡ false
        → Tells (0 ∷ 0 ∷ o / 256 ∷ o % 256 ∷ [])
    merged : {i : Item} {rest : List Item} {o : ℕ} {m : Move} {b e edges : ℕ} {l k : Place trees.device} {p : List ℕ}
        → Next i rest o → move_of i rest ≡ ok m → m.act ≡ merges b l e k → Route the_region is_open l.no k.no p → length p ≡ suc edges
        → Tells (0 ∷ edges ∷ o / 256 ∷ o % 256 ∷ [])
    stuck : {i : Item} {rest : List Item} {o : ℕ} {r : Refusal} → Next i rest o → move_of i rest ≡ refused r → Reason r.number
        → Tells (r.number ∷ 0 ∷ o / 256 ∷ o % 256 ∷ [])

-- ---- a run that is answered
module _ (device first second schedule records map' : List ℕ) where
  abbrev the_run : Ran
  the_run = run_of device first second schedule records map'

  -- the files that it ran
  pub record Files (D : Device) (p q : Program) : Type 0 where
    pub device_reads : read_device device ≡ ok D
    pub first_reads : read_program first ≡ ok p
    pub second_reads : read_program second ≡ ok q

  -- Each moved count is the number of the job's records, in the bytes written, that begin with 0.
  pub record CountsMoved (m : Moved) : Type 0 where
    pub first_moved : m.first ≡ begin_with_zero (records_for 1 schedule the_run.records)
    pub second_moved : m.second ≡ begin_with_zero (records_for 2 schedule the_run.records)

  -- Record i tells the turn of schedule byte i, taken on the machine that the turns before it left.
  abbrev pub EachTells : Type 0
  EachTells = (D : Device) (p q : Program) → Files D p q → (i : ℕ) → i < length schedule
      → Tells D (of_job p q) (turn_of (byte schedule i)) (final D (of_job p q) (map turn_of (take i schedule)) (started D (of_job p q)))
      (record_at i the_run.records)

  -- A job whose program the check accepts on the device: each of its records begins with 0, moved, or 1, finished.
  abbrev pub NotStuck : Type 0
  NotStuck = (j : ℕ) (a : Counted) → (eqb j 1 || eqb j 2) ≡ true → check_of device (of_job first second j) j ≡ ok a
      → all (λ c. leb c 1) (codes_for j schedule the_run.records) ≡ true

  -- The same of a job that finished, as a record of it tells that begins with 1: it occupies as many locations, by the map's n bytes, as the check answered
  -- to be left live.
  abbrev pub LeavesLive : Type 0
  LeavesLive = (j : ℕ) (a : Counted) → (eqb j 1 || eqb j 2) ≡ true → check_of device (of_job first second j) j ≡ ok a
      → any (eqb 1) (codes_for j schedule the_run.records) ≡ true → bytes_of j (take (word device 5) the_run.map) ≡ a.live

  -- the run with all of job 1's bytes first and job 2's then
  abbrev pub job_by_job : List ℕ
  job_by_job = bytes_for 1 schedule ++ bytes_for 2 schedule

  abbrev in_turn : Ran
  in_turn = run_of device first second job_by_job records map'

  -- the same moved counts, the same map, and for each job the same records
  pub record RunAlike (m : Moved) : Type 0 where
    pub answers : in_turn.answer ≡ ok m
    pub maps : in_turn.map ≡ the_run.map
    pub told : (j : ℕ) → records_for j job_by_job in_turn.records ≡ records_for j schedule the_run.records

  -- For each job, locations occupied equal moved inits less moved frees: the map's n bytes, and the records with the program's bytes that they point at.
  abbrev pub OccupiedAtEnd : Type 0
  OccupiedAtEnd = (j : ℕ) → (eqb j 1 || eqb j 2) ≡ true
      → bytes_of j (take (word device 5) the_run.map) + moved_at free_byte (of_job first second j) j schedule the_run.records
      ≡ moved_at init_byte (of_job first second j) j schedule the_run.records

  -- A map byte is 0 or the job that owns the location, by the device file's owner byte.
  abbrev pub MapBytes : Type 0
  MapBytes = (l : ℕ) → l < word device 5 → (byte the_run.map l ≡ 0) ⊎ (byte the_run.map l ≡ byte device (9 + l))

  -- A job that is stuck at schedule byte i: each later record of it is the same, and the map's bytes of its locations end as they were before byte i.
  pub record StuckFrom (i : ℕ) : Type 0 where
    pub same_record : (k : ℕ) → i < k → k < length schedule → byte schedule k / 16 ≡ byte schedule i / 16
        → record_at k the_run.records ≡ record_at i the_run.records
    pub same_map : (l : ℕ) → l < word device 5 → byte device (9 + l) ≡ byte schedule i / 16
        → byte the_run.map l ≡ byte (run_of device first second (take i schedule) records map').map l

  abbrev pub StuckAfter : Type 0
  StuckAfter = (i : ℕ) → i < length schedule → 2 ≤ byte the_run.records (4 * i) → StuckFrom i

-- what holds of every run that is answered, whatever was given
abbrev pub Answered : (List ℕ → List ℕ → List ℕ → List ℕ → List ℕ → List ℕ → Moved → Type 0) → Type 0
Answered P = (device first second schedule records map' : List ℕ) (m : Moved) → (run_of device first second schedule records map').answer ≡ ok m
    → P device first second schedule records map' m

abbrev pub MovedInRuns : Type 0
MovedInRuns = Answered λ device first second schedule records map' m. CountsMoved device first second schedule records map' m

abbrev pub RecordsInRuns : Type 0
RecordsInRuns = Answered λ device first second schedule records map' m. EachTells device first second schedule records map'

abbrev pub NeverStuckInRuns : Type 0
NeverStuckInRuns = Answered λ device first second schedule records map' m. NotStuck device first second schedule records map'

abbrev pub LiveInRuns : Type 0
LiveInRuns = Answered λ device first second schedule records map' m. LeavesLive device first second schedule records map'

abbrev pub RunsInOrder : Type 0
RunsInOrder = Answered λ device first second schedule records map' m. RunAlike device first second schedule records map' m

abbrev pub OccupiedInRuns : Type 0
OccupiedInRuns = Answered λ device first second schedule records map' m. OccupiedAtEnd device first second schedule records map'

abbrev pub MapInRuns : Type 0
MapInRuns = Answered λ device first second schedule records map' m. MapBytes device first second schedule records map'

abbrev pub StuckInRuns : Type 0
StuckInRuns = Answered λ device first second schedule records map' m. StuckAfter device first second schedule records map'
