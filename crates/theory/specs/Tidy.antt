-- What holds of any readable programs, accepted or not: the map tells what the moved steps did, nothing is held twice, and stuck is stuck.
use Rattle.std.specs.Prelude.{Bool, true, false, ◌&&◌, List, [], ◌∷◌, ◌⊎◌, ◌≡◌, ℕ, ◌+◌, ◌≤◌, eqb, get_or}
use Rattle.rules.specs.Basics.{chosen, how_many}
use Rattle.rules.specs.Device.{Device}
use Rattle.rules.specs.Syntax.{device, Place, Program}
use Rattle.rules.specs.Slots.{qubit, slot, Act, quiet, takes, gives, merges}
use Rattle.rules.specs.Machine.{Frame, Job}
use Rattle.rules.specs.Run.{Turn, Machine, started, step_of, after, final}
use Rattle.theory.specs.WellRead.{ProgramRead}

abbrev pub is_init : Act device → Bool
is_init quiet = false
is_init (takes q l) = true
is_init (gives l) = false
is_init (merges b l e k) = false

abbrev pub is_free : Act device → Bool
is_free quiet = false
is_free (takes q l) = false
is_free (gives l) = true
is_free (merges b l e k) = false

-- how many map bytes are j
abbrev pub bytes_of : ℕ → List ℕ → ℕ
bytes_of j bs = how_many (λ b. eqb b j) bs

-- every job's program is readable
abbrev pub Readable : (ℕ → Program) → Type 0
Readable programs = (j : ℕ) → (size : ℕ) × ProgramRead size (programs j)

module _ (D : Device) (programs : ℕ → Program) where
  -- how many steps of job j passed the test: a stuck step acts on nothing
  abbrev pub acts : (Act device → Bool) → ℕ → List Turn → Machine → ℕ
  acts test j [] M = 0
  acts test j (t ∷ ts) M = chosen (eqb t.job j && test (step_of D programs t M).act) 1 0 + acts test j ts (after D programs t M)

-- for each job, locations occupied equal moved inits less moved frees
abbrev pub Occupied : Type 0
Occupied = (D : Device) (programs : ℕ → Program) → Readable programs → (j : ℕ) → 1 ≤ j → (ts : List Turn)
    → bytes_of j (final D programs ts (started D programs)).occupancy + acts D programs is_free j ts (started D programs)
    ≡ acts D programs is_init j ts (started D programs)

-- a map byte is 0 or the job that owns the location
abbrev pub MapByte : Type 0
MapByte = (D : Device) (programs : ℕ → Program) (ts : List Turn) (l : ℕ)
    → (get_or (final D programs ts (started D programs)).occupancy l 0 ≡ 0)
    ⊎ (get_or (final D programs ts (started D programs)).occupancy l 0 ≡ get_or D.owners l 0)

-- the frames of a job, the top one first
abbrev pub frame : Job → ℕ → Frame
frame J i = get_or (J.top ∷ J.below) i []

-- No two slots of one frame of a job hold one location, and no two jobs do. (A caller's slot and the callee's for the same argument both hold it.)
-- A qubit of the top frame sits on a location that the map gives to the job.
pub record Holds-once (M : Machine) : Type 0 where
  pub one_slot : (j i x y : ℕ) (l k : Place device) → 1 ≤ j → slot (frame (M.jobs j) i) x ≡ qubit l → slot (frame (M.jobs j) i) y ≡ qubit k
      → l.no ≡ k.no → x ≡ y
  pub one_job : (i j a b x y : ℕ) (l k : Place device) → slot (frame (M.jobs i) a) x ≡ qubit l → slot (frame (M.jobs j) b) y ≡ qubit k
      → l.no ≡ k.no → i ≡ j
  pub on_map : (j x : ℕ) (l : Place device) → slot (M.jobs j).top x ≡ qubit l → get_or M.occupancy l.no 0 ≡ j

abbrev pub HeldOnce : Type 0
HeldOnce = (D : Device) (programs : ℕ → Program) → Readable programs → (ts : List Turn) → Holds-once (final D programs ts (started D programs))

-- Stuck: nothing changes, now and at each later step of that job, whatever steps and outcomes follow. The step itself leaves the map and every job's state;
-- after it the job's record, its state and the map's bytes of its locations stay.
module _ (D : Device) (programs : ℕ → Program) (M : Machine) (j : ℕ) (v : Bool) where
  abbrev at_first : Turn
  at_first = record { job = j; outcome = v }

  pub record Stuck : Type 0 where
    pub map_stays : (after D programs at_first M).occupancy ≡ M.occupancy
    pub jobs_stay : (after D programs at_first M).jobs ≡ M.jobs
    pub later_record : (us : List Turn) (w : Bool)
        → (step_of D programs (record { job = j; outcome = w }) (final D programs us (after D programs at_first M))).answer
        ≡ (step_of D programs at_first M).answer
    pub later_state : (us : List Turn) → (final D programs us (after D programs at_first M)).jobs j ≡ M.jobs j
    pub later_map : (us : List Turn) (l : ℕ) → get_or D.owners l 0 ≡ j
        → get_or (final D programs us (after D programs at_first M)).occupancy l 0 ≡ get_or M.occupancy l 0

abbrev pub StuckStays : Type 0
StuckStays = (D : Device) (programs : ℕ → Program) (ts : List Turn) (j : ℕ) (v : Bool)
    → 2 ≤ (step_of D programs (record { job = j; outcome = v }) (final D programs ts (started D programs))).answer.code
    → Stuck D programs (final D programs ts (started D programs)) j v
