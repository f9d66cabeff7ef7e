-- What it is for the code's machine to stand for a machine of the rules, and what a turn and the run promise.
use Rattle.std.specs.Prelude.{Bool, true, List, [], ◌∷◌, map, ◌≡◌, ℕ, ◌*◌, ◌/◌, ◌%◌, ◌≤◌, eqb, length}
use Rattle.std.proofs.lemmas.List.Edits.{sets}
use Rattle.rules.specs.Basics.{chosen}
use Rattle.rules.specs.Device.{Device}
use Rattle.rules.specs.Region.{Region, region_of, free_in}
use Rattle.rules.specs.Syntax.{Program}
use Rattle.rules.specs.Machine as rules
use Rattle.rules.specs.Machine.{step}
use Rattle.rules.specs.Run as run
use Rattle.rules.specs.Run.{Turn, turns, written, started, step_of, after, final, records, record_bytes, moved_by}
use Rattle.theory.specs.TheRun.{is_turn, turn_of}
use Rattle.device.specs.Reader.{Owned, RowsOf}
use Rattle.program.specs.In.{ProgramIn}
use Rattle.program.specs.Reader.{Heads}
use Rattle.steps.specs.declared.Record.{Record}
use Rattle.steps.specs.declared.job.Job.{Job}
use Rattle.steps.specs.Standing.{Stands}
use Rattle.steps.specs.Performing.{Maps}
use Rattle.steps.specs.Stepping as steps
use Rattle.steps.specs.Told.{record_of}
use Rattle.answers.specs.declared.Moved.{Moved}
use Rattle.machine.specs.declared.turn.Player.{Player}
use Rattle.machine.specs.declared.turn.Players.{Players}
use Rattle.machine.specs.declared.turn.Machine.{Machine}

-- the four bytes of a record
abbrev pub bytes_of : Record → List ℕ
bytes_of r = r.code ∷ r.edges ∷ r.offset / 256 ∷ r.offset % 256 ∷ []

-- job 1 has the program p, job 2 the program q
abbrev pub programs : Program → Program → ℕ → Program
programs p q j = chosen (eqb j 1) p q

-- ---- one job
abbrev pub Ready : Player → Job → Type 0
Ready c j = steps.Ready c.bytes.now c.functions.now j

-- what a job brings is the program p's in the region R
pub record Seated (c : Player) (p : Program) (R : Region) : Type 0 where
  pub program : ProgramIn c.bytes.now p
  pub heads : Heads p.functions c.functions.now
  pub owned : Owned R c.owned
  pub rows_are : RowsOf R c.rows.now

-- a step taken, over an occupancy that has all of the region: the job, the record and the map after it are the rules'
abbrev pub Takes : Player → List ℕ → Job → ℕ → Bool → Job → Record → List ℕ → Type 0
Takes c before j number v i r now =
    (p : Program) (J : rules.Job) (R : Region) (occupancy : List ℕ) → Seated c p R → Stands c.bytes.now p J j → Maps before occupancy
    → length R.owned ≤ length occupancy
    → Stands c.bytes.now p (step R p.functions v (free_in R occupancy) J).next i
    × (r ≡ record_of (step R p.functions v (free_in R occupancy) J).answer)
    × Maps now (written number (step R p.functions v (free_in R occupancy) J).act occupancy)

-- ---- both
module _ (players : Players) where
  -- both jobs' files, tables and regions on device D
  pub record Both (D : Device) (p q : Program) : Type 0 where
    pub first : Seated players.first p (region_of D 1)
    pub second : Seated players.second q (region_of D 2)

  -- the code's machine m stands for M
  pub record Holds (D : Device) (p q : Program) (M : run.Machine) (m : Machine) : Type 0 where
    pub first : Stands players.first.bytes.now p (M.jobs 1) m.first
    pub second : Stands players.second.bytes.now q (M.jobs 2) m.second
    pub maps : Maps m.map M.occupancy
    pub long : length M.occupancy ≡ length D.owners

  -- a machine under way, and a byte that is a turn
  pub record Running (m : Machine) (b : ℕ) : Type 0 where
    pub D : Device
    pub p : Program
    pub q : Program
    pub M : run.Machine
    pub both : Both D p q
    pub holds : Holds D p q M m
    pub a_turn : is_turn b ≡ true

  -- a turn taken
  abbrev pub Turns : Machine → ℕ → Machine → Record → Type 0
  Turns m b n r =
      (D : Device) (p q : Program) (M : run.Machine) → Both D p q → Holds D p q M m
      → Holds D p q (after D (programs p q) (turn_of b) M) n × (r ≡ record_of (step_of D (programs p q) (turn_of b) M).answer)

  -- a machine under way, and room for the records of a schedule
  pub record Dealing (m : Machine) (schedule : List ℕ) (room : ℕ) : Type 0 where
    pub D : Device
    pub p : Program
    pub q : Program
    pub M : run.Machine
    pub both : Both D p q
    pub holds : Holds D p q M m
    pub fits : 4 * length schedule ≤ room

  -- all turns ts taken from M on: the records, the map at the end, and how many steps each job moved
  pub record Dealt (D : Device) (p q : Program) (M : run.Machine) (ts : List Turn) (before : List ℕ) (n : Machine) (r : Moved) (now : List ℕ) : Type 0 where
    pub written : now ≡ sets before 0 (record_bytes (records D (programs p q) ts M))
    pub maps : Maps n.map (final D (programs p q) ts M).occupancy
    pub long : length (final D (programs p q) ts M).occupancy ≡ length D.owners
    pub first : r.first ≡ moved_by 1 (records D (programs p q) ts M)
    pub second : r.second ≡ moved_by 2 (records D (programs p q) ts M)

  abbrev pub Deals : Machine → List ℕ → List ℕ → Machine → Moved → List ℕ → Type 0
  Deals m schedule before n r now =
      (D : Device) (p q : Program) (M : run.Machine) → Both D p q → Holds D p q M m → Dealt D p q M (map turn_of schedule) before n r now
