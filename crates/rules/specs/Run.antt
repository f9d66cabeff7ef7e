-- The run of any number of jobs on one device under a schedule.
use Rattle.std.specs.Prelude.{Bool, ◌&&◌, List, [], ◌∷◌, ℕ, suc, ◌+◌, ◌/◌, ◌%◌, eqb, leb, set, length, replicate}
use Rattle.answers.specs.Check.{Check, ok, ◌>>=◌, ◌>>◌, need}
use Rattle.rules.specs.Basics.{chosen}
use Rattle.rules.specs.Device.{Device}
use Rattle.rules.specs.Region.{region_of, free_in}
use Rattle.rules.specs.Syntax.{device, Program}
use Rattle.rules.specs.Slots.{Act, quiet, takes, gives, merges}
use Rattle.rules.specs.Machine.{Job, fresh, Record, Stepped, step}

-- one turn of a schedule: which job steps, and the outcome given
pub record Turn : Type 0 where
  pub job : ℕ
  pub outcome : Bool

-- Schedule bytes are 10, 11 hex (job 1, outcome 0, 1), 20, 21 hex and so on: 23 at the first that is none, for jobs 1 to `jobs`.
abbrev pub turns : ℕ → ℕ → List ℕ → Check (List Turn)
turns jobs i [] = ok []
turns jobs i (b ∷ bs) = do
  need (leb 1 (b / 16) && leb (b / 16) jobs && leb (b % 16) 1) 23 i
  rest ← turns jobs (suc i) bs
  ok (record { job = b / 16; outcome = eqb (b % 16) 1 } ∷ rest)

-- one occupancy map of the whole device, 0 or the occupying job, and each job's own state
pub record Machine : Type 0 where
  pub occupancy : List ℕ
  pub jobs : ℕ → Job

-- the map after an act of job j
abbrev pub written : ℕ → Act device → List ℕ → List ℕ
written j quiet occ = occ
written j (takes q l) occ = set occ l.no j
written j (gives l) occ = set occ l.no 0
written j (merges b l e k) occ = occ

-- a record, and the job whose step wrote it
pub record Told : Type 0 where
  pub job : ℕ
  pub told : Record

-- over the device and each job's program
module _ (D : Device) (programs : ℕ → Program) where
  abbrev pub started : Machine
  started = record { occupancy = replicate (length D.owners) 0; jobs = λ j. fresh (programs j) }

  abbrev pub step_of : Turn → Machine → Stepped
  step_of t M = step (region_of D t.job) (programs t.job).functions t.outcome (free_in (region_of D t.job) M.occupancy) (M.jobs t.job)

  abbrev pub after : Turn → Machine → Machine
  after t M = record {
    occupancy = written t.job (step_of t M).act M.occupancy;
    jobs = λ i. chosen (eqb i t.job) (step_of t M).next (M.jobs i);
  }

  abbrev pub final : List Turn → Machine → Machine
  final [] M = M
  final (t ∷ ts) M = final ts (after t M)

  abbrev pub records : List Turn → Machine → List Told
  records [] M = []
  records (t ∷ ts) M = record { job = t.job; told = (step_of t M).answer } ∷ records ts (after t M)

-- the bytes of the records, four each
abbrev pub record_bytes : List Told → List ℕ
record_bytes [] = []
record_bytes (r ∷ rs) = r.told.code ∷ r.told.edges ∷ r.told.offset / 256 ∷ r.told.offset % 256 ∷ record_bytes rs

-- how many steps job j moved
abbrev pub moved_by : ℕ → List Told → ℕ
moved_by j [] = 0
moved_by j (r ∷ rs) = chosen (eqb r.job j && eqb r.told.code 0) 1 0 + moved_by j rs
