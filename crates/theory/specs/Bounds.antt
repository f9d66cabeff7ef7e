-- What every answer stays within, so that an export's packing keeps it whole: a number of 1 to 26, a place in a file of at most 4,096 bytes, a file that
-- names job 0, 1 or 2; 1 to 256 locations, a count of at most 65,535, at most 32 left live, a route of at most 256 locations, at most 4,096 steps moved.
use Rattle.std.specs.Prelude.{List, ℕ, ◌≤◌}
use Rattle.answers.specs.Check.{Check, ok, refused}
use Rattle.answers.specs.declared.File.{File}
use Rattle.answers.specs.declared.File.TheVariants.{NoFile, Device, Schedule, Listing, Program}
use Rattle.answers.specs.declared.Refusal.{Refusal}
use Rattle.rules.specs.Promises.{read_device_of, read_program_of, check_of, route_of, run_of}

-- the job whose program the file is, 0 where it is none's
abbrev pub job_named : File → ℕ
job_named NoFile = 0
job_named Device = 0
job_named Schedule = 0
job_named Listing = 0
job_named (Program j) = j

pub record Given (r : Refusal) : Type 0 where
  pub from_1 : 1 ≤ r.number
  pub to_26 : r.number ≤ 26
  pub in_file : r.place ≤ 4096
  pub named : job_named r.file ≤ 2

-- the value of a check has one property, its refusal another
pub data WithinBy (G : Refusal → Type 0) {A : Type 0} (P : A → Type 0) : Check A → Type 0 where
  value : {a : A} → P a → WithinBy G P (ok a)
  refusal : {r : Refusal} → G r → WithinBy G P (refused r)

-- its refusal is one that is given
abbrev pub Within : {A : Type 0} → (A → Type 0) → Check A → Type 0
Within P m = WithinBy Given P m

abbrev pub ReadDeviceWithin : Type 0
ReadDeviceWithin = (device : List ℕ) → Within (λ n. (1 ≤ n) × (n ≤ 256)) (read_device_of device)

abbrev pub ReadProgramWithin : Type 0
ReadProgramWithin = (program : List ℕ) → Within (λ u. Unit {0}) (read_program_of program)

abbrev pub CheckWithin : Type 0
CheckWithin = (device program : List ℕ) (job : ℕ) → Within (λ a. (a.count ≤ 65535) × (a.live ≤ 32)) (check_of device program job)

abbrev pub RouteWithin : Type 0
RouteWithin = (device : List ℕ) (job : ℕ) (occupancy : List ℕ) (a b : ℕ) (buffer : List ℕ)
    → Within (λ n. n ≤ 256) (route_of device job occupancy a b buffer).answer

abbrev pub RunWithin : Type 0
RunWithin = (device first second schedule records map : List ℕ)
    → Within (λ m. (m.first ≤ 4096) × (m.second ≤ 4096)) (run_of device first second schedule records map).answer
