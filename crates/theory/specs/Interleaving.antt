-- Demand 3, any interleaving: records, device and all jobs end as if each job in turn had all its steps, keeping its own outcomes in order. For any
-- number of jobs, any programs, any schedule; two jobs are a case.
use Rattle.std.specs.Prelude.{true, ◌||◌, List, [], ◌∷◌, ◌++◌, ◌≡◌, ℕ, eqb}
use Rattle.rules.specs.Basics.{chosen, all, any, distinct}
use Rattle.rules.specs.Device.{Device}
use Rattle.rules.specs.Syntax.{Program}
use Rattle.rules.specs.Run.{Turn, Told, started, final, records}

-- the turns of job j, and the records of job j
abbrev pub turns_of : ℕ → List Turn → List Turn
turns_of j [] = []
turns_of j (t ∷ ts) = chosen (eqb t.job j) (t ∷ turns_of j ts) (turns_of j ts)

abbrev pub records_of : ℕ → List Told → List Told
records_of j [] = []
records_of j (r ∷ rs) = chosen (eqb r.job j) (r ∷ records_of j rs) (records_of j rs)

-- all the turns of the first job, then all of the next, and so on
abbrev pub in_order : List ℕ → List Turn → List Turn
in_order [] ts = []
in_order (j ∷ js) ts = turns_of j ts ++ in_order js ts

-- two schedules end alike from the fresh start: the occupancy map, all jobs' states, and each job's records
pub record Alike (D : Device) (programs : ℕ → Program) (ts us : List Turn) : Type 0 where
  pub device : (final D programs ts (started D programs)).occupancy ≡ (final D programs us (started D programs)).occupancy
  pub jobs : (final D programs ts (started D programs)).jobs ≡ (final D programs us (started D programs)).jobs
  pub told : (j : ℕ) → records_of j (records D programs ts (started D programs)) ≡ records_of j (records D programs us (started D programs))

abbrev pub AnyInterleaving : Type 0
AnyInterleaving =
    (D : Device) (programs : ℕ → Program) (js : List ℕ) (ts : List Turn) → distinct js ≡ true → all (λ t. any (eqb t.job) js) ts ≡ true
    → Alike D programs ts (in_order js ts)

-- job 1 has all its steps first and job 2 then
abbrev pub TwoJobs : Type 0
TwoJobs = (D : Device) (programs : ℕ → Program) (ts : List Turn) → all (λ t. eqb t.job 1 || eqb t.job 2) ts ≡ true
    → Alike D programs ts (turns_of 1 ts ++ turns_of 2 ts)
