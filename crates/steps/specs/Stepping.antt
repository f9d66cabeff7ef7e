-- What a step promises: whatever job of the rules the code's job stands for, and over whatever region and occupancy it is given, the job after the
-- step stands for the rules' job after the step, and what the step tells and does is what the rules' step tells and does.
use Rattle.std.specs.Prelude.{Bool, List, ◌≡◌, ℕ, ◌<◌, Result, Ok}
use Rattle.answers.specs.declared.Fault.{Fault}
use Rattle.rules.specs.Region.{Region, free_in}
use Rattle.rules.specs.Syntax.{Program}
use Rattle.rules.specs.Machine as rules
use Rattle.rules.specs.Machine.{fresh, step}
use Rattle.sets.specs.declared.LocationSet.{LocationSet}
use Rattle.sets.specs.declared.rows.Rows.{Rows}
use Rattle.device.specs.Reader.{Owned, RowsOf}
use Rattle.program.specs.declared.functions.FunctionTable.{FunctionTable}
use Rattle.program.specs.In.{ProgramIn, offset_of}
use Rattle.program.specs.Reader.{Heads}
use Rattle.steps.specs.declared.Effect.{Effect}
use Rattle.steps.specs.declared.Stepped.{Stepped}
use Rattle.steps.specs.declared.job.Job.{Job}
use Rattle.steps.specs.State.{here_of}
use Rattle.steps.specs.Standing.{Stands}
use Rattle.steps.specs.Performing.{Maps}
use Rattle.steps.specs.Told.{told, silent, act_of, record_of}

-- a step that leaves the job j and tells r is the rules' step S
abbrev pub Follows : List ℕ → Program → rules.Stepped → Job → Stepped → Type 0
Follows s p S j r = Stands s p S.next j × (r.record ≡ record_of S.answer) × (r.act ≡ act_of S.act)

-- a job that stands for some job of a program that was read
pub record Steady (s : List ℕ) (j : Job) : Type 0 where
  pub p : Program
  pub J : rules.Job
  pub program : ProgramIn s p
  pub stands : Stands s p J j

-- with a statement to come, which is at that offset
pub record Comes (s : List ℕ) (j : Job) (at : ℕ) : Type 0 where
  pub steady : Steady s j
  pub some : 0 < j.top.n
  pub here : at ≡ here_of j.top

-- Each of these is between the job before and the job after.

-- the return of a call that was at that offset
abbrev pub Returns : List ℕ → Job → Job → ℕ → Type 0
Returns s before after at =
    (p : Program) (J : rules.Job) (R : Region) (v : Bool) (is_free : ℕ → Bool) → ProgramIn s p → Stands s p J before
    → Follows s p (step R p.functions v is_free J) after (told (Ok silent) at)

-- a step that asks nothing of the region
abbrev pub Anyway : List ℕ → ℕ → Job → Job → Result Effect Fault → Type 0
Anyway s at before after r =
    (p : Program) (J : rules.Job) (R : Region) (v : Bool) (is_free : ℕ → Bool) → ProgramIn s p → Stands s p J before
    → Follows s p (step R p.functions v is_free J) after (told r at)

-- the byte is not that of an if, a while or a call
pub record NoBlock (b : ℕ) : Type 0 where
  pub no_if : b ≡ 10 → ⊥
  pub no_while : b ≡ 11 → ⊥
  pub no_call : b ≡ 12 → ⊥

-- the step of an operation
abbrev pub Acts : List ℕ → ℕ → Rows → LocationSet → List ℕ → Bool → Job → Job → Result Effect Fault → Type 0
Acts s at rows owned map v before after r =
    (p : Program) (J : rules.Job) (R : Region) (occupancy : List ℕ) → ProgramIn s p → Stands s p J before → Owned R owned → RowsOf R rows
    → Maps map occupancy
    → Follows s p (step R p.functions v (free_in R occupancy) J) after (told r at)

-- with the table of the program's functions
pub record Ready (s : List ℕ) (t : FunctionTable) (j : Job) : Type 0 where
  pub p : Program
  pub J : rules.Job
  pub program : ProgramIn s p
  pub heads : Heads p.functions t
  pub stands : Stands s p J j

-- the step of a call
abbrev pub Calls : List ℕ → FunctionTable → ℕ → LocationSet → List ℕ → Job → Job → Result Effect Fault → Type 0
Calls s t at owned map before after r =
    (p : Program) (J : rules.Job) (R : Region) (v : Bool) (occupancy : List ℕ) → ProgramIn s p → Heads p.functions t → Stands s p J before
    → Owned R owned → Maps map occupancy → Follows s p (step R p.functions v (free_in R occupancy) J) after (told r at)

-- any step, by what it tells
abbrev pub Steps : List ℕ → FunctionTable → Rows → LocationSet → List ℕ → Bool → Job → Job → Stepped → Type 0
Steps s t rows owned map v before after r =
    (p : Program) (J : rules.Job) (R : Region) (occupancy : List ℕ) → ProgramIn s p → Heads p.functions t → Stands s p J before
    → Owned R owned → RowsOf R rows → Maps map occupancy → Follows s p (step R p.functions v (free_in R occupancy) J) after r

-- the step of the statement at that offset
abbrev pub Goes : List ℕ → FunctionTable → ℕ → Rows → LocationSet → List ℕ → Bool → Job → Job → Result Effect Fault → Type 0
Goes s t at rows owned map v before after r = Steps s t rows owned map v before after (told r at)

-- a program that was read has its main block there
pub record Begins (s : List ℕ) (main : ℕ) : Type 0 where
  pub p : Program
  pub program : ProgramIn s p
  pub main_at_lem : main ≡ offset_of p.main

-- a job that has taken no step
abbrev pub Starts : List ℕ → ℕ → Job → Type 0
Starts s main r = (p : Program) → ProgramIn s p → main ≡ offset_of p.main → Stands s p (fresh p) r
