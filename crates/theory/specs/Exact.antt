-- Demand 2, the check: it accepts exactly what the paper's rules, narrowed by the document, derive.
use Rattle.std.specs.Prelude.{Bool, List, [], ◌↔◌, ◌⊎◌, ◌≡◌, ℕ, ◌<◌, ◌≤◌}
use Rattle.answers.specs.Check.{ok}
use Rattle.answers.specs.declared.Counted.{Counted}
use Rattle.rules.specs.Device.{Device, read_device}
use Rattle.rules.specs.Region.{Region, region_of}
use Rattle.rules.specs.Syntax.{Side, device, Place, Block, Program}
use Rattle.rules.specs.Program.{read_program}
use Rattle.rules.specs.Slots.{unbound, qubit, slot}
use Rattle.rules.specs.Commands.{Commands, size_of, walk}
use Rattle.rules.specs.Typing.{Env, Typed, Signature, Context, main_context, start, type_program, live_in}
use Rattle.rules.specs.Figures.{BlockRule, MainRule, FunctionsRule, Connects, ProgramRule}
use Rattle.rules.specs.Promises.{check_of}
use Rattle.theory.specs.WellRead.{ProgramRead}

-- The job is 1 or 2, both files read, and T-Prog derives the program for the job's region. The count is the size of its commands, at most 65,535; the
-- number left live is that of the qubits in the environment that main ends with.
pub record Accepts (deviceFile programFile : List ℕ) (job : ℕ) (a : Counted) : Type 0 where
  pub a_job : (job ≡ 1) ⊎ (job ≡ 2)
  pub the_device : Device
  pub the_program : Program
  pub device_reads : read_device deviceFile ≡ ok the_device
  pub program_reads : read_program programFile ≡ ok the_program
  pub commands : Commands device
  pub ends : Env device
  pub derived : ProgramRule (region_of the_device job) the_program ends commands
  pub count : size_of commands ≡ a.count
  pub live : live_in ends ≡ a.live
  pub small : a.count ≤ 65535

abbrev pub ExactCheck : Type 0
ExactCheck =
    (deviceFile programFile : List ℕ) (job : ℕ) (a : Counted) → (check_of deviceFile programFile job ≡ ok a) ↔ Accepts deviceFile programFile job a

-- what T-Fundecl and T-Prog ask of a program, Figure 12 apart
pub record Derives (owned : List Bool) (p : Program) (t : Typed device) : Type 0 where
  pub signatures : List Signature
  pub functions : FunctionsRule p.functions [] signatures
  pub main : MainRule (main_context owned signatures) (start owned) p.main t.env t.commands

-- Typing accepts exactly what the rules derive, with the same environment and commands. So its sentence about calls (an argument that the callee ended
-- without is unbound, its location free) agrees with the rule's (the callee's environment, substituted).
abbrev pub ExactTyping : Type 0
ExactTyping = (owned : List Bool) (size : ℕ) (p : Program) (t : Typed device) → ProgramRead size p → (type_program owned p ≡ ok t) ↔ Derives owned p t

-- For a typed program the walk that tests only merges decides Figure 12.
abbrev pub WalkDecides : Type 0
WalkDecides = (R : Region) (size : ℕ) (p : Program) (t : Typed device) (L : List Bool) → ProgramRead size p → Derives R.owned p t
    → (walk R R.owned t.commands ≡ ok L) ↔ Connects R R.owned t.commands L

-- What 18 and 19 compare: a typed block ends with every slot as on entry, but for qubits that it freed.
abbrev pub EndsAlike : Type 0
EndsAlike = (s : Side) (C : Context s) (Γ Δ : Env s) (b : Block s) (c : Commands s) → BlockRule C Γ b Δ c → (x : ℕ) → x < 32
    → (slot Δ.slots x ≡ slot Γ.slots x) ⊎ ((l : Place s) × (slot Γ.slots x ≡ qubit l) × (slot Δ.slots x ≡ unbound))
