-- What the run of two read programs on a read device promises: the answer and the final bytes of both buffers are those of the promise's finished run.
use Rattle.std.specs.Prelude.{List, map, ◌≡◌, ℕ, ◌*◌, ◌≤◌, length}
use Rattle.answers.specs.Check.{ok}
use Rattle.answers.specs.declared.Moved.{Moved}
use Rattle.rules.specs.declared.device.DeviceHeader.{DeviceHeader}
use Rattle.rules.specs.Device.{Device}
use Rattle.rules.specs.Syntax.{Program}
use Rattle.rules.specs.Program.{read_program}
use Rattle.rules.specs.Run.{started, final, records}
use Rattle.rules.specs.Promises.{Finished, Ran, run_written}
use Rattle.device.specs.Reader.{Reads}
use Rattle.program.specs.declared.functions.FunctionTable.{FunctionTable}
use Rattle.program.specs.Reader.{Tabled}
use Rattle.theory.specs.TheRun.{turn_of}
use Rattle.machine.specs.Running.{programs}

-- a program's file reads as p, and the table and main's place are its
pub record Loaded (s : List ℕ) (t : FunctionTable) (main : ℕ) (p : Program) : Type 0 where
  pub reads : read_program s ≡ ok p
  pub tabled : Tabled p t main

-- all that a run asks: room
pub record Runnable (h : DeviceHeader) (schedule : List ℕ) (room₁ room₂ : ℕ) : Type 0 where
  pub fits : 4 * length schedule ≤ room₁
  pub map_fits : h.locations ≤ room₂

module _ (device : List ℕ) (h : DeviceHeader) (s₁ : List ℕ) (t₁ : FunctionTable) (main₁ : ℕ) (s₂ : List ℕ) (t₂ : FunctionTable)
    (main₂ : ℕ)
    (schedule : List ℕ) where
  -- both jobs fresh, the schedule's turns dealt out
  abbrev pub finished : Device → Program → Program → Finished
  finished D p q = record {
    records = records D (programs p q) (map turn_of schedule) (started D (programs p q));
    machine = final D (programs p q) (map turn_of schedule) (started D (programs p q));
  }

  abbrev pub Runs : List ℕ → List ℕ → Moved → List ℕ → List ℕ → Type 0
  Runs before₁ before₂ r now₁ now₂ =
      (D : Device) (p q : Program) → Reads device h D → Loaded s₁ t₁ main₁ p → Loaded s₂ t₂ main₂ q
      → ◌≡◌ {A = Ran} (record { answer = ok r; records = now₁; map = now₂ }) (run_written before₁ before₂ (ok (finished D p q)))
