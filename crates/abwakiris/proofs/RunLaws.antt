-- The run as a row: device, program 1, program 2, schedule, room, run. Each exit of the code is one place of that row.
use mathlib.Core.Bool.{true}
use mathlib.Core.List.{List}
use mathlib.Core.Path.{◌≡◌, refl, sym, ap}
use native.Mathlib.Omega.{arith}
use Prim.Native.Nat.{ℕ, ◌*◌, ◌/◌, ◌≤◌, ◌<◌}
use borrow.Author.Tests.{le-leb, lt-leb}
use lib.Dec.{leb}
use lib.ListN.{length}
use Rattle.answers.specs.Check.{Check, ok, refused, refusal, ◌>>=◌, ◌>>◌, need, within}
use Rattle.answers.specs.declared.File.TheVariants.{Device, Schedule, Program}
use Rattle.answers.specs.declared.Moved.{Moved}
use Rattle.answers.specs.declared.Refusal.{Refusal}
use Rattle.std.specs.Prelude.{Result, Ok, Err}
use Rattle.answers.proofs.Laws.{ok_not_refused}
use Rattle.rules.specs.declared.device.DeviceHeader.{DeviceHeader}
use Rattle.rules.specs.Device as rules
use Rattle.rules.specs.Device.{read_device}
use Rattle.rules.specs.Syntax as syntax
use Rattle.rules.specs.Program.{read_program}
use Rattle.rules.specs.Run.{Turn, turns}
use Rattle.rules.specs.Promises.{run_written, run_of}
use Rattle.device.specs.Reader.{Reads}
use Rattle.program.specs.declared.functions.FunctionTable.{FunctionTable}
use Rattle.machine.specs.Scheduled.{scheduled}
use Rattle.machine.specs.Runs.{Loaded, Runs}
use Rattle.machine.proofs.Scheduling.{Scheduled}
use Rattle.abwakiris.specs.Runs.{ended}

-- what refuses a schedule refuses whatever would come after it
schedule_refuses : (s : List ℕ) (x : Refusal) {A : Type 0} (k : List Turn → Check A) → refused x ≡ scheduled s
    → ◌≡◌ {A = Check A} (refused x) (within Schedule (need (leb (length s) 4096) 22 0) >> (within Schedule (turns 2 0 s) >>= k))
unfolding scheduled ◌>>◌ ◌>>=◌
schedule_refuses s x {A} k e = go (within Schedule (need (leb (length s) 4096) 22 0)) (within Schedule (turns 2 0 s)) e
  where
    again : Check (Unit {0}) → Check A
    again (ok u) = refused x
    again (refused y) = refused y

    go : (m : Check (Unit {0})) (n : Check (List Turn)) → ◌≡◌ {A = Check (Unit {0})} (refused x) (m >> (n >> ok tt))
        → ◌≡◌ {A = Check A} (refused x) (m >> (n >>= k))
    go (ok u) (ok ts) e = ok_not_refused (sym e)
    go (ok u) (refused y) e = ap again e
    go (refused y) n e = ap again e

-- what is read of all that is given
pub record Inputs (device s₁ s₂ schedule : List ℕ) : Type 0 where
  pub D : rules.Device
  pub p : syntax.Program
  pub q : syntax.Program
  pub reads : read_device device ≡ ok D
  pub first : read_program s₁ ≡ ok p
  pub second : read_program s₂ ≡ ok q
  pub may_run : Scheduled schedule

module _ (device s₁ s₂ schedule before₁ before₂ : List ℕ) where
  abbrev Promised : Result Moved Refusal → List ℕ → List ℕ → Type 0
  Promised r now₁ now₂ = ended r now₁ now₂ ≡ run_of device s₁ s₂ schedule before₁ before₂

  pub run_no_device : (x : Refusal) → refused x ≡ within Device (read_device device) → Promised (Err x) before₁ before₂
  unfolding ◌>>=◌
  run_no_device x e = rw (sym e) refl

  module _ (D : rules.Device) (d : read_device device ≡ ok D) where
    pub run_no_first : (x : Refusal) → refused x ≡ within (Program 1) (read_program s₁) → Promised (Err x) before₁ before₂
    unfolding ◌>>=◌
    run_no_first x e = rw (d, sym e) refl

    module _ (p : syntax.Program) (a : read_program s₁ ≡ ok p) where
      pub run_no_second : (x : Refusal) → refused x ≡ within (Program 2) (read_program s₂) → Promised (Err x) before₁ before₂
      unfolding ◌>>=◌
      run_no_second x e = rw (d, a, sym e) refl

      module _ (q : syntax.Program) (b : read_program s₂ ≡ ok q) where
        pub run_no_schedule : (x : Refusal) → refused x ≡ scheduled schedule → Promised (Err x) before₁ before₂
        unfolding ◌>>=◌
        run_no_schedule x e = rw (d, a, b) (ap (λ c. run_written before₁ before₂ c) (schedule_refuses schedule x _ e))

  -- where all that is given reads
  module _ (I : Inputs device s₁ s₂ schedule) where
    in_time : leb (length schedule) 4096 ≡ true
    in_time = le-leb (length schedule) 4096 I.may_run.short

    pub run_no_records : length before₁ / 4 < length schedule → Promised (Err (refusal 24 0)) before₁ before₂
    unfolding ◌>>=◌ ◌>>◌
    run_no_records h =
        let room = lt-leb (4 * length schedule) (length before₁) (omega (arith, h)) in
        rw (I.reads, I.first, I.second, in_time, I.may_run.turns_so, room) refl

    pub run_no_map : length schedule ≤ length before₁ / 4 → length before₂ < length I.D.owners
        → Promised (Err (refusal 24 0)) before₁ before₂
    unfolding ◌>>=◌ ◌>>◌
    run_no_map h k =
        let room = le-leb (4 * length schedule) (length before₁) (omega (arith, h)) in
        rw (I.reads, I.first, I.second, in_time, I.may_run.turns_so, room, lt-leb (length I.D.owners) (length before₂) k) refl

    pub run_done : length schedule ≤ length before₁ / 4 → length I.D.owners ≤ length before₂
        → (h : DeviceHeader) (t₁ : FunctionTable) (main₁ : ℕ) (t₂ : FunctionTable) (main₂ : ℕ) (r : Moved) (now₁ now₂ : List ℕ)
        → Reads device h I.D → Loaded s₁ t₁ main₁ I.p → Loaded s₂ t₂ main₂ I.q
        → Runs device h s₁ t₁ main₁ s₂ t₂ main₂ schedule before₁ before₂ r now₁ now₂ → Promised (Ok r) now₁ now₂
    unfolding ◌>>=◌ ◌>>◌
    run_done l k h t₁ main₁ t₂ main₂ r now₁ now₂ Q L₁ L₂ R =
        let room = le-leb (4 * length schedule) (length before₁) (omega (arith, l)) in
        rw (I.reads, I.first, I.second, in_time, I.may_run.turns_so, room, le-leb (length I.D.owners) (length before₂) k)
        (R I.D I.p I.q Q L₁ L₂)
