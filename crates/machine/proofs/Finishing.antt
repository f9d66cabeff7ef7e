-- A run from both jobs fresh: the machine that the code starts with stands for the rules' started machine, and what all turns give, written into the two
-- buffers, is what the promise says.
use mathlib.Core.List.{List, [], ◌∷◌, map}
use mathlib.Core.Path.{◌≡◌, refl, sym, ap, ap₂, ◌∙◌}
use native.Mathlib.Omega.{arith}
use Prim.Native.Nat.{ℕ, ◌*◌, ◌≤◌}
use lib.ListN.{length, take, replicate, length-replicate, length-map}
use lib.Seq.{sets}
use Rattle.std.proofs.Math.Logic.{∥∥₁_elim}
use Rattle.std.specs.Coded.{Coded-set, coded_ℕ}
use Rattle.answers.specs.Check.{Check, ok, refused}
use Rattle.answers.proofs.Laws.{ok_not_refused}
use Rattle.rules.specs.declared.device.DeviceHeader.{DeviceHeader}
use Rattle.rules.specs.Device.{Device, read_device}
use Rattle.rules.specs.Region.{region_of}
use Rattle.rules.specs.Syntax.{Program}
use Rattle.rules.specs.Run as run
use Rattle.rules.specs.Run.{Turn, Told, started, after, final, records, record_bytes, moved_by}
use Rattle.rules.specs.Promises.{over, Ran, run_written}
use Rattle.device.specs.Reader.{Reads, Owned, RowsOf}
use Rattle.device.proofs.DeviceLaws.{known, reads_as}
use Rattle.program.specs.declared.functions.FunctionTable.{FunctionTable}
use Rattle.program.specs.Reading.{Reading}
use Rattle.program.proofs.In.{program_in}
use Rattle.program.proofs.Whole.{whole}
use Rattle.steps.specs.declared.job.Job.{Job}
use Rattle.steps.specs.Stepping.{Begins, Starts}
use Rattle.steps.proofs.Applying.{maps_empty, maps_first}
use Rattle.theory.specs.TheRun.{turn_of}
use Rattle.answers.specs.declared.Moved.{Moved}
use Rattle.machine.specs.declared.turn.Machine.{Machine}
use Rattle.machine.specs.declared.turn.Player.{Player}
use Rattle.machine.specs.declared.turn.Players.{Players}
use Rattle.machine.specs.Running.{programs, Seated, Both, Holds, Dealing, Dealt, Deals}
use Rattle.machine.specs.Runs.{Loaded, Runnable, finished}
use Rattle.machine.proofs.Writing.{sets_over}

-- the device that a file reads as, where it is only known that there is one
pub device_of : {s : List ℕ} {h : DeviceHeader} → ∥ ((D : Device) × Reads s h D) ∥₁ → (D : Device) × Reads s h D
device_of {s} {h} t = go (read_device s) refl
  where
    go : (m : Check Device) → read_device s ≡ m → (D : Device) × Reads s h D
    go (ok D) e = (
      D,
      record {
        reads = e;
        locations = ∥∥₁_elim t (Coded-set coded_ℕ _ _) (λ r. (reads_as r.1 e).locations);
        edges = ∥∥₁_elim t (Coded-set coded_ℕ _ _) (λ r. (reads_as r.1 e).edges);
      },
    )
    go (refused x) e = absurd (∥∥₁_elim t (λ a b. absurd a) (λ r. ok_not_refused (sym r.1.reads ∙ e)))

-- a program that was read begins, and is seated in its region
pub begins : {s : List ℕ} {t : FunctionTable} {main : ℕ} → Reading s t main → Begins s main
begins R = let w = whole R in record { p = w.it; program = w.stands; main_at_lem = w.tabled.main_at_lem }

pub loaded : {s : List ℕ} {t : FunctionTable} {main : ℕ} → Reading s t main → (p : Program) × Loaded s t main p
loaded R = let w = whole R in (w.it, record { reads = w.reads; tabled = w.tabled })

seated : (c : Player) (main : ℕ) (p : Program) (D : Device) (j : ℕ) → Loaded c.bytes.now c.functions.now main p → Owned (region_of D j) c.owned
    → RowsOf (region_of D j) c.rows.now → Seated c p (region_of D j)
seated c main p D j L O R = record { program = program_in c.bytes.now p L.reads; heads = L.tabled.heads; owned = O; rows_are = R }

-- ---- how many bytes the records have
record_bytes_lem : (D : Device) (P : ℕ → Program) (ts : List Turn) (M : run.Machine) → length (record_bytes (records D P ts M)) ≡ 4 * length ts
record_bytes_lem D P [] M = refl
record_bytes_lem D P (t ∷ ts) M = let e = record_bytes_lem D P ts (after D P t M) in omega (arith, e)

module _ (device : List ℕ) (h : DeviceHeader) (c : Players) (main₁ main₂ : ℕ) (schedule : List ℕ) (D : Device) (p q : Program) (Q : Reads device h D)
    (L₁ : Loaded c.first.bytes.now c.first.functions.now main₁ p)
    (L₂ : Loaded c.second.bytes.now c.second.functions.now main₂ q) where
  abbrev told : List Told
  told = records D (programs p q) (map turn_of schedule) (started D (programs p q))

  abbrev end : run.Machine
  end = final D (programs p q) (map turn_of schedule) (started D (programs p q))

  -- all turns dealt, and the map written
  ran : (before₁ before₂ now₁ now₂ : List ℕ) (m : Machine) (r : Moved) → 4 * length schedule ≤ length before₁ → h.locations ≤ length before₂
      → Dealt c D p q (started D (programs p q)) (map turn_of schedule) before₁ m r now₁ → now₂ ≡ sets before₂ 0 (take h.locations m.map)
      → ◌≡◌ {A = Ran} (record { answer = ok r; records = now₁; map = now₂ })
      (run_written before₁ before₂
      (ok (finished device h c.first.bytes.now c.first.functions.now main₁ c.second.bytes.now c.second.functions.now main₂ schedule D p q)))
  ran before₁ before₂ now₁ now₂ m r f g E w = rw (answers, records_are, map_is) refl
    where
      answers : r ≡ record { first = moved_by 1 told; second = moved_by 2 told }
      answers = ap₂ (λ (a b : ℕ). record { first = a; second = b }) E.first E.second

      records_are : now₁ ≡ over (record_bytes told) before₁
      records_are =
          let k = record_bytes_lem D (programs p q) (map turn_of schedule) (started D (programs p q)) in
          let l = length-map schedule turn_of in
          E.written ∙ sets_over (record_bytes told) before₁ (omega (arith, k, l, f))

      map_is : now₂ ≡ over end.occupancy before₂
      map_is =
          let v = known Q in
          let n : h.locations ≡ length end.occupancy = Q.locations ∙ sym E.long in
          let t : take h.locations m.map ≡ end.occupancy =
          ap (λ (x : ℕ). take x m.map) n ∙ maps_first m.map end.occupancy (omega (arith, n, v.few)) E.maps in
          w ∙ ap (sets before₂ 0) t ∙ sets_over end.occupancy before₂ (omega (arith, n, g))

  -- the players are those of the device, and both jobs are fresh
  module _ (o₁ : Owned (region_of D 1) c.first.owned) (r₁ : RowsOf (region_of D 1) c.first.rows.now) (o₂ : Owned (region_of D 2) c.second.owned)
      (r₂ : RowsOf (region_of D 2) c.second.rows.now) (j₁ j₂ : Job) (s₁ : Starts c.first.bytes.now main₁ j₁) (s₂ : Starts c.second.bytes.now main₂ j₂) where
    abbrev fresh : Machine
    fresh = record { map = replicate 256 0; first = j₁; second = j₂ }

    both : Both c D p q
    both = record { first = seated c.first main₁ p D 1 L₁ o₁ r₁; second = seated c.second main₂ q D 2 L₂ o₂ r₂ }

    fresh_holds : Holds c D p q (started D (programs p q)) fresh
    fresh_holds = record {
      first = s₁ p (program_in c.first.bytes.now p L₁.reads) L₁.tabled.main_at_lem;
      second = s₂ q (program_in c.second.bytes.now q L₂.reads) L₂.tabled.main_at_lem;
      maps = maps_empty (length D.owners);
      long = length-replicate {A = ℕ} (length D.owners) 0;
    }

    pub dealing : {room₁ room₂ : ℕ} → Runnable h schedule room₁ room₂ → Dealing c fresh schedule room₁
    dealing A = record { D = D; p = p; q = q; M = _; both = both; holds = fresh_holds; fits = A.fits }

    pub run_is : (before₁ before₂ now₁ now₂ : List ℕ) (m : Machine) (r : Moved) → Runnable h schedule (length before₁) (length before₂)
        → Deals c fresh schedule before₁ m r now₁ → now₂ ≡ sets before₂ 0 (take h.locations m.map)
        → ◌≡◌ {A = Ran} (record { answer = ok r; records = now₁; map = now₂ })
        (run_written before₁ before₂
        (ok (finished device h c.first.bytes.now c.first.functions.now main₁ c.second.bytes.now c.second.functions.now main₂ schedule D p q)))
    run_is before₁ before₂ now₁ now₂ m r A E w =
        ran before₁ before₂ now₁ now₂ m r A.fits A.map_fits (E D p q (started D (programs p q)) both fresh_holds) w
