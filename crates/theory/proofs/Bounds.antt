-- What every answer stays within. Every definition is a row of checks, so one lemma for each of them says what its refusals and its value stay within,
-- and the lemmas follow the definitions: reading in BoundsRead, typing and the walk in BoundsTyped, the rest here. A run has one record for each byte of
-- its schedule, and each record counts once at most.
use mathlib.Core.Bool.{Bool, true, false, not, ◌&&◌, ◌||◌}
use mathlib.Core.List.{List, [], ◌∷◌}
use mathlib.Core.Path.{◌≡◌, refl, ap}
use native.Mathlib.Omega.{arith}
use Prim.Native.Nat.{ℕ, suc, ◌+◌, ◌*◌, ◌/◌, ◌%◌, ◌≤◌}
use lib.Dec.{eqb, leb}
use lib.ListN.{length}
use Rattle.answers.specs.Check.{Check, need}
use Rattle.answers.specs.declared.File.TheVariants as file
use Rattle.rules.specs.Basics.{chosen}
use Rattle.rules.specs.Device.{Device}
use Rattle.rules.specs.Region.{region_of, owns, free_in}
use Rattle.rules.specs.Path.{route}
use Rattle.rules.specs.Syntax.{Program}
use Rattle.rules.specs.Run.{Turn, turns, Machine, started, after, records, Told, moved_by}
use Rattle.rules.specs.Promises.{need_job, routed, route_written, Finished, ran, run_written}
use Rattle.theory.specs.Bounds.{Within, value, refusal as refuses}
use Rattle.theory.specs.Bounds.{ReadDeviceWithin, ReadProgramWithin, CheckWithin, RouteWithin, RunWithin}
use Rattle.rules.proofs.Tests.{eqb_true, at_most}
use Rattle.theory.proofs.Base.{chosen_has}
use Rattle.theory.proofs.Routes.{short_route}
use Rattle.theory.proofs.BoundsLaws.{bind_within, then_within, given, need_within, known_within, file_within}
use Rattle.theory.proofs.BoundsRead.{device_within, program_within}
use Rattle.theory.proofs.BoundsTyped.{route_given, judged_within}

-- a job is 1 or 2
job_within : (job : ℕ) → Within (λ u. job ≤ 2) (need_job job)
job_within job = go (eqb job 1) (eqb job 2) refl refl
  where
    go : (a b : Bool) → eqb job 1 ≡ a → eqb job 2 ≡ b → Within (λ u. job ≤ 2) (need (a || b) 25 0)
    go true b e f = value (omega (arith, eqb_true job 1 e))
    go false true e f = value (omega (arith, eqb_true job 2 f))
    go false false e f = refuses (given 25 0 refl (omega arith))

pub read_device_within : ReadDeviceWithin
read_device_within bytes = bind_within (file_within file.Device (omega arith) (device_within bytes)) λ D h. value h

pub read_program_within : ReadProgramWithin
read_program_within bytes = then_within (file_within (file.Program 0) (omega arith) (program_within bytes)) λ p h. value tt

pub check_within : CheckWithin
check_within bytes program job =
    then_within (job_within job) λ u j.
    bind_within (file_within file.Device (omega arith) (device_within bytes)) λ D h.
    bind_within (file_within (file.Program job) j (program_within program)) λ p k.
    file_within (file.Program job) j (judged_within (region_of D job) p k)

routed_within : (bytes : List ℕ) (job : ℕ) (occupancy : List ℕ) (a b room : ℕ)
    → Within (λ p. length p ≤ 256) (routed bytes job occupancy a b room)
routed_within bytes job occupancy a b room =
    then_within (job_within job) λ u₁ h₁.
    bind_within (file_within file.Device (omega arith) (known_within (device_within bytes))) λ D read.
    then_within (need_within (eqb (length occupancy) (length D.owners)) 26 0 refl (omega arith)) λ u₂ h₂.
    then_within (need_within (owns (region_of D job) a) 13 0 refl (omega arith)) λ u₃ h₃.
    then_within (need_within (owns (region_of D job) b) 13 1 refl (omega arith)) λ u₄ h₄.
    then_within (need_within (not (eqb a b)) 15 0 refl (omega arith)) λ u₅ h₅.
    let is_free : ℕ → Bool = free_in (region_of D job) occupancy in
    bind_within (route_given (route (region_of D job) is_free a b) 0 (omega arith)) λ p found.
    then_within (need_within (leb (length p) room) 24 0 refl (omega arith)) λ u₆ h₆.
    value (short_route bytes D job is_free a b p read.1 found)

pub route_within : RouteWithin
route_within bytes job occupancy a b buffer = go (routed_within bytes job occupancy a b (length buffer))
  where
    go : {m : Check (List ℕ)} → Within (λ p. length p ≤ 256) m → Within (λ n. n ≤ 256) (route_written buffer m).answer
    go (value h) = value h
    go (refuses h) = refuses h

turns_within : (jobs i : ℕ) (bs : List ℕ) → i + length bs ≤ 4096 → Within (λ ts. length ts ≡ length bs) (turns jobs i bs)
turns_within jobs i [] l = value refl
turns_within jobs i (b ∷ bs) l =
    then_within (need_within (leb 1 (b / 16) && leb (b / 16) jobs && leb (b % 16) 1) 23 i refl (omega arith)) λ u h.
    bind_within (turns_within jobs (suc i) bs (omega arith)) λ ts e. value (ap suc e)

records_many : (D : Device) (programs : ℕ → Program) (ts : List Turn) (M : Machine) → length (records D programs ts M) ≡ length ts
records_many D programs [] M = refl
records_many D programs (t ∷ ts) M = ap suc (records_many D programs ts (after D programs t M))

-- a record counts once at most
moved_few : (j : ℕ) (rs : List Told) → moved_by j rs ≤ length rs
moved_few j [] = omega arith
moved_few j (r ∷ rs) =
    let moved : Bool = eqb r.job j && eqb r.told.code 0 in
    let once : chosen moved 1 0 ≤ 1 = chosen_has (λ (n : ℕ). n ≤ 1) moved (omega arith) (omega arith) in
    omega (arith, moved_few j rs)

ran_within : (bytes first second schedule : List ℕ) (room₁ room₂ : ℕ)
    → Within (λ f. length f.records ≤ 4096) (ran bytes first second schedule room₁ room₂)
ran_within bytes first second schedule room₁ room₂ =
    bind_within (file_within file.Device (omega arith) (device_within bytes)) λ D h.
    bind_within (file_within (file.Program 1) (omega arith) (program_within first)) λ p k.
    bind_within (file_within (file.Program 2) (omega arith) (program_within second)) λ q j.
    then_within (file_within file.Schedule (omega arith) (need_within (leb (length schedule) 4096) 22 0 refl (omega arith))) λ u few.
    let short : length schedule ≤ 4096 = at_most (length schedule) 4096 few in
    bind_within (file_within file.Schedule (omega arith) (turns_within 2 0 schedule (omega arith))) λ ts e.
    then_within (need_within (leb (4 * length schedule) room₁ && leb (length D.owners) room₂) 24 0 refl (omega arith)) λ v r.
    let programs : ℕ → Program = λ i. chosen (eqb i 1) p q in
    value (omega (arith, records_many D programs ts (started D programs)))

pub run_within : RunWithin
run_within bytes first second schedule buffer map = go (ran_within bytes first second schedule (length buffer) (length map))
  where
    go : {m : Check Finished} → Within (λ f. length f.records ≤ 4096) m
        → Within (λ n. (n.first ≤ 4096) × (n.second ≤ 4096)) (run_written buffer map m).answer
    go (value {a = f} h) =
        let one : moved_by 1 f.records ≤ 4096 = omega (arith, moved_few 1 f.records) in
        let two : moved_by 2 f.records ≤ 4096 = omega (arith, moved_few 2 f.records) in
        value (one, two)
    go (refuses h) = refuses h
