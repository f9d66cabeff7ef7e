-- The row of the promise's checks, each exit at its place.
use mathlib.Core.Path.{◌≡◌, ap, ◌∙◌}
use native.Mathlib.Omega.{arith}
use mathlib.Core.List.{List}
use Prim.Native.Nat.{ℕ}
use Rattle.std.specs.Prelude.{Err}
use Rattle.answers.specs.Check.{Check, ok, within, ◌>>◌}
use Rattle.answers.specs.declared.File.TheVariants.{Device, Program}
use Rattle.answers.proofs.Passed.{passed_as}
use Rattle.rules.specs.Device as rules
use Rattle.rules.specs.declared.device.DeviceHeader.{DeviceHeader}
use Rattle.rules.specs.Program.{read_program}
use Rattle.device.specs.Reader.{Reads, device_read}
use Rattle.device.proofs.DeviceLaws.{read_gives, read_refuses}
use Rattle.machine.specs.Scheduled.{scheduled}
use Rattle.machine.proofs.Scheduling.{may_run}
use Rattle.abwakiris.specs.Runs.{ended}
use Rattle.abwakiris.proofs.CheckLaws.{program_gives, program_refuses}
use Rattle.abwakiris.proofs.RunLaws.{Inputs, run_no_device, run_no_first, run_no_second, run_no_schedule, run_no_records, run_no_map, run_done}
use Rattle.abwakiris.proofs.runs.run.Goals as goal

-- what the device, the two programs and the schedule are read to be, where none refuses
record Given (device first second schedule : List ℕ) (h : DeviceHeader) : Type 0 where
  pub inputs : Inputs device first second schedule
  pub the_device : Reads device h inputs.D

abbrev given : (device first second schedule : List ℕ) (h : DeviceHeader) → ok h ≡ within Device (device_read device)
    → ◌≡◌ {A = Check (Unit {0})} (ok tt) (within (Program 1) (read_program first >> ok tt))
    → ◌≡◌ {A = Check (Unit {0})} (ok tt) (within (Program 2) (read_program second >> ok tt)) → ok tt ≡ scheduled schedule
    → Given device first second schedule h
given device first second schedule h d a b s =
    let g = read_gives device Device h d in
    let p = program_gives first 1 a in
    let q = program_gives second 2 b in
    record {
      inputs = record { D = g.0; p = p.0; q = q.0; reads = g.1.reads; first = p.1; second = q.1; may_run = may_run schedule s };
      the_device = g.1;
    }

pub returns-in_err-device : goal.returns-in_err-device
returns-in_err-device c =
    let a = c.args in
    ap (λ r. ended r a.records.now a.map.now) (passed_as _ c.from_residual.ensures.1)
    ∙ run_no_device a.device.now a.first.now a.second.now a.schedule.now a.records.now a.map.now _ (read_refuses _ Device _ c.in_err-device.ensures.said)

pub returns-in_err-one : goal.returns-in_err-one
returns-in_err-one c =
    let a = c.args in
    let g = read_gives a.device.now Device _ c.in_ok-device.ensures.said in
    ap (λ r. ended r a.records.now a.map.now) (passed_as _ c.from_residual-in_err-one.ensures.1)
    ∙ run_no_first a.device.now a.first.now a.second.now a.schedule.now a.records.now a.map.now g.0 g.1.reads _
    (program_refuses a.first.now 1 _ c.in_err-one.ensures.answers)

pub returns-in_err-two : goal.returns-in_err-two
returns-in_err-two c =
    let a = c.args in
    let g = read_gives a.device.now Device _ c.in_ok-device.ensures.said in
    let p = program_gives a.first.now 1 c.in_ok-one.ensures.answers in
    ap (λ r. ended r a.records.now a.map.now) (passed_as _ c.from_residual-in_err-two.ensures.1)
    ∙ run_no_second a.device.now a.first.now a.second.now a.schedule.now a.records.now a.map.now g.0 g.1.reads p.0 p.1 _
    (program_refuses a.second.now 2 _ c.in_err-two.ensures.answers)

pub returns-in_err-turns : goal.returns-in_err-turns
returns-in_err-turns c =
    let a = c.args in
    let g = read_gives a.device.now Device _ c.in_ok-device.ensures.said in
    let p = program_gives a.first.now 1 c.in_ok-one.ensures.answers in
    let q = program_gives a.second.now 2 c.in_ok-two.ensures.answers in
    ap (λ r. ended r a.records.now a.map.now) (passed_as _ c.from_residual-in_err-turns.ensures.1)
    ∙ run_no_schedule a.device.now a.first.now a.second.now a.schedule.now a.records.now a.map.now g.0 g.1.reads p.0 p.1 q.0 q.1 _
    c.in_err-turns.ensures.passed

pub returns-then-records-schedule : goal.returns-then-records-schedule
returns-then-records-schedule c =
    let a = c.args in
    let g = given _ _ _ _ _ c.in_ok-device.ensures.said c.in_ok-one.ensures.answers c.in_ok-two.ensures.answers c.in_ok-turns.ensures.passed in
    ap (λ x. ended (Err x) a.records.now a.map.now) c.at.ensures
    ∙ run_no_records a.device.now a.first.now a.second.now a.schedule.now a.records.now a.map.now g.inputs (omega (arith, c.if-records-schedule.true))

pub returns-then-map-device : goal.returns-then-map-device
returns-then-map-device c =
    let a = c.args in
    let g = given _ _ _ _ _ c.in_ok-device.ensures.said c.in_ok-one.ensures.answers c.in_ok-two.ensures.answers c.in_ok-turns.ensures.passed in
    ap (λ x. ended (Err x) a.records.now a.map.now) c.at-then-map-device.ensures
    ∙ run_no_map a.device.now a.first.now a.second.now a.schedule.now a.records.now a.map.now g.inputs
    (omega (arith, c.if-records-schedule.false)) (omega (arith, c.if-map-device.true, g.the_device.locations))

pub run-requires : goal.run-requires
run-requires c = record {
  fits = rw c.in_ok-turns.ensures.bytes (omega (arith, c.if-records-schedule.false));
  map_fits = omega (arith, c.if-map-device.false);
}

pub returns : goal.returns
returns c =
    let a = c.args in
    let d = c.in_ok-device.ensures in
    let one = c.in_ok-one.ensures in
    let two = c.in_ok-two.ensures in
    let g = given _ _ _ _ _ d.said one.answers two.answers c.in_ok-turns.ensures.passed in
    let i = g.inputs in
    let r = c.run in
    run_done a.device.now a.first.now a.second.now a.schedule.now a.records.now a.map.now i
    (omega (arith, c.if-records-schedule.false)) (omega (arith, c.if-map-device.false, g.the_device.locations)) _ _ _ _ _ r.result _ _ g.the_device
    (record { reads = i.first; tabled = one.tables i.p i.first }) (record { reads = i.second; tabled = two.tables i.q i.second })
    (rw (d.bytes, one.bytes, two.bytes, c.in_ok-turns.ensures.bytes) at r.ensures)
