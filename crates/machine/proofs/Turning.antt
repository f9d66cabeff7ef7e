-- A step taken is the rules' step, done to the map; a turn is the step of the job that its byte names, and the other job stays.
use mathlib.Core.Bool.{Bool, true}
use mathlib.Core.List.{List}
use mathlib.Core.Path.{◌≡◌, sym, ◌∙◌, subst}
use native.Mathlib.Omega.{arith}
use Prim.Native.Nat.{ℕ, ◌/◌, ◌%◌, ◌≤◌}
use lib.Dec.{eqb}
use lib.ListN.{length, length-map}
use Rattle.rules.specs.Device.{Device}
use Rattle.rules.specs.Region.{region_of}
use Rattle.rules.specs.Syntax.{Program}
use Rattle.rules.specs.Run as run
use Rattle.rules.specs.Run.{Turn, step_of, after}
use Rattle.steps.specs.declared.Record.{Record}
use Rattle.steps.specs.declared.Stepped.{Stepped}
use Rattle.steps.specs.declared.job.Job.{Job}
use Rattle.steps.specs.Stepping.{Steps}
use Rattle.steps.specs.Applying.{Applies}
use Rattle.steps.specs.Told.{record_of}
use Rattle.steps.proofs.Applying.{step_applied, length_written}
use Rattle.machine.specs.declared.turn.Player.{Player}
use Rattle.machine.specs.declared.turn.Players.{Players}
use Rattle.machine.specs.declared.turn.Machine.{Machine}
use Rattle.theory.specs.TheRun.{is_turn}
use Rattle.machine.specs.Running.{programs, Ready, Takes, Holds, Running, Turns}
use Rattle.theory.proofs.TheRun.{turn_bounds}

pub taken : (c : Player) (before : List ℕ) (j i : Job) (number : ℕ) (v : Bool) (r : Stepped) (now : List ℕ)
    → Steps c.bytes.now c.functions.now c.rows.now c.owned before v j i r
    → Applies r.act number before now → Takes c before j number v i r.record now
taken c before j i number v r now S A p J R occ T st M h =
    let F = S p J R occ T.program T.heads st T.owned T.rows_are M in
    (F.0, F.1, step_applied c.bytes.now p R v occ before now number J i r h M F A)

-- which job a turn's byte names, where it is not the first
pub of_second : (b : ℕ) → is_turn b ≡ true → (b / 16 ≡ 1 → ⊥) → b / 16 ≡ 2
of_second b e h = let t = turn_bounds b e in omega (arith, t.0, t.1, h)

module _ (c : Players) (m : Machine) (b : ℕ) where
  pub first_ready : Running c m b → Ready c.first m.first
  first_ready U = record { p = U.p; J = U.M.jobs 1; program = U.both.first.program; heads = U.both.first.heads; stands = U.holds.first }

  pub second_ready : Running c m b → Ready c.second m.second
  second_ready U = record { p = U.q; J = U.M.jobs 2; program = U.both.second.program; heads = U.both.second.heads; stands = U.holds.second }

  -- the region is as long as the map
  long_enough : (D : Device) (p q : Program) (M : run.Machine) (j : ℕ) → Holds c D p q M m → length (region_of D j).owned ≤ length M.occupancy
  long_enough D p q M j H = let e = length-map D.owners (λ w. eqb w j) in omega (arith, e, H.long)

  module _ (i : Job) (r : Record) (now : List ℕ) where
    pub turned_first : b / 16 ≡ 1 → Takes c.first m.map m.first 1 (eqb (b % 16) 1) i r now → Turns c m b (record { map = now; first = i; second = m.second }) r
    turned_first e T D p q M B H =
        subst (λ (j : ℕ). Holds c D p q (after D (programs p q) (record { job = j; outcome = eqb (b % 16) 1 }) M)
        (record { map = now; first = i; second = m.second })
        × (r ≡ record_of (step_of D (programs p q) (record { job = j; outcome = eqb (b % 16) 1 }) M).answer))
        (sym e)
        (let F = T p (M.jobs 1) (region_of D 1) M.occupancy B.first H.first H.maps (long_enough D p q M 1 H) in (
          record {
            first = F.0;
            second = H.second;
            maps = F.2;
            long = length_written 1
                (step_of D (programs p q) (record { job = 1; outcome = eqb (b % 16) 1 }) M).act M.occupancy ∙ H.long;
          },
          F.1,
        ))

    pub turned_second : b / 16 ≡ 2 → Takes c.second m.map m.second 2 (eqb (b % 16) 1) i r now
        → Turns c m b (record { map = now; first = m.first; second = i }) r
    turned_second e T D p q M B H =
        subst (λ (j : ℕ). Holds c D p q (after D (programs p q) (record { job = j; outcome = eqb (b % 16) 1 }) M)
        (record { map = now; first = m.first; second = i })
        × (r ≡ record_of (step_of D (programs p q) (record { job = j; outcome = eqb (b % 16) 1 }) M).answer))
        (sym e)
        (let F = T q (M.jobs 2) (region_of D 2) M.occupancy B.second H.second H.maps (long_enough D p q M 2 H) in (
          record {
            first = H.first;
            second = F.0;
            maps = F.2;
            long = length_written 2
                (step_of D (programs p q) (record { job = 2; outcome = eqb (b % 16) 1 }) M).act M.occupancy ∙ H.long;
          },
          F.1,
        ))
