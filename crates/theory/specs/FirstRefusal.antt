-- Demand 2, the first refusal of a call: its stages in the document's order, each the list of its part's tests in the file that the part is about. A stage that
-- needs what earlier ones gave says nothing where they refused.
use Rattle.std.specs.Prelude.{Bool, true, not, ◌&&◌, ◌||◌, List, [], ◌∷◌, ◌≡◌, ℕ, ◌*◌, eqb, leb, length}
use Rattle.std.proofs.Math.Option.{Option, none, some}
use Rattle.answers.specs.Check.{Check, ok, refused, ◌>>◌, need, within}
use Rattle.answers.specs.declared.File.TheVariants.{Device, Schedule, Program}
use Rattle.rules.specs.Device.{read_device}
use Rattle.rules.specs.Region.{region_of, owns, free_in}
use Rattle.rules.specs.Path.{route}
use Rattle.rules.specs.Program.{read_program}
use Rattle.rules.specs.Commands.{size_of}
use Rattle.rules.specs.Typing.{type_program}
use Rattle.rules.specs.Promises.{check_of, routed, ran}
use Rattle.theory.specs.Tests.{first_of, refusal_of}
use Rattle.theory.specs.ReadingOrder.{device_tests, program_tests}
use Rattle.theory.specs.TypingOrder.{typing_tests, is_some}
use Rattle.theory.specs.WalkOrder.{walk_tests, schedule_tests}

unfoldable pub given : {A : Type 0} → Check A → (A → Check (Unit {0})) → Check (Unit {0})
given (ok a) f = f a
given (refused r) f = ok tt

unfoldable pub first_stage : List (Check (Unit {0})) → Check (Unit {0})
first_stage [] = ok tt
first_stage (m ∷ ms) = m >> first_stage ms

-- Check: 25, device, program, typing, 20, 21
abbrev pub check_stages : List ℕ → List ℕ → ℕ → List (Check (Unit {0}))
check_stages d p j =
    need (eqb j 1 || eqb j 2) 25 0
    ∷ within Device (first_of (device_tests d))
    ∷ within (Program j) (first_of (program_tests p))
    ∷ given (read_device d) (λ D. given (read_program p) λ q. within (Program j) (first_of (typing_tests (region_of D j).owned q)))
    ∷ given (read_device d) (λ D. given (read_program p) λ q. given (type_program (region_of D j).owned q) λ t.
    within (Program j) (need (leb (size_of t.commands) 65535) 20 0))
    ∷ given (read_device d) (λ D. given (read_program p) λ q. given (type_program (region_of D j).owned q) λ t.
    within (Program j) (first_of (walk_tests (λ l. l) (region_of D j) (region_of D j).owned t.commands)))
    ∷ []

abbrev pub CheckOrder : Type 0
CheckOrder = (d p : List ℕ) (j : ℕ) → refusal_of (check_of d p j) ≡ first_stage (check_stages d p j)

-- Route: 25, device, 26, 13 (place 0 or 1 for the end), 15, 21, 24 exactly when the route is longer than the buffer
abbrev pub fits_in : Option (List ℕ) → ℕ → Bool
fits_in none room = true
fits_in (some p) room = leb (length p) room

abbrev pub route_stages : List ℕ → ℕ → List ℕ → ℕ → ℕ → ℕ → List (Check (Unit {0}))
route_stages d j occupancy a b room =
    need (eqb j 1 || eqb j 2) 25 0
    ∷ within Device (first_of (device_tests d))
    ∷ given (read_device d) (λ D. need (eqb (length occupancy) (length D.owners)) 26 0)
    ∷ given (read_device d) (λ D. need (owns (region_of D j) a) 13 0)
    ∷ given (read_device d) (λ D. need (owns (region_of D j) b) 13 1)
    ∷ need (not (eqb a b)) 15 0
    ∷ given (read_device d) (λ D. need (is_some (route (region_of D j) (free_in (region_of D j) occupancy) a b)) 21 0)
    ∷ given (read_device d) (λ D. need (fits_in (route (region_of D j) (free_in (region_of D j) occupancy) a b) room) 24 0)
    ∷ []

abbrev pub RouteOrder : Type 0
RouteOrder = (d : List ℕ) (j : ℕ) (occupancy : List ℕ) (a b room : ℕ)
    → refusal_of (routed d j occupancy a b room) ≡ first_stage (route_stages d j occupancy a b room)

-- Run: device, program 1, program 2, 22, 23, 24
abbrev pub run_stages : List ℕ → List ℕ → List ℕ → List ℕ → ℕ → ℕ → List (Check (Unit {0}))
run_stages d p q schedule room₁ room₂ =
    within Device (first_of (device_tests d))
    ∷ within (Program 1) (first_of (program_tests p))
    ∷ within (Program 2) (first_of (program_tests q))
    ∷ within Schedule (need (leb (length schedule) 4096) 22 0)
    ∷ within Schedule (first_of (schedule_tests 2 schedule))
    ∷ given (read_device d) (λ D. need (leb (4 * length schedule) room₁ && leb (length D.owners) room₂) 24 0)
    ∷ []

abbrev pub RunOrder : Type 0
RunOrder = (d p q schedule : List ℕ) (room₁ room₂ : ℕ)
    → refusal_of (ran d p q schedule room₁ room₂) ≡ first_stage (run_stages d p q schedule room₁ room₂)
