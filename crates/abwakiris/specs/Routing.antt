-- What the route call says, and the parts of its promise that the code has a function for: what is asked before the search, and the search.
use Rattle.std.specs.Prelude.{Bool, not, List, ◌≡◌, ℕ, eqb, length, Result}
use Rattle.std.proofs.Math.Option.{Option}
use Rattle.answers.specs.Check.{Check, ◌>>◌, need}
use Rattle.answers.specs.Said.{said}
use Rattle.answers.specs.declared.Refusal.{Refusal}
use Rattle.rules.specs.Region.{Region, owns, free_in}
use Rattle.rules.specs.Path.{route}
use Rattle.rules.specs.Promises.{Routed, route_written}
use Rattle.route.specs.Found.{fitted}

-- an answer and the buffer's bytes at the end, in the promise's terms
abbrev pub told : Result ℕ Refusal → List ℕ → Routed
told r buffer = record { answer = said r; buffer = buffer }

-- 26, 13 for each end, 15
unfoldable pub asked : (ℕ → Bool) → ℕ → List ℕ → ℕ → ℕ → Check (Unit {0})
asked inside n occupancy a b = do
  need (eqb (length occupancy) n) 26 0
  need (inside a) 13 0
  need (inside b) 13 1
  need (not (eqb a b)) 15 0

-- a search's answer and what it writes
abbrev pub Finds : Option (List ℕ) → List ℕ → Result ℕ Refusal → List ℕ → Type 0
Finds found before r after = told r after ≡ route_written before (fitted found (length before))

-- in a region of a device of n locations
abbrev pub Routes : Region → ℕ → List ℕ → ℕ → ℕ → List ℕ → Result ℕ Refusal → List ℕ → Type 0
Routes R n occupancy a b before r after =
    told r after ≡ route_written before (asked (owns R) n occupancy a b >> fitted (route R (free_in R occupancy) a b) (length before))
