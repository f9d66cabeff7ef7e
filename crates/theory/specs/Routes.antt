-- Demand 2, the route: there is none exactly when no path over free locations of the region joins the ends; the one given is the one that the
-- document's words single out; there is one at most, and it has at most 256 locations.
use Rattle.std.specs.Prelude.{Bool, List, ◌↔◌, ◌≡◌, ℕ, ◌≤◌, length}
use Rattle.std.proofs.Math.Option.{none, some}
use Rattle.answers.specs.Check.{ok}
use Rattle.rules.specs.Device.{Device, read_device}
use Rattle.rules.specs.Region.{Region, region_of}
use Rattle.rules.specs.Path.{Path, Route, route}

abbrev pub NoRoute : Type 0
NoRoute = (R : Region) (free : ℕ → Bool) (a b : ℕ) → (route R free a b ≡ none) ↔ ((p : List ℕ) → Path R free a b p → ⊥)

abbrev pub TheRoute : Type 0
TheRoute = (R : Region) (free : ℕ → Bool) (a b : ℕ) (p : List ℕ) → (route R free a b ≡ some p) ↔ Route R free a b p

abbrev pub OneRoute : Type 0
OneRoute = (R : Region) (free : ℕ → Bool) (a b : ℕ) (p q : List ℕ) → Route R free a b p → Route R free a b q → p ≡ q

abbrev pub ShortRoute : Type 0
ShortRoute = (bytes : List ℕ) (D : Device) (j : ℕ) (free : ℕ → Bool) (a b : ℕ) (p : List ℕ)
    → read_device bytes ≡ ok D → route (region_of D j) free a b ≡ some p
    → length p ≤ 256
