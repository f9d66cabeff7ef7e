-- The free locations of a region: the owned ones without those that the occupancy map has as taken, which are gathered by going through the map.
use mathlib.Core.Bool.{Bool, not, ◌&&◌}
use mathlib.Core.List.{List}
use mathlib.Core.Path.{◌≡◌, ap, ◌∙◌, fun_ext}
use Prim.Native.Nat.{ℕ}
use lib.Dec.{eqb}
use lib.ListN.{get_or}
use Rattle.rules.specs.Region.{Region, free_in}
use Rattle.sets.specs.declared.LocationSet.{LocationSet}
use Rattle.sets.specs.Sets.{has}
use Rattle.device.specs.Reader.{Owned}

-- x is a location that the map has as taken
abbrev pub taken_by : List ℕ → ℕ → Bool
taken_by map x = not (eqb (get_or map x 0) 0)

-- the set has the free locations, as the rules have them
pub free_same : (owned free : LocationSet) (R : Region) (occupancy : List ℕ) → Owned R owned
    → ((y : ℕ) → has free y ≡ (has owned y && eqb (get_or occupancy y 0) 0)) → has free ≡ free_in R occupancy
free_same owned free R occupancy O h = fun_ext λ y. h y ∙ ap (λ (z : Bool). z && eqb (get_or occupancy y 0) 0) (O.owned y)
