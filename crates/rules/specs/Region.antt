-- The region of a job: one record that typing, commands, steps and the route search share.
use Rattle.std.specs.Prelude.{Bool, false, ◌&&◌, ◌||◌, List, map, ℕ, eqb, get_or}
use Rattle.rules.specs.Basics.{any}
use Rattle.rules.specs.Device.{Edge, Device}

-- which of the device's locations are the job's own, and the edges
pub record Region : Type 0 where
  pub owned : List Bool
  pub edges : List Edge

abbrev pub region_of : Device → ℕ → Region
region_of D j = record { owned = map (λ w. eqb w j) D.owners; edges = D.edges }

abbrev pub owns : Region → ℕ → Bool
owns R l = get_or R.owned l false

-- edges have no direction
abbrev pub touches : ℕ → ℕ → Edge → Bool
touches a b e = (eqb e.from a && eqb e.to b) || (eqb e.from b && eqb e.to a)

-- an edge of the region has both ends in it
abbrev pub joined : Region → ℕ → ℕ → Bool
joined R a b = owns R a && owns R b && any (touches a b) R.edges

-- the locations of the region that an occupancy map has as free
abbrev pub free_in : Region → List ℕ → ℕ → Bool
free_in R occupancy l = owns R l && eqb (get_or occupancy l 0) 0
