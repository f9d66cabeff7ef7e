-- A route by its hops: in h stands for each location on it the one that comes next.
use Rattle.std.specs.Prelude.{List, [], ◌∷◌, Some, None, ℕ, zero, suc, get_or}
use Rattle.std.specs.Prelude as std
use Rattle.std.proofs.Math.Option.{Option, none, some}

-- n locations from x on
abbrev pub hops : List ℕ → ℕ → ℕ → List ℕ
hops h zero x = []
hops h (suc n) x = x ∷ hops h n (get_or h x 0)

-- the route from a of so many edges, if any
abbrev pub followed : List ℕ → ℕ → std.Option ℕ → Option (List ℕ)
followed h a None = none
followed h a (Some k) = some (hops h (suc k) a)
