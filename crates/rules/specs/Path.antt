-- Paths of a region, and the route: the shortest path, and among those the smallest when compared location by location from the first end.
use Rattle.std.specs.Prelude.{Bool, true, false, not, ◌&&◌, List, [], ◌∷◌, ◌⊎◌, ◌≡◌, ℕ, zero, suc, ◌≤◌, ◌<◌, eqb, get_or, length}
use Rattle.std.proofs.Math.Option.{Option, none, some}
use Rattle.rules.specs.Basics.{any, distinct, up_to, first_from}
use Rattle.rules.specs.Region.{Region, joined}

-- compared location by location, p is not after q
abbrev pub NotAfter : List ℕ → List ℕ → Type 0
NotAfter [] q = Unit {0}
NotAfter (x ∷ p) [] = ⊥
NotAfter (x ∷ p) (y ∷ q) = (x < y) ⊎ ((x ≡ y) × NotAfter p q)

module _ (R : Region) (free : ℕ → Bool) (a b : ℕ) where
  -- what may lie between: a free location that is neither end
  abbrev pub between : ℕ → Bool
  between x = free x && not (eqb x a) && not (eqb x b)

  -- from x along region edges to b
  pub data Along : ℕ → List ℕ → Type 0 where
    last : {x : ℕ} → joined R x b ≡ true → Along x (x ∷ b ∷ [])
    then : {x y : ℕ} {p : List ℕ} → joined R x y ≡ true → between y ≡ true → Along y p → Along x (x ∷ p)

  pub record Path (p : List ℕ) : Type 0 where
    pub along : Along a p
    pub once : distinct p ≡ true

  -- the document's words for the route
  pub record Route (p : List ℕ) : Type 0 where
    pub path : Path p
    pub shortest : (q : List ℕ) → Path q → length p ≤ length q
    pub smallest : (q : List ℕ) → Path q → length q ≡ length p → NotAfter p q

  -- The route computed. From which locations an edge leads to one that may lie between and is in t
  abbrev pub further : List Bool → List Bool
  further t = up_to 0 (length R.owned) λ x. any (λ y. joined R x y && between y && get_or t y false) (up_to 0 (length R.owned) λ y. y)

  -- the locations from which k + 1 edges lead to b
  abbrev pub reach : ℕ → List Bool
  reach zero = up_to 0 (length R.owned) λ x. joined R x b
  reach (suc k) = further (reach k)

  -- the fewest: the first k, from i on and m of them, with a in `reach k`, where t is `reach i`
  abbrev pub fewest : ℕ → ℕ → List Bool → Option ℕ
  fewest zero i t = none
  fewest (suc m) i t = elim (get_or t a false) [ true ↦ some i | false ↦ fewest m (suc i) (further t) ]

  -- k + 1 edges from x, each to the smallest location from which the rest leads to b
  abbrev pub smallest_from : ℕ → ℕ → List ℕ
  smallest_from zero x = x ∷ b ∷ []
  smallest_from (suc k) x =
      let t : List Bool = reach k in
      x ∷ smallest_from k (first_from (λ y. joined R x y && between y && get_or t y false) 0 (length R.owned))

  abbrev pub traced : Option ℕ → Option (List ℕ)
  traced none = none
  traced (some k) = some (smallest_from k a)

  -- no path joins a location with itself; a path has no location twice, so it has fewer edges than the device has locations
  abbrev pub route : Option (List ℕ)
  route = elim (eqb a b) [ true ↦ none | false ↦ traced (fewest (length R.owned) 0 (reach zero)) ]
