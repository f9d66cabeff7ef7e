-- A way by its hops. From each location the hop leads to the first neighbour that is one level nearer to b; so the hops make a way as long as the level
-- is high, and among the ways of that length none is before it: at the first location where another one differs, it takes a larger neighbour.
use mathlib.Core.Bool.{Bool, true}
use mathlib.Core.List.{List, [], ◌∷◌}
use mathlib.Core.Logic.{inl, inr, ⊎_elim}
use mathlib.Core.Option.{some}
use mathlib.Core.Path.{◌≡◌, refl, sym, ap, subst, ◌∙◌}
use native.Mathlib.Decide.{ℕ_discrete}
use native.Mathlib.Omega.{arith}
use Prim.Native.Nat.{ℕ, zero, suc, ◌≤◌, ◌<◌}
use lib.ListN.{length, get_or}
use Rattle.rules.specs.Region.{Region, joined}
use Rattle.rules.specs.Path.{NotAfter, between, Along, last, then, route}
use Rattle.sets.proofs.Bools.{side}
use Rattle.route.specs.Hops.{hops}
use Rattle.route.proofs.Shortest.{way_two, way_route}
use Rattle.route.proofs.Sides.{Known}
use Rattle.route.proofs.Walks.{near}

-- the hop of x leads to the first neighbour at level n
pub record Hop (E : ℕ → ℕ → Bool) (P : ℕ → ℕ) (h : List ℕ) (x n : ℕ) : Type 0 where
  pub edge : E x (get_or h x 0) ≡ true
  pub level : P (get_or h x 0) ≡ n
  pub least : (z : ℕ) → E x z ≡ true → P z ≡ n → get_or h x 0 ≤ z

pub hops_length : (h : List ℕ) (n x : ℕ) → length (hops h n x) ≡ n
hops_length h zero x = refl
hops_length h (suc n) x = ap suc (hops_length h n (get_or h x 0))

module _ (R : Region) (free : ℕ → Bool) (a b : ℕ) {B : ℕ → Bool} (mid : (x : ℕ) → between R free a b x ≡ B x) {P : ℕ → ℕ} {k : ℕ}
    (w : Known (joined R) B b P k) (h : List ℕ) (f : (y n : ℕ) → P y ≡ suc (suc n) → Hop (joined R) P h y (suc n)) where
  abbrev Way : ℕ → List ℕ → Type 0
  Way x p = Along R free a b x p

  head : {x : ℕ} {p : List ℕ} → Way x p → (q : List ℕ) × (p ≡ x ∷ q)
  head (last j) = (b ∷ [], refl)
  head (then {p = p} j t v) = (p, refl)

  walk : (n x : ℕ) → Hop (joined R) P h x (suc n) → Way x (hops h (suc (suc n)) x)
  walk zero x o =
      let e = w.one (get_or h x 0) o.level in
      subst (λ (y : ℕ). Way x (x ∷ y ∷ [])) (sym e) (last (subst (λ (y : ℕ). joined R x y ≡ true) e o.edge))
  walk (suc n) x o =
      let e = o.level in
      then o.edge (mid (get_or h x 0) ∙ w.inner (get_or h x 0) (omega arith)) (walk n (get_or h x 0) (f (get_or h x 0) n e))

  -- from x the walk is not after any other of its length, where no neighbour of x is nearer than the hop
  best : (n : ℕ) {x : ℕ} {q : List ℕ} → Way x q → Hop (joined R) P h x (suc n) → length q ≡ suc (suc n) → suc n ≤ k
      → ((z : ℕ) → joined R x z ≡ true → 0 < P z → suc n ≤ P z) → NotAfter (hops h (suc (suc n)) x) q
  best zero (last {x = x} j) o e l far = inr (refl, inr (w.one (get_or h x 0) o.level, tt))
  best (suc n) (last j) o e l far = absurd (omega arith)
  best zero (then j t v) o e l far = let s = way_two R free a b v in absurd (omega arith)
  best (suc n) (then {x = x} {y = y} {p = q} j t v) o e l far =
      inr (refl, go (get_or h x 0) (o.least y j level) (ℕ_discrete (get_or h x 0) y) (best n v (f y n level) (omega arith) (omega arith) on))
    where
      inside : B y ≡ true
      inside = sym (mid y) ∙ t

      level : P y ≡ suc (suc n)
      level = let c = near R free a b mid w v inside (omega arith) in let u = c.1 in let d = far y j c.0 in omega arith

      on : (z : ℕ) → joined R y z ≡ true → 0 < P z → suc n ≤ P z
      on z i p = ⊎_elim (λ s. let c = (w.closed y z inside i p s).1 in omega (arith, level)) (λ s. omega arith) (side (P z) k)

      go : (z : ℕ) → z ≤ y → Dec (z ≡ y) → NotAfter (hops h (suc (suc n)) y) q → NotAfter (hops h (suc (suc n)) z) q
      go z s (yes d) rec = subst (λ (y : ℕ). NotAfter (hops h (suc (suc n)) y) q) (sym d) rec
      go z s (no d) rec = subst (λ (p : List ℕ). NotAfter (hops h (suc (suc n)) z) p) (sym (head v).1) (inl (omega arith))

  -- the hops from a make the route
  pub hop_route : (n : ℕ) → (a ≡ b → ⊥) → Hop (joined R) P h a (suc n) → suc n ≤ k
      → ((z : ℕ) → joined R a z ≡ true → 0 < P z → suc n ≤ P z)
      → ((q : List ℕ) → Way a q → suc (suc n) ≤ length q) → route R free a b ≡ some (hops h (suc (suc n)) a)
  hop_route n d o l far s =
      let e = hops_length h (suc (suc n)) a in
      way_route R free a b d (walk n a o) (λ q v. let r = s q v in omega arith) (λ q v i. best n v o (omega arith) l far)
