-- A shortest way from a to b has no location twice: else cutting out what lies between the two would give a shorter one. So it is a path, and the laws of the
-- route apply to it: no way at all is no route, the shortest way has as many edges as the route, and the smallest of the shortest is the route.
use mathlib.Core.Bool.{Bool, true, false, not, ◌&&◌, false≢true}
use mathlib.Core.List.{List, [], ◌∷◌}
use mathlib.Core.Option.{Option, none, some}
use mathlib.Core.Path.{◌≡◌, refl, ap}
use native.Mathlib.Decide.{ℕ_discrete}
use native.Mathlib.Omega.{arith}
use Prim.Native.Nat.{ℕ, suc, ◌-◌, ◌≤◌}
use borrow.Author.Tests.{eq-eqb, ne_eqb}
use lib.Dec.{eqb}
use lib.ListN.{length}
use Rattle.rules.specs.Basics.{any, distinct}
use Rattle.rules.specs.Region.{Region}
use Rattle.rules.specs.Path.{NotAfter, between, Along, last, then, Path, route}
use Rattle.theory.proofs.Routes.{no_route, the_route}
use Rattle.std.specs.Prelude.{Some}
use Rattle.sets.proofs.Bools.{and_both, not_of, clash}
use Rattle.route.specs.Found.{edges_of}

module _ (R : Region) (free : ℕ → Bool) (a b : ℕ) where
  abbrev Way : ℕ → List ℕ → Type 0
  Way x p = Along R free a b x p

  not_end : (y : ℕ) → between R free a b y ≡ true → y ≡ b → ⊥
  not_end y t e = clash (eq-eqb y b e) (not_of (eqb y b) (and_both (free y && not (eqb y a)) (not (eqb y b)) t).1)

  -- a way that meets x goes on from x
  suffix : {c : ℕ} {p : List ℕ} (x : ℕ) → Way c p → any (eqb x) p ≡ true → (x ≡ b → ⊥)
      → (q : List ℕ) × (length q ≤ length p) × Way x q
  suffix x (last {x = c} j) h n = go (ℕ_discrete x c)
    where
      go : Dec (x ≡ c) → (q : List ℕ) × (length q ≤ 2) × Way x q
      go (yes e) = (x ∷ b ∷ [], omega arith, last {x = x} (rw e j))
      go (no e) = absurd (false≢true (rw (ne_eqb x c e, ne_eqb x b n) at h))
  suffix x (then {x = c} {y = y} {p = p} j t w) h n = go (ℕ_discrete x c) (λ k. suffix x w k n)
    where
      go : Dec (x ≡ c) → (any (eqb x) p ≡ true → (q : List ℕ) × (length q ≤ length p) × Way x q)
          → (q : List ℕ) × (length q ≤ suc (length p)) × Way x q
      go (yes e) rec = (x ∷ p, omega arith, then {x = x} {y = y} (rw e j) t w)
      go (no e) rec = let s = rec (rw (ne_eqb x c e) at h) in (s.0, let l = s.1 in omega arith, s.2)

  once : {x : ℕ} {p : List ℕ} → (x ≡ b → ⊥) → Way x p → ((q : List ℕ) → Way x q → length p ≤ length q) → distinct p ≡ true
  once n (last {x = x} j) s = rw (ne_eqb x b n)
  once n (then {x = x} {y = y} {p = p} j t w) s =
      go (any (eqb x) p) refl (once (not_end y t) w (λ q v. let r = s (x ∷ q) (then j t v) in omega arith))
    where
      go : (u : Bool) → any (eqb x) p ≡ u → distinct p ≡ true → (not u && distinct p) ≡ true
      go true h d = let r = suffix x w h n in let l = r.1 in let k = s r.0 r.2 in absurd (omega arith)
      go false h d = d

  -- a way has two locations at least
  pub way_two : {x : ℕ} {p : List ℕ} → Way x p → 2 ≤ length p
  way_two (last j) = omega arith
  way_two (then j t w) = let r = way_two w in omega arith

  pub no_way : ((p : List ℕ) → Way a p → ⊥) → route R free a b ≡ none
  no_way h = (no_route R free a b).1 (λ p P. h p P.along)

  module _ (n : a ≡ b → ⊥) {p : List ℕ} (w : Way a p) (s : (q : List ℕ) → Way a q → length p ≤ length q) where
    path : Path R free a b p
    path = record { along = w; once = once n w s }

    pub way_edges : edges_of (route R free a b) ≡ Some (length p - 1)
    way_edges = go (route R free a b) refl
      where
        go : (r : Option (List ℕ)) → route R free a b ≡ r → edges_of r ≡ Some (length p - 1)
        go none e = absurd ((no_route R free a b).0 e p path)
        go (some q) e =
            let t = (the_route R free a b q).0 e in
            let l = t.shortest p path in
            let m = s q t.path.along in
            ap Some (omega arith)

    pub way_route : ((q : List ℕ) → Way a q → length q ≡ length p → NotAfter p q) → route R free a b ≡ some p
    way_route f =
        (the_route R free a b p).1 (record { path = path; shortest = λ q Q. s q Q.along; smallest = λ q Q. f q Q.along })
