-- What the levels around both ends say of the ways from a to b. A way is at least as long as the levels are deep on both sides, since no edge joins them; where
-- a location is joined to the newest level of either end there is a way of just that length; where one end has no further level there is none.
use mathlib.Core.Bool.{Bool, true}
use mathlib.Core.List.{List, [], ◌∷◌}
use mathlib.Core.Logic.{◌⊎◌, inl, inr, ⊎_elim}
use mathlib.Core.Path.{◌≡◌, refl, sym, ap, subst, ◌∙◌}
use native.Mathlib.Omega.{arith}
use Prim.Native.Nat.{ℕ, zero, suc, ◌+◌, ◌-◌, ◌≤◌, ◌<◌}
use lib.ListN.{length}
use Rattle.rules.specs.Region.{Region, joined}
use Rattle.rules.specs.Path.{between, Along, last, then}
use Rattle.sets.proofs.Bools.{side}
use Rattle.device.proofs.RegionLaws.{joined_turn}
use Rattle.route.proofs.Sides.{Known, Joins, Both, Even, onward}

pub joined_even : (R : Region) → Even (joined R)
joined_even R x y e = joined_turn R y x ∙ e

module _ (R : Region) (free : ℕ → Bool) (a b : ℕ) {B : ℕ → Bool} (mid : (x : ℕ) → between R free a b x ≡ B x) where
  abbrev Way : ℕ → List ℕ → Type 0
  Way x p = Along R free a b x p

  -- a short way from x lies in the levels of b
  pub near : {P : ℕ → ℕ} {k : ℕ} → Known (joined R) B b P k → {x : ℕ} {p : List ℕ} → Way x p → B x ≡ true → length p ≤ k
      → (0 < P x) × (P x ≤ length p)
  near w (last {x = x} j) r h =
      let e = w.end in
      let c = w.closed x b r j (omega arith) (omega arith) in
      (c.0, let l = c.1 in omega arith)
  near w (then {x = x} {y = y} j t v) r h =
      let i = near w v (sym (mid y) ∙ t) (omega arith) in
      let l = i.1 in
      let c = w.closed x y r j i.0 (omega arith) in
      (c.0, let o = c.1 in omega arith)

  module _ {P Q : ℕ → ℕ} {L : ℕ → Bool} {k m : ℕ} (v : Both (joined R) B b a P Q L k m) where
    far_from : {x : ℕ} {p : List ℕ} → Way x p → 0 < Q x → m + k + 2 ≤ Q x + length p
    far_from (last {x = x} j) h = let e = v.here.end in absurd (v.apart b x (omega arith) h (joined_even R x b j))
    far_from (then {x = x} {y = y} {p = p} j t w) h = go (λ d. far_from w d) (near v.here w (sym (mid y) ∙ t)) (side (Q x) m) (side k (length p))
      where
        go : (0 < Q y → m + k + 2 ≤ Q y + length p) → (length p ≤ k → (0 < P y) × (P y ≤ length p))
            → (Q x < m) ⊎ (m ≤ Q x) → (k < length p) ⊎ (length p ≤ k) → m + k + 2 ≤ Q x + suc (length p)
        go rec n (inl l) d =
            let c = v.there.closed y x (sym (mid y) ∙ t) (joined_even R x y j) h l in
            let i = rec c.0 in
            let o = c.1 in
            omega arith
        go rec n (inr l) (inl d) = omega arith
        go rec n (inr l) (inr d) = absurd (v.apart y x (n d).0 h (joined_even R x y j))

    -- no way is shorter than the levels of both ends
    pub far : {p : List ℕ} → Way a p → m + k + 1 ≤ length p
    far w = let e = v.there.end in let f = far_from w (omega arith) in omega arith

    -- from x by an edge to a location at a level of b, and down the levels
    down : (i x y : ℕ) → joined R x y ≡ true → P y ≡ suc i → (p : List ℕ) × Way x p × (length p ≡ suc (suc i))
    down zero x y j e = (x ∷ b ∷ [], last (subst (λ (z : ℕ). joined R x z ≡ true) (v.here.one y e) j), refl)
    down (suc i) x y j e =
        let n = v.here.next y (omega arith) in
        let s : P n.0 + 1 ≡ P y = n.2 in
        let r = down i y n.0 n.1 (omega arith) in
        (x ∷ r.0, then j (mid y ∙ v.here.inner y (omega arith)) r.1, ap suc r.2)

    -- a way from a location at a level of a, led on up the levels
    up : (i x : ℕ) (p : List ℕ) → Way x p → Q x ≡ suc i → (q : List ℕ) × Way a q × (length q ≡ length p + i)
    up zero x p w e = (p, subst (λ (z : ℕ). Way z p) (v.there.one x e) w, omega arith)
    up (suc i) x p w e =
        let n = v.there.next x (omega arith) in
        let s : Q n.0 + 1 ≡ Q x = n.2 in
        let r = up i n.0 (n.0 ∷ p) (then (joined_even R x n.0 n.1) (mid x ∙ v.there.inner x (omega arith)) w) (omega arith) in
        (r.0, r.1, let l = r.2 in omega arith)

    -- where the next levels meet there is a way through them
    pub meet : {J F : ℕ → Bool} → Joins (joined R) P J L k → Joins (joined R) Q F L m → (y : ℕ) → L y ≡ true → J y ≡ true → F y ≡ true
        → (p : List ℕ) × Way a p × (length p ≡ m + k + 1)
    meet j f y l h i =
        let z = j.from y l h in
        let x = f.from y l i in
        let s = v.here.some in
        let t = v.there.some in
        let e : P z.0 ≡ k = z.2 in
        let g : Q x.0 ≡ m = x.2 in
        let d = down (k - 1) y z.0 z.1 (omega arith) in
        let n = d.2 in
        let u = up (m - 1) x.0 (x.0 ∷ d.0) (then (joined_even R y x.0 x.1) (mid y ∙ (v.left y l).0) d.1) (omega arith) in
        (u.0, u.1, let o = u.2 in omega arith)

    module _ {J : ℕ → Bool} (j : Joins (joined R) P J L k) (never : (y : ℕ) → L y ≡ true → J y ≡ true → ⊥) where
      all_here : {x : ℕ} {p : List ℕ} → Way x p → B x ≡ true → 0 < P x
      all_here (last {x = x} e) r =
          let o = v.here.end in
          ⊎_elim (λ c. c.0) (λ c. absurd (never x c.2 c.1)) (onward (joined_even R) v j x b r e (omega arith))
      all_here (then {x = x} {y = y} e t w) r =
          ⊎_elim (λ c. c.0) (λ c. absurd (never x c.2 c.1)) (onward (joined_even R) v j x y r e (all_here w (sym (mid y) ∙ t)))

      -- no next level of b
      pub closed_here : {p : List ℕ} → Way a p → ⊥
      closed_here (last e) = let o = v.here.end in let s = v.there.end in v.apart b a (omega arith) (omega arith) (joined_even R a b e)
      closed_here (then {y = y} e t w) = let s = v.there.end in v.apart y a (all_here w (sym (mid y) ∙ t)) (omega arith) (joined_even R a y e)

  module _ {P Q : ℕ → ℕ} {F L : ℕ → Bool} {k m : ℕ} (v : Both (joined R) B a b Q P L m k) (f : Joins (joined R) Q F L m)
      (never : (y : ℕ) → L y ≡ true → F y ≡ true → ⊥) where
    none_there : {x : ℕ} {p : List ℕ} → Way x p → 0 < Q x → ⊥
    none_there (last {x = x} e) h = let o = v.there.end in v.apart x b h (omega arith) e
    none_there (then {x = x} {y = y} e t w) h =
        ⊎_elim (λ c. none_there w c.0) (λ c. never y c.2 c.1) (onward (joined_even R) v f y x (sym (mid y) ∙ t) (joined_even R x y e) h)

    -- no next level of a
    pub closed_there : {p : List ℕ} → Way a p → ⊥
    closed_there w = let o = v.here.end in none_there w (omega arith)
