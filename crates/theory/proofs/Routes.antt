-- The four claims on routes. `reach k` marks exactly the locations from which k + 1 edges lead to b, and `smallest_from` gives the smallest such way
-- (each hop goes to the smallest location from which the rest leads to b). The fewest edges from a to b make a way that has no location twice: else
-- cutting out what lies between the two would give a shorter one. So it is a path, and the route. A path has no location twice and all of them in
-- the region, so it has at most as many locations as the device: the search tries enough lengths, and the route is no longer than that.
use mathlib.Core.Bool.{Bool, true, false, not, ◌&&◌, ◌||◌, false≢true}
use mathlib.Core.List.{List, [], ◌∷◌}
use mathlib.Core.Logic.{◌≢◌, inl, inr}
use mathlib.Core.Option.{Option, none, some}
use mathlib.Core.Path.{◌≡◌, refl, sym, ap, ap₂, subst, ◌∙◌}
use native.Mathlib.Decide.{ℕ_discrete, dec_lt}
use native.Mathlib.Omega.{arith}
use Prim.Native.Nat.{ℕ, zero, suc, ◌+◌, ◌*◌, ◌≤◌, ◌<◌}
use lib.Dec.{eqb, leb}
use lib.ListN.{get_or, length, length-map}
use Rattle.answers.proofs.Laws.{Holds, by, holds_bind, holds_then, holds_need, holds_at, holds_any}
use Rattle.rules.specs.Basics.{any, distinct, up_to, first_from, byte, word, has_mark}
use Rattle.rules.specs.Device.{device_header, owners, edges, read_device}
use Rattle.rules.specs.Region.{Region, region_of, owns, touches, joined}
use Rattle.rules.specs.Path.{NotAfter, between, Along, last, then, Path, Route, reach, fewest, smallest_from, traced, route}
use Rattle.rules.proofs.Basics.{length_up_to, get_d_up_to_zero}
use Rattle.theory.specs.Routes.{NoRoute, TheRoute, OneRoute, ShortRoute}
use Rattle.rules.proofs.Tests.{eqb_true, eqb_same, eqb_other, eqb_false, at_most, and_left}
use Rattle.rules.proofs.Tests.{and_right, and_both, or_right, not_true}
use Rattle.theory.proofs.Base.{distinct_head, true_in_range}
use Rattle.theory.proofs.Pigeon.{Below, pigeonhole}

-- what a table of tests says at a number
in_table : (m : ℕ) (f : ℕ → Bool) (x : ℕ) → get_or (up_to 0 m f) x false ≡ true → f x ≡ true
in_table m f x h = let r = true_in_range (up_to 0 m f) x h in let e = length_up_to 0 m f in sym (get_d_up_to_zero m x f false (omega arith)) ∙ h

any_some : (p : ℕ → Bool) (i m y : ℕ) → i ≤ y → y < i + m → p y ≡ true → any p (up_to i m λ k. k) ≡ true
any_some p i zero y h l e = absurd (omega arith)
any_some p i (suc m) y h l e = go (p i) refl (ℕ_discrete y i) (λ k. any_some p (suc i) m y k (omega arith) e)
  where
    go : (t : Bool) → p i ≡ t → Dec (y ≡ i) → (suc i ≤ y → any p (up_to (suc i) m λ k. k) ≡ true)
        → (t || any p (up_to (suc i) m λ k. k)) ≡ true
    go true f d rec = refl
    go false f (yes q) rec = absurd (false≢true (sym f ∙ ap p (sym q) ∙ e))
    go false f (no q) rec = rec (omega arith)

-- where some number passes, the first one does
first_passes : (p : ℕ → Bool) (i m : ℕ) → any p (up_to i m λ k. k) ≡ true → p (first_from p i m) ≡ true
first_passes p i zero h = absurd (false≢true h)
first_passes p i (suc m) h = go (p i) refl h (λ k. first_passes p (suc i) m k)
  where
    go : (t : Bool) → p i ≡ t → (t || any p (up_to (suc i) m λ k. k)) ≡ true
        → (any p (up_to (suc i) m λ k. k) ≡ true → p (first_from p (suc i) m) ≡ true)
        → p (elim t as (λ _. ℕ) [ true ↦ i | false ↦ first_from p (suc i) m ]) ≡ true
    go true e k rec = e
    go false e k rec = rec k

-- and none that passes comes before it
first_least : (p : ℕ → Bool) (i m y : ℕ) → i ≤ y → y < i + m → p y ≡ true → first_from p i m ≤ y
first_least p i zero y h l e = omega arith
first_least p i (suc m) y h l e = go (p i) refl (ℕ_discrete y i) (λ k. first_least p (suc i) m y k (omega arith) e)
  where
    go : (t : Bool) → p i ≡ t → Dec (y ≡ i) → (suc i ≤ y → first_from p (suc i) m ≤ y)
        → (elim t as (λ _. ℕ) [ true ↦ i | false ↦ first_from p (suc i) m ]) ≤ y
    go true f d rec = h
    go false f (yes q) rec = absurd (false≢true (sym f ∙ ap p (sym q) ∙ e))
    go false f (no q) rec = rec (omega arith)

-- lists of which neither is after the other are equal
both_ways : (p q : List ℕ) → NotAfter p q → NotAfter q p → p ≡ q
both_ways [] [] h k = refl
both_ways [] (y ∷ q) h k = absurd k
both_ways (x ∷ p) [] h k = absurd h
both_ways (x ∷ p) (y ∷ q) (inl h) (inl k) = absurd (omega arith)
both_ways (x ∷ p) (y ∷ q) (inl h) (inr k) = absurd (omega arith)
both_ways (x ∷ p) (y ∷ q) (inr h) (inl k) = absurd (omega arith)
both_ways (x ∷ p) (y ∷ q) (inr h) (inr k) = ap₂ ◌∷◌ h.0 (both_ways p q h.1 k.1)

module _ (R : Region) where
  -- both ends of an edge of the region are locations of the device
  joined_from : (x y : ℕ) → joined R x y ≡ true → x < length R.owned
  joined_from x y h = true_in_range R.owned x (and_left (owns R x) (owns R y) (and_left (owns R x && owns R y) (any (touches x y) R.edges) h))

  joined_to : (x y : ℕ) → joined R x y ≡ true → y < length R.owned
  joined_to x y h = true_in_range R.owned y (and_right (owns R x) (owns R y) (and_left (owns R x && owns R y) (any (touches x y) R.edges) h))

module _ (R : Region) (free : ℕ → Bool) (a b : ℕ) where
  abbrev Way : ℕ → List ℕ → Type 0
  Way x p = Along R free a b x p

  -- k + 1 edges lead from x to b
  abbrev Leads : ℕ → ℕ → Bool
  Leads k x = get_or (reach R free a b k) x false

  -- the test of a hop
  abbrev hop : ℕ → ℕ → ℕ → Bool
  hop k x y = joined R x y && between R free a b y && Leads k y

  abbrev next : ℕ → ℕ → ℕ
  next k x = first_from (hop k x) 0 (length R.owned)

  abbrev best : ℕ → ℕ → List ℕ
  best k x = smallest_from R free a b k x

  between_not_end : (y : ℕ) → between R free a b y ≡ true → y ≢ b
  between_not_end y h = eqb_false y b (not_true (eqb y b) (and_right (free y && not (eqb y a)) (not (eqb y b)) h))

  way_length : {x : ℕ} {p : List ℕ} → Way x p → (k : ℕ) × (length p ≡ suc (suc k))
  way_length (last j) = (0, refl)
  way_length (then j t w) = let r = way_length w in (suc r.0, ap suc r.1)

  way_head : {x : ℕ} {p : List ℕ} → Way x p → (q : List ℕ) × (p ≡ x ∷ q)
  way_head (last j) = (b ∷ [], refl)
  way_head (then {p = p} j t w) = (p, refl)

  way_below : {x : ℕ} {p : List ℕ} → Way x p → Below (length R.owned) p
  way_below (last {x = x} j) = (joined_from R x b j, (joined_to R x b j, tt))
  way_below (then {x = x} {y = y} j t w) = (joined_from R x y j, way_below w)

  best_length : (k x : ℕ) → length (best k x) ≡ suc (suc k)
  best_length zero x = refl
  best_length (suc k) x = ap suc (best_length k (next k x))

  best_head : (k x : ℕ) → (q : List ℕ) × (best k x ≡ x ∷ q)
  best_head zero x = (b ∷ [], refl)
  best_head (suc k) x = (best k (next k x), refl)

  -- where k + 1 edges lead to b, `smallest_from` is such a way
  leads_way : (k x : ℕ) → Leads k x ≡ true → Way x (best k x)
  leads_way zero x h = last (in_table (length R.owned) (λ y. joined R y b) x h)
  leads_way (suc k) x h =
      let s : hop k x (next k x) ≡ true = first_passes (hop k x) 0 (length R.owned) (in_table (length R.owned) _ x h) in
      let j : (joined R x (next k x) && between R free a b (next k x)) ≡ true = and_left _ (Leads k (next k x)) s in
      let l : Leads k (next k x) ≡ true = and_right (joined R x (next k x) && between R free a b (next k x)) _ s in
      then (and_left (joined R x (next k x)) _ j) (and_right (joined R x (next k x)) _ j) (leads_way k (next k x) l)

  hop_passes : (k x y : ℕ) → joined R x y ≡ true → between R free a b y ≡ true → Leads k y ≡ true → hop k x y ≡ true
  hop_passes k x y j t l = and_both _ _ (and_both _ _ j t) l

  -- and a way of k + 2 locations is found by the table
  way_leads : (k : ℕ) {x : ℕ} {p : List ℕ} → Way x p → length p ≡ suc (suc k) → Leads k x ≡ true
  way_leads zero (last {x = x} j) e = get_d_up_to_zero (length R.owned) x (λ y. joined R y b) false (joined_from R x b j) ∙ j
  way_leads zero (then j t w) e = let r = way_length w in absurd (omega (arith, r.1))
  way_leads (suc k) (last j) e = absurd (omega arith)
  way_leads (suc k) (then {x = x} {y = y} j t w) e =
      let h : hop k x y ≡ true = hop_passes k x y j t (way_leads k w (omega arith)) in
      get_d_up_to_zero (length R.owned) x _ false (joined_from R x y j)
      ∙ any_some (hop k x) 0 (length R.owned) y (omega arith) (omega (arith, joined_to R x y j)) h

  -- among the ways from x by k + 1 edges the one given is the smallest
  best_first : (k : ℕ) {x : ℕ} {q : List ℕ} → Way x q → length q ≡ suc (suc k) → NotAfter (best k x) q
  best_first zero (last j) e = inr (refl, inr (refl, tt))
  best_first zero (then j t w) e = let r = way_length w in absurd (omega (arith, r.1))
  best_first (suc k) (last j) e = absurd (omega arith)
  best_first (suc k) (then {x = x} {y = y} {p = q} j t w) e = inr (refl, go (next k x) below (ℕ_discrete (next k x) y) (best_first k w (omega arith)))
    where
      below : next k x ≤ y
      below =
          let h : hop k x y ≡ true = hop_passes k x y j t (way_leads k w (omega arith)) in
          first_least (hop k x) 0 (length R.owned) y (omega arith) (omega (arith, joined_to R x y j)) h

      go : (z : ℕ) → z ≤ y → Dec (z ≡ y) → NotAfter (best k y) q → NotAfter (best k z) q
      go z l (yes d) rec = rw d rec
      go z l (no d) rec = rw ((best_head k z).1, (way_head w).1) (inl (omega arith))

  -- A way from c that meets x goes on from x, so x has a way that is no longer
  suffix : {c : ℕ} {p : List ℕ} (x : ℕ) → Way c p → any (eqb x) p ≡ true → x ≢ b → (q : List ℕ) × (length q ≤ length p) × Way x q
  suffix x (last {x = c} j) h n = go (ℕ_discrete x c) (ℕ_discrete x b)
    where
      go : Dec (x ≡ c) → Dec (x ≡ b) → (q : List ℕ) × (length q ≤ 2) × Way x q
      go (yes r) d = (x ∷ b ∷ [], omega arith, last {x = x} (rw r j))
      go (no r) (yes s) = absurd (n s)
      go (no r) (no s) = absurd (false≢true (rw (eqb_other x c r, eqb_other x b s) at h))
  suffix x (then {x = c} {y = y} {p = p} j t w) h n = go (ℕ_discrete x c) (λ k. suffix x w k n)
    where
      go : Dec (x ≡ c) → (any (eqb x) p ≡ true → (q : List ℕ) × (length q ≤ length p) × Way x q)
          → (q : List ℕ) × (length q ≤ suc (length p)) × Way x q
      go (yes r) rec = (x ∷ p, omega arith, then {x = x} {y = y} (rw r j) t w)
      go (no r) rec = let s = rec (rw (eqb_other x c r) at h) in (s.0, omega (arith, s.1), s.2)

  -- so a shortest way has no location twice
  no_repeat : {x : ℕ} {p : List ℕ} → x ≢ b → Way x p → ((q : List ℕ) → Way x q → length p ≤ length q) → distinct p ≡ true
  no_repeat n (last {x = x} j) s = rw (eqb_other x b n)
  no_repeat n (then {x = x} {y = y} {p = p} j t w) s = go (any (eqb x) p) refl (no_repeat (between_not_end y t) w shortest)
    where
      shortest : (q : List ℕ) → Way y q → length p ≤ length q
      shortest q v = let r = s (x ∷ q) (then j t v) in omega (arith, r)

      go : (u : Bool) → any (eqb x) p ≡ u → distinct p ≡ true → (not u && distinct p) ≡ true
      go true h d = let r = suffix x w h n in absurd (omega (arith, r.1, s r.0 r.2))
      go false h d = d

  -- b is on every way, so on a way from b it comes twice
  ends : {x : ℕ} {p : List ℕ} → Way x p → any (eqb b) p ≡ true
  ends (last {x = x} j) = or_right (eqb b x) _ (rw (eqb_same b))
  ends (then {x = x} {p = p} j t w) = or_right (eqb b x) _ (ends w)

  no_loop : {p : List ℕ} → Way b p → distinct p ≡ true → ⊥
  no_loop (last j) d = false≢true (rw (eqb_same b) at d)
  no_loop (then {p = p} j t w) d = false≢true (sym (distinct_head b p d) ∙ ends w)

  -- k is the first number from i on with a in `reach k`
  record Fewest (i k : ℕ) : Type 0 where
    leads : Leads k a ≡ true
    least : (l : ℕ) → i ≤ l → l < k → Leads l a ≡ false

  -- the search from i on, m lengths
  abbrev search_from : ℕ → ℕ → Option ℕ
  search_from m i = fewest R free a b m i (reach R free a b i)

  -- the search and the route, as their tests come out
  abbrev tries : ℕ → ℕ → Bool → Option ℕ
  tries m i t = elim t [ true ↦ some i | false ↦ search_from m (suc i) ]

  abbrev answers : Bool → Option (List ℕ)
  answers t = elim t [ true ↦ none | false ↦ traced R free a b (search_from (length R.owned) 0) ]

  fewest_some : (m i k : ℕ) → search_from m i ≡ some k → Fewest i k
  fewest_some zero i k h = let z : ◌≡◌ {A = ℕ} 0 1 = cc in absurd (omega arith)
  fewest_some (suc m) i k h = go (Leads i a) refl h (λ r. fewest_some m (suc i) k r)
    where
      later : Fewest (suc i) k → Leads i a ≡ false → (l : ℕ) → i ≤ l → l < k → Dec (l ≡ i) → Leads l a ≡ false
      later w e l p q (yes r) = rw r e
      later w e l p q (no r) = w.least l (omega arith) q

      here : (l : ℕ) → Leads l a ≡ true → l ≡ k → Fewest l k
      here l e q = record { leads = rw (← q) e; least = λ j r s. absurd (omega arith) }

      go : (t : Bool) → Leads i a ≡ t → tries m i t ≡ some k
          → (search_from m (suc i) ≡ some k → Fewest (suc i) k) → Fewest i k
      go true e h rec = here i e cc
      go false e h rec = let w = rec h in record { leads = w.leads; least = λ l p q. later w e l p q (ℕ_discrete l i) }

  fewest_none : (m i : ℕ) → search_from m i ≡ none → (l : ℕ) → i ≤ l → l < i + m → Leads l a ≡ false
  fewest_none zero i h l p q = absurd (omega arith)
  fewest_none (suc m) i h l p q = go (Leads i a) refl h (ℕ_discrete l i) (λ r s. fewest_none m (suc i) r l s (omega arith))
    where
      go : (t : Bool) → Leads i a ≡ t → tries m i t ≡ none → Dec (l ≡ i)
          → (search_from m (suc i) ≡ none → suc i ≤ l → Leads l a ≡ false) → Leads l a ≡ false
      go true e h d rec = let z : ◌≡◌ {A = ℕ} 0 1 = cc in absurd (omega arith)
      go false e h (yes r) rec = rw r e
      go false e h (no r) rec = rec h (omega arith)

  -- a path has at most as many locations as the device
  path_length : {p : List ℕ} → Path R free a b p → length p ≤ length R.owned
  path_length {p = p} P = pigeonhole (length R.owned) p P.once (way_below P.along)

  -- the smallest way by the fewest edges is the route
  fewest_route : (k : ℕ) → a ≢ b → Fewest 0 k → Route R free a b (best k a)
  fewest_route k n F =
      record {
        path = record { along = way; once = no_repeat n way shortest };
        shortest = λ q Q. shortest q Q.along;
        smallest = λ q Q e. best_first k Q.along (e ∙ best_length k a);
      }
    where
      way : Way a (best k a)
      way = leads_way k a F.leads

      shortest : (q : List ℕ) → Way a q → length (best k a) ≤ length q
      shortest q v = go (way_length v).0 (way_length v).1 (dec_lt (way_length v).0 k)
        where
          go : (l : ℕ) → length q ≡ suc (suc l) → Dec (l < k) → length (best k a) ≤ length q
          go l e (yes h) = absurd (false≢true (sym (F.least l (omega arith) h) ∙ way_leads l v e))
          go l e (no h) = omega (arith, best_length k a)

  -- what the search finds is the route
  route_found : (p : List ℕ) → route R free a b ≡ some p → Route R free a b p
  route_found p h = go (eqb a b) refl h
    where
      found : a ≢ b → (r : Option ℕ) → search_from (length R.owned) 0 ≡ r → traced R free a b r ≡ some p → Route R free a b p
      found n none e k = let z : ◌≡◌ {A = ℕ} 0 1 = cc in absurd (omega arith)
      found n (some l) e k = subst (λ (q : List ℕ). Route R free a b q) (cc) (fewest_route l n (fewest_some (length R.owned) 0 l e))

      go : (t : Bool) → eqb a b ≡ t → answers t ≡ some p → Route R free a b p
      go true e k = let z : ◌≡◌ {A = ℕ} 0 1 = cc in absurd (omega arith)
      go false e k = found (eqb_false a b e) _ refl k

  -- and where it finds nothing there is no path
  no_path : route R free a b ≡ none → (p : List ℕ) → Path R free a b p → ⊥
  no_path h p P = go (eqb a b) refl h
    where
      tried : (r : Option ℕ) → search_from (length R.owned) 0 ≡ r → traced R free a b r ≡ none → ⊥
      tried none e k =
          let w = way_length P.along in
          let none-leads = fewest_none (length R.owned) 0 e w.0 (omega arith) (omega (arith, w.1, path_length P)) in
          false≢true (sym none-leads ∙ way_leads w.0 P.along w.1)
      tried (some l) e k = let z : ◌≡◌ {A = ℕ} 0 1 = cc in omega arith

      go : (t : Bool) → eqb a b ≡ t → answers t ≡ none → ⊥
      go true e k = no_loop (subst (λ (x : ℕ). Way x p) (eqb_true a b e) P.along) P.once
      go false e k = tried _ refl k

-- two routes are as short as each other, and neither is after the other
pub one_route : OneRoute
one_route R free a b p q r s =
    let le : length p ≤ length q = r.shortest q s.path in
    let ge : length q ≤ length p = s.shortest p r.path in
    both_ways p q (r.smallest q s.path (omega arith)) (s.smallest p r.path (omega arith))

pub no_route : NoRoute
no_route R free a b = (no_path R free a b, back)
  where
    back : ((p : List ℕ) → Path R free a b p → ⊥) → route R free a b ≡ none
    back h = go (route R free a b) refl
      where
        go : (r : Option (List ℕ)) → route R free a b ≡ r → r ≡ none
        go none e = refl
        go (some p) e = absurd (h p (route_found R free a b p e).path)

-- where there is a path there is a route
pub path_route : (R : Region) (free : ℕ → Bool) (a b : ℕ) (p : List ℕ) → Path R free a b p → (q : List ℕ) × (route R free a b ≡ some q)
path_route R free a b p P = go (route R free a b) refl
  where
    go : (r : Option (List ℕ)) → route R free a b ≡ r → (q : List ℕ) × (r ≡ some q)
    go none e = absurd (no_path R free a b e p P)
    go (some q) e = (q, refl)

pub the_route : TheRoute
the_route R free a b p = (route_found R free a b p, back)
  where
    back : Route R free a b p → route R free a b ≡ some p
    back h = go (route R free a b) refl
      where
        go : (r : Option (List ℕ)) → route R free a b ≡ r → r ≡ some p
        go none e = absurd (no_path R free a b e p h.path)
        go (some q) e = ap some (one_route R free a b q p (route_found R free a b q e) h)

-- A device has at most 256 locations
header_fits : (n e : ℕ) → Holds (λ h. h.locations ≤ 256) (device_header n e)
header_fits n e =
    holds_then (holds_need (leb 1 n && leb n 256) 4 5) λ u h.
    holds_then (holds_need (leb e 1024) 4 7) λ v k. by (at_most n 256 (and_right (leb 1 n) (leb n 256) h))

owners_many : (s : List ℕ) (i m : ℕ) → Holds (λ ws. length ws ≡ m) (owners s i m)
owners_many s i zero = by refl
owners_many s i (suc m) = holds_then (holds_need (leb (byte s i) 2) 6 i) λ u h. holds_bind (owners_many s (suc i) m) λ ws k. by (ap suc k)

pub device_fits : (s : List ℕ) → Holds (λ D. length D.owners ≤ 256) (read_device s)
device_fits s =
    holds_then (holds_need (leb 9 (length s)) 1 0) λ u₁ h₁.
    holds_then (holds_need (has_mark s 0x47) 2 0) λ u₂ h₂.
    holds_then (holds_need (eqb (word s 3) 1) 3 3) λ u₃ h₃.
    holds_bind (header_fits (word s 5) (word s 7)) λ h fits.
    holds_then (holds_need (eqb (length s) (9 + h.locations + 2 * h.edges)) 5 0) λ u₄ h₄.
    holds_bind (owners_many s 9 h.locations) λ ws many.
    holds_bind (holds_any (edges s h.locations none (9 + h.locations) h.edges)) λ es e.
    let r : length ws ≤ 256 = rw many fits in by r

pub short_route : ShortRoute
short_route bytes D j free a b p read found =
    let P = (route_found (region_of D j) free a b p found).path in
    omega (arith, path_length (region_of D j) free a b P, length-map D.owners (λ w. eqb w j), holds_at (device_fits bytes) read)
