-- The search level by level from b, with the hops: how it begins, how it goes on and how it ends. The locations left with the newest level make up those that
-- were left before it, and each level's hops lead to the level before.
use mathlib.Core.Bool.{Bool, true, false, not, ◌&&◌, ◌||◌}
use mathlib.Core.List.{List}
use mathlib.Core.Logic.{◌⊎◌, inl, inr}
use mathlib.Core.Option.{none}
use mathlib.Core.Path.{◌≡◌, refl, sym, ap, subst, ◌∙◌}
use native.Mathlib.Numerals.{add-one}
use native.Mathlib.Omega.{arith}
use Prim.Native.Nat.{ℕ, suc, ◌+◌, ◌≤◌, ◌<◌}
use borrow.Author.Tests.{eq-eqb, eqb-true}
use lib.Dec.{eqb}
use lib.ListN.{length, get_or, set}
use lib.Seq.{get_or-set_same, get_or-set_other}
use Rattle.std.specs.Prelude.{Some}
use Rattle.rules.specs.Region.{Region, joined}
use Rattle.rules.specs.Path.{route}
use Rattle.sets.specs.declared.LocationSet.{LocationSet}
use Rattle.sets.specs.declared.rows.Rows.{Rows}
use Rattle.sets.specs.Sets.{has, row_of, First}
use Rattle.sets.proofs.Bools.{clash, either, and_both, both_and, or_left, or_right, side}
use Rattle.sets.proofs.SetLaws.{has_lt}
use Rattle.device.proofs.RegionLaws.{joined_turn}
use Rattle.device.specs.Reader.{RowsOf}
use Rattle.route.specs.Hops.{followed}
use Rattle.route.specs.Sweeps.{Spread}
use Rattle.route.proofs.Hopped.{Hop, hop_route}
use Rattle.route.proofs.Shortest.{no_way, way_two}
use Rattle.route.proofs.Sides.{Known, Joins, Both, Raised, raised, raise, only, only_here, only_pos, kept, newest}
use Rattle.route.proofs.Sides.{known_next, known_start, turn, turn_fewer, start, start_joins, joins_fewer}
use Rattle.route.proofs.Sizes.{count, count_less, count_some}
use Rattle.route.proofs.Turns.{Inner, inner_mid, inner_first, inner_second, row_edge, edge_row}
use Rattle.route.proofs.Walks.{joined_even, far, closed_here}

-- the locations of either set
pub whole : LocationSet → LocationSet → ℕ → Bool
whole left next y = has left y || has next y

module _ {rows : Rows} {S L : ℕ → Bool} {n : ℕ} {before h : List ℕ} {left next : LocationSet} (u : Spread rows S n L before left next h) where
  pub spread_whole : (y : ℕ) → whole left next y ≡ L y
  unfolding whole
  spread_whole y = ap (λ (t : Bool). t || has next y) (u.stay y) ∙ go (L y) (has next y) (u.new y)
    where
      go : (s t : Bool) → (t ≡ true → s ≡ true) → ((s && not t) || t) ≡ s
      go true true f = refl
      go true false f = refl
      go false true f = sym (f refl)
      go false false f = refl

  pub spread_apart : (y : ℕ) → has next y ≡ true → has left y ≡ false
  spread_apart y p = u.stay y ∙ go (L y) (has next y) p
    where
      go : (s t : Bool) → t ≡ true → (s && not t) ≡ false
      go true true e = refl
      go true false e = sym e
      go false t e = refl

-- what is left is the whole without the newest level
pub whole_left : (left next : LocationSet) → ((y : ℕ) → has next y ≡ true → has left y ≡ false) → (y : ℕ)
    → has left y ≡ (whole left next y && not (has next y))
unfolding whole
whole_left left next f y = go (has left y) (has next y) (f y)
  where
    go : (s t : Bool) → (t ≡ true → s ≡ false) → s ≡ ((s || t) && not t)
    go true true f = f refl
    go true false f = refl
    go false true f = refl
    go false false f = refl

whole_next : (left next : LocationSet) (y : ℕ) → has next y ≡ true → whole left next y ≡ true
unfolding whole
whole_next left next y p = or_right (has left y) _ p

and_whole : (left next : LocationSet) (y : ℕ) → has next y ≡ (has next y && whole left next y)
unfolding whole
and_whole left next y = go (has next y) (has left y)
  where
    go : (s t : Bool) → s ≡ (s && (t || s))
    go true true = refl
    go true false = refl
    go false t = refl

-- next is the level after k, with its hops; F has what is joined to a
pub record Hunt (E : ℕ → ℕ → Bool) (B : ℕ → Bool) (a b : ℕ) (F : ℕ → Bool) (left next : LocationSet) (h : List ℕ) (k : ℕ) : Type 0 where
  pub P : ℕ → ℕ
  pub both : Both E B b a P (only a) (whole left next) k 1
  pub mine : Joins E P (has next) (whole left next) k
  pub other : Joins E (only a) F (whole left next) 1
  pub hop : (y n : ℕ) → raised P (has next) k y ≡ suc (suc n) → Hop E (raised P (has next) k) h y (suc n)

pub inner_whole : {free : ℕ → Bool} {a b : ℕ} {rows : Rows} {S L : ℕ → Bool} {n : ℕ} {before h : List ℕ} {left next : LocationSet}
    → Inner free a b L → Spread rows S n L before left next h → Inner free a b (whole left next)
inner_whole i u = record { is = λ y. spread_whole u y ∙ i.is y }

-- each level takes one at least
pub hunt_less : {rows : Rows} {h h' : List ℕ} (left next : LocationSet) {left' next' : LocationSet}
    → Spread rows (has next) 256 (has left) h left' next' h' → ((y : ℕ) → has next y ≡ true → has left y ≡ false)
    → (y : ℕ) → has next y ≡ true → count (whole left' next') 256 < count (whole left next) 256
unfolding whole
hunt_less left next {left'} {next'} u d y p =
    let sub : (x : ℕ) → whole left' next' x ≡ true → whole left next x ≡ true =
    λ x q. or_left (has left x) (has next x) (sym (spread_whole u x) ∙ q) in
    count_less (whole left' next') (whole left next) 256 sub y (has_lt next y p) (spread_whole u y ∙ d y p) (whole_next left next y p)

pub hunt_some : (left next : LocationSet) (y : ℕ) → has next y ≡ true → 0 < count (whole left next) 256
hunt_some left next y p = count_some (whole left next) 256 y (has_lt next y p) (whole_next left next y p)

module _ {R : Region} {rows : Rows} (w : RowsOf R rows) where
  -- a sweep over a level
  module _ {S L : ℕ → Bool} {n : ℕ} {before h : List ℕ} {left next : LocationSet} (u : Spread rows S n L before left next h)
      {P : ℕ → ℕ} {k : ℕ} (at : (y : ℕ) → S y ≡ true → P y ≡ k) (on : (y : ℕ) → P y ≡ k → S y ≡ true)
      (low : (y : ℕ) → S y ≡ true → y < n) where
    spread_joins : Joins (joined R) P (has next) L k
    spread_joins =
        record {
          all = λ x y l e d. u.all y x (low y (on y d)) (on y d) (edge_row w x y e) l;
          from = λ x l p. (get_or h x 0, row_edge w (get_or h x 0) x (u.edge x p), at (get_or h x 0) (u.member x p));
        }

    spread_hop : {P' : ℕ → ℕ} → Raised P P' (has next) k → ((y : ℕ) → P y ≡ k → P' y ≡ k) → (y : ℕ) → has next y ≡ true
        → Hop (joined R) P' h y k
    spread_hop {P'} r f y p =
        record {
          edge = row_edge w (get_or h y 0) y (u.edge y p);
          level = f (get_or h y 0) (at (get_or h y 0) (u.member y p));
          least = λ z e d. u.least y z p (on z (old z d (either (has next z)))) (edge_row w y z e);
        }
      where
        old : (z : ℕ) → P' z ≡ k → (has next z ≡ true) ⊎ (has next z ≡ false) → P z ≡ k
        old z d (inl s) = let o = r.new z s in absurd (omega arith)
        old z d (inr s) = sym (r.old z s) ∙ d

  -- the level of b's neighbours
  pub hunt_start : {free L : ℕ → Bool} {a b : ℕ} {before h : List ℕ} (t left next : LocationSet) → Inner free a b L → t ≡ row_of rows a
      → has t b ≡ false
      → Spread rows (λ z. eqb z b) (b + 1) L before left next h → Hunt (joined R) (whole left next) a b (has t) left next h 1
  hunt_start {L = L} {a = a} {b = b} {h = h} t left next i f n u =
      record {
        P = only b;
        both = begin;
        mine = mine;
        other = start_joins a (λ x. ap (λ (r : LocationSet). has r x) f ∙ w.row a x ∙ joined_turn R a x);
        hop = λ y m e. first y m e (either (has next y));
      }
    where
      outside : (c : ℕ) → L c ≡ false → whole left next c ≡ false
      outside c z = spread_whole u c ∙ z

      begin : Both (joined R) (whole left next) b a (only b) (only a) (whole left next) 1 1
      begin = start (λ d. clash (ap (λ (r : LocationSet). has r b) f ∙ edge_row w b a d) n) (outside b (inner_second i)) (outside a (inner_first i))

      at : (y : ℕ) → eqb y b ≡ true → only b y ≡ 1
      at y e = ap (only b) (eqb-true y b e) ∙ only_here b

      on : (y : ℕ) → only b y ≡ 1 → eqb y b ≡ true
      on y e = eq-eqb y b (only_pos b y (omega arith))

      low : (y : ℕ) → eqb y b ≡ true → y < b + 1
      low y e = let d = eqb-true y b e in omega arith

      mine : Joins (joined R) (only b) (has next) (whole left next) 1
      mine = joins_fewer (λ x p. sym (spread_whole u x) ∙ p) (spread_joins u at on low)

      first : (y m : ℕ) → raised (only b) (has next) 1 y ≡ suc (suc m) → (has next y ≡ true) ⊎ (has next y ≡ false)
          → Hop (joined R) (raised (only b) (has next) 1) h y (suc m)
      first y m e (inl p) =
          let r = raise (only b) (has next) 1 in
          let o = r.new y p in
          let z : 1 ≡ suc m = omega arith in
          subst (λ (d : ℕ). Hop (joined R) (raised (only b) (has next) 1) h y d) z
          (spread_hop u at on low r (λ x d. kept (joined_even R) begin mine (and_whole left next) r x (omega arith) ∙ d) y p)
      first y m e (inr p) =
          let o = (raise (only b) (has next) 1).old y p in
          let z = begin.here.most y in
          absurd (omega arith)

  -- one level further
  pub hunt_next : {B F : ℕ → Bool} {a b k : ℕ} {h h' : List ℕ} {left next : LocationSet} (left' next' : LocationSet)
      → Hunt (joined R) B a b F left next h k
      → ((y : ℕ) → has next y ≡ true → has left y ≡ false) → ((y : ℕ) → has next y ≡ true → F y ≡ true → ⊥)
      → Spread rows (has next) 256 (has left) h left' next' h' → Hunt (joined R) B a b F left' next' h' (k + 1)
  hunt_next {B} {F} {a} {b} {k} {h} {h'} {left} {next} left' next' v d never u =
      rw (add-one k) (record {
        P = P';
        both = both;
        mine = mine;
        other = turn_fewer (joined_even R) v.both v.mine (and_whole left next) r v.other never l;
        hop = λ y m e. hop y m e (either (has next' y));
      })
    where
      P' : ℕ → ℕ
      P' = raised v.P (has next) k

      r : Raised v.P P' (has next) k
      r = raise v.P (has next) k

      l : (y : ℕ) → whole left' next' y ≡ (whole left next y && not (has next y))
      l y = spread_whole u y ∙ whole_left left next d y

      both : Both (joined R) B b a P' (only a) (whole left' next') (suc k) 1
      both = turn (joined_even R) v.both v.mine (and_whole left next) r v.other never l

      on : (y : ℕ) → P' y ≡ suc k → has next y ≡ true
      on = newest (joined_even R) v.both v.mine (and_whole left next) r

      mine : Joins (joined R) P' (has next') (whole left' next') (suc k)
      mine = joins_fewer (λ x p. sym (spread_whole u x) ∙ p) (spread_joins u r.new on (has_lt next))

      r' : Raised P' (raised P' (has next') (suc k)) (has next') (suc k)
      r' = raise P' (has next') (suc k)

      keep : (y : ℕ) → 0 < P' y → raised P' (has next') (suc k) y ≡ P' y
      keep = kept (joined_even R) both mine (and_whole left' next') r'

      hop : (y m : ℕ) → raised P' (has next') (suc k) y ≡ suc (suc m) → (has next' y ≡ true) ⊎ (has next' y ≡ false)
          → Hop (joined R) (raised P' (has next') (suc k)) h' y (suc m)
      hop y m e (inl p) =
          let o = r'.new y p in
          let z : suc k ≡ suc m = omega arith in
          subst (λ (c : ℕ). Hop (joined R) (raised P' (has next') (suc k)) h' y c) z
          (spread_hop u r.new on (has_lt next) r' (λ x c. keep x (omega arith) ∙ c) y p)
      hop y m e (inr p) =
          let o : P' y ≡ suc (suc m) = sym (r'.old y p) ∙ e in
          let g = v.hop y m o in
          let s : get_or h' y 0 ≡ get_or h y 0 = u.old y p in
          let t = g.level in
          record {
            edge = ap (joined R y) s ∙ g.edge;
            level = ap (raised P' (has next') (suc k)) s ∙ keep (get_or h y 0) (omega arith) ∙ g.level;
            least = λ z i c. let q = g.least z i (same z c (either (has next' z)) (both.here.most y) o) in omega arith;
          }
        where
          same : (z : ℕ) → raised P' (has next') (suc k) z ≡ suc m → (has next' z ≡ true) ⊎ (has next' z ≡ false)
              → P' y ≤ suc k → P' y ≡ suc (suc m) → P' z ≡ suc m
          same z c (inl q) i o = let g = r'.new z q in absurd (omega arith)
          same z c (inr q) i o = sym (r'.old z q) ∙ c

module _ (R : Region) {free B : ℕ → Bool} {a b : ℕ} (i : Inner free a b B) where
  pub hunt_none : {F : ℕ → Bool} {k : ℕ} {left next : LocationSet} {h : List ℕ} → Hunt (joined R) B a b F left next h k
      → ((y : ℕ) → has next y ≡ false) → route R free a b ≡ none
  hunt_none v e = no_way R free a b (λ p w. closed_here R free a b (inner_mid i R) v.both v.mine (λ y l q. clash q (e y)) w)

  -- a hop noted at a, where a is at no level
  module _ {P : ℕ → ℕ} {k : ℕ} (K : Known (joined R) B b P k) {h : List ℕ}
      (f : (y n : ℕ) → P y ≡ suc (suc n) → Hop (joined R) P h y (suc n)) (x : ℕ) where
    hop_else : (y n : ℕ) → P y ≡ suc (suc n) → Hop (joined R) P (set h a x) y (suc n)
    hop_else y n e =
        let g = f y n e in
        let s : get_or (set h a x) y 0 ≡ get_or h y 0 = get_or-set_other h a y x 0 (λ d. clash (K.inner y (omega arith)) (ap B d ∙ inner_first i)) in
        record { edge = ap (joined R y) s ∙ g.edge; level = ap P s ∙ g.level; least = λ z c d. let q = g.least z c d in omega arith }

    hop_here : (n : ℕ) → a < length h → joined R a x ≡ true → P x ≡ n → ((z : ℕ) → joined R a z ≡ true → P z ≡ n → x ≤ z)
        → Hop (joined R) P (set h a x) a n
    hop_here n l c d g =
        let s : get_or (set h a x) a 0 ≡ x = get_or-set_same h a x 0 l in
        record { edge = ap (joined R a) s ∙ c; level = ap P s ∙ d; least = λ z c d. let q = g z c d in omega arith }

  -- where the next level meets what is joined to a, the first of both is the hop of a
  pub hunt_found : {rows : Rows} {k : ℕ} {left next : LocationSet} {h : List ℕ} (t m : LocationSet) (x : ℕ) → RowsOf R rows
      → Hunt (joined R) B a b (has t) left next h k → (a ≡ b → ⊥) → t ≡ row_of rows a → ((y : ℕ) → has m y ≡ (has t y && has next y))
      → First m x → a < length h → route R free a b ≡ followed (set h a x) a (Some (k + 1))
  hunt_found {rows} {k} {left} {next} {h} t m x w v d e o g l =
      rw (add-one k) (hop_route R free a b (inner_mid i R) K (set h a x) (hop_else K v.hop x) k d at_a (omega arith)
      (λ z c s. near z c s (either (has next z))) (λ q u. let f = far R free a b (inner_mid i R) v.both u in omega arith))
    where
      r : Raised v.P (raised v.P (has next) k) (has next) k
      r = raise v.P (has next) k

      K : Known (joined R) B b (raised v.P (has next) k) (suc k)
      K = known_next (joined_even R) v.both v.mine (and_whole left next) r

      p : (has t x ≡ true) × (has next x ≡ true)
      p = and_both (has t x) (has next x) (sym (o x) ∙ g.member)

      row : (z : ℕ) → has t z ≡ joined R a z
      row z = ap (λ (s : LocationSet). has s z) e ∙ w.row a z

      edge : (z : ℕ) → has t z ≡ true → joined R a z ≡ true
      edge z c = sym (row z) ∙ c

      least : (z : ℕ) → joined R a z ≡ true → raised v.P (has next) k z ≡ suc k → (z < x) ⊎ (x ≤ z) → x ≤ z
      least z c s (inr q) = q
      least z c s (inl q) =
          let n = newest (joined_even R) v.both v.mine (and_whole left next) r z s in
          absurd (clash (o z ∙ both_and (has t z) (has next z) (row z ∙ c) n) (g.passed z q))

      near : (z : ℕ) → joined R a z ≡ true → 0 < raised v.P (has next) k z → (has next z ≡ true) ⊎ (has next z ≡ false)
          → suc k ≤ raised v.P (has next) k z
      near z c s (inl q) = let f = r.new z q in omega arith
      near z c s (inr q) = let f = r.old z q in let u = only_here a in absurd (v.both.apart z a (omega arith) (omega arith) (joined_even R a z c))

      at_a : Hop (joined R) (raised v.P (has next) k) (set h a x) a (suc k)
      at_a = hop_here K v.hop x (suc k) l (edge x p.0) (r.new x p.1) (λ z c s. least z c s (side z x))

-- ends that an edge joins
pub ends_hop : (R : Region) (free : ℕ → Bool) (a b : ℕ) (h : List ℕ) → (a ≡ b → ⊥) → joined R a b ≡ true → a < length h
    → route R free a b ≡ followed (set h a b) a (Some 1)
ends_hop R free a b h d j l =
    hop_route R free a b (inner_mid i R) K (set h a b) (hop_else R i K none_yet b) 0 d at_a (omega arith) (λ z c s. omega arith)
    (λ q u. way_two R free a b u)
  where
    i : Inner free a b (λ y. not (eqb y b) && (not (eqb y a) && free y))
    i = record { is = λ y. refl }

    K : Known (joined R) (λ y. not (eqb y b) && (not (eqb y a) && free y)) b (only b) 1
    K = known_start (joined R) _ b

    none_yet : (y n : ℕ) → only b y ≡ suc (suc n) → Hop (joined R) (only b) h y (suc n)
    none_yet y n e = let m = K.most y in absurd (omega arith)

    at_a : Hop (joined R) (only b) (set h a b) a 1
    at_a = hop_here R i K none_yet b 1 l j (only_here b) (λ z c s. let e = only_pos b z (omega arith) in omega arith)
