-- The levels of both ends grow in turn: how the turns begin, how one is followed by the next, and what they say at the end of the route's edges.
use mathlib.Core.Bool.{Bool, true, false, not, ◌&&◌}
use mathlib.Core.Logic.{◌⊎◌, inl, inr}
use mathlib.Core.Option.{none}
use mathlib.Core.Path.{◌≡◌, refl, sym, ap, ◌∙◌}
use native.Mathlib.Omega.{arith}
use Prim.Native.Nat.{ℕ, suc, ◌+◌, ◌<◌}
use borrow.Author.Tests.{eq-eqb}
use lib.Dec.{eqb}
use Rattle.std.specs.Prelude.{Some, None}
use Rattle.rules.specs.Region.{Region, joined}
use Rattle.rules.specs.Path.{between, last, route}
use Rattle.sets.specs.declared.LocationSet.{LocationSet}
use Rattle.sets.specs.declared.rows.Rows.{Rows}
use Rattle.sets.specs.Sets.{has, row_of}
use Rattle.sets.proofs.Bools.{clash, and_both, not_of}
use Rattle.device.proofs.RegionLaws.{joined_turn}
use Rattle.device.specs.Reader.{RowsOf}
use Rattle.route.specs.Found.{edges_of}
use Rattle.route.specs.Sweeps.{Joined}
use Rattle.route.proofs.Shortest.{no_way, way_two, way_edges}
use Rattle.route.proofs.Sides.{Joins, Both, raised, raise, only, swap, turn, turn_joins, turn_fewer, start, start_joins}
use Rattle.route.proofs.Walks.{joined_even, far, meet, closed_here, closed_there}

-- p's turn: J has what is joined to p's newest level among those at no level, L, and F what is joined to q's
pub record Turn (E : ℕ → ℕ → Bool) (B : ℕ → Bool) (p q : ℕ) (J F L : ℕ → Bool) (k : ℕ) : Type 0 where
  pub P : ℕ → ℕ
  pub Q : ℕ → ℕ
  pub m : ℕ
  pub n : ℕ
  pub both : Both E B p q P Q L m n
  pub mine : Joins E P J L m
  pub other : Joins E Q F L n
  pub sum : m + n ≡ k + 1

-- it is one end's turn
abbrev pub Turns : (ℕ → ℕ → Bool) → (ℕ → Bool) → ℕ → ℕ → (ℕ → Bool) → (ℕ → Bool) → (ℕ → Bool) → ℕ → Type 0
Turns E B a b J F L k = Turn E B b a J F L k ⊎ Turn E B a b J F L k

-- the locations that may lie between a and b
pub record Inner (free : ℕ → Bool) (a b : ℕ) (B : ℕ → Bool) : Type 0 where
  pub is : (y : ℕ) → B y ≡ (not (eqb y b) && (not (eqb y a) && free y))

pub inner_of : {free : ℕ → Bool} {a b : ℕ} (r s : LocationSet) → ((y : ℕ) → has r y ≡ (not (eqb y a) && free y))
    → ((y : ℕ) → has s y ≡ (not (eqb y b) && has r y)) → Inner free a b (has s)
inner_of {b = b} r s e f = record { is = λ y. f y ∙ ap (λ (t : Bool). not (eqb y b) && t) (e y) }

module _ {free : ℕ → Bool} {a b : ℕ} {B : ℕ → Bool} (i : Inner free a b B) where
  pub inner_mid : (R : Region) (x : ℕ) → between R free a b x ≡ B x
  inner_mid R x = go (free x) (not (eqb x a)) (not (eqb x b)) ∙ sym (i.is x)
    where
      go : (s t u : Bool) → (s && t && u) ≡ (u && (t && s))
      go true true true = refl
      go true true false = refl
      go true false true = refl
      go true false false = refl
      go false true true = refl
      go false true false = refl
      go false false true = refl
      go false false false = refl

  pub inner_first : B a ≡ false
  inner_first = i.is a ∙ go (not (eqb a b)) (eq-eqb a a refl)
    where
      go : (t : Bool) {s : Bool} → s ≡ true → (t && (not s && free a)) ≡ false
      go true e = rw e
      go false e = refl

  pub inner_second : B b ≡ false
  inner_second = i.is b ∙ rw (eq-eqb b b refl)

module _ {R : Region} {rows : Rows} (w : RowsOf R rows) where
  pub row_edge : (x y : ℕ) → has (row_of rows x) y ≡ true → joined R y x ≡ true
  row_edge x y h = joined_turn R y x ∙ sym (w.row x y) ∙ h

  pub edge_row : (x y : ℕ) → joined R x y ≡ true → has (row_of rows y) x ≡ true
  edge_row x y h = w.row y x ∙ joined_turn R y x ∙ h

  row_joins : (c : ℕ) (s : LocationSet) {L : ℕ → Bool} → s ≡ row_of rows c → Joins (joined R) (only c) (has s) L 1
  row_joins c s e = start_joins c (λ x. ap (λ (r : LocationSet). has r x) e ∙ w.row c x ∙ joined_turn R c x)

  pub turn_start : {free B : ℕ → Bool} {a b : ℕ} (s t : LocationSet) → Inner free a b B → s ≡ row_of rows b → t ≡ row_of rows a
      → has t b ≡ false
      → Turn (joined R) B b a (has s) (has t) B 1
  turn_start {a = a} {b = b} s t i e f n =
      record {
        P = only b;
        Q = only a;
        m = 1;
        n = 1;
        both = start (λ d. clash (ap (λ (r : LocationSet). has r b) f ∙ edge_row b a d) n) (inner_second i) (inner_first i);
        mine = row_joins b s e;
        other = row_joins a t f;
        sum = refl;
      }

  -- after one turn comes the other end's
  pub turn_next : {B J F N L L' : ℕ → Bool} {p q k : ℕ} (t : LocationSet) → Turn (joined R) B p q J F L k
      → ((y : ℕ) → N y ≡ (J y && L y)) → ((y : ℕ) → N y ≡ true → y < 256) → ((y : ℕ) → N y ≡ true → F y ≡ true → ⊥)
      → ((y : ℕ) → L' y ≡ (L y && not (N y))) → Joined rows N 256 t → Turn (joined R) B q p F (has t) L' (k + 1)
  turn_next {N = N} {L = L} t v n small never l j =
      let u = raise v.P N v.m in
      let e = v.sum in
      record {
        P = v.Q;
        Q = raised v.P N v.m;
        m = v.n;
        n = suc v.m;
        both = swap (joined_even R) (turn (joined_even R) v.both v.mine n u v.other never l);
        mine = turn_fewer (joined_even R) v.both v.mine n u v.other never l;
        other = turn_joins (joined_even R) v.both v.mine n u v.other never l
            (λ x y h d r. j.all y x (small y r) r (edge_row x y d))
            (λ x h r. let o = j.to x r (not_of (N x) (and_both (L x) (not (N x)) (sym (l x) ∙ h)).1) in (o.0, row_edge o.0 x o.3, o.2));
        sum = omega arith;
      }

  -- either end's turn, then the other's
  pub turns_next : {B J F N L L' : ℕ → Bool} {a b k : ℕ} (t : LocationSet) → Turns (joined R) B a b J F L k
      → ((y : ℕ) → N y ≡ (J y && L y)) → ((y : ℕ) → N y ≡ true → y < 256) → ((y : ℕ) → N y ≡ true → F y ≡ true → ⊥)
      → ((y : ℕ) → L' y ≡ (L y && not (N y))) → Joined rows N 256 t → Turns (joined R) B a b F (has t) L' (k + 1)
  turns_next t (inl v) n small never l j = inr (turn_next t v n small never l j)
  turns_next t (inr v) n small never l j = inl (turn_next t v n small never l j)

module _ (R : Region) {free B : ℕ → Bool} {a b : ℕ} (i : Inner free a b B) (d : a ≡ b → ⊥) where
  found_here : {J F L : ℕ → Bool} {k : ℕ} → Turn (joined R) B b a J F L k → (y : ℕ) → L y ≡ true → J y ≡ true → F y ≡ true
      → Some (k + 1) ≡ edges_of (route R free a b)
  found_here v y l j f =
      let r = meet R free a b (inner_mid i R) v.both v.mine v.other y l j f in
      let n = r.2 in
      let s = v.sum in
      let e = way_edges R free a b d r.1 (λ q o. let g = far R free a b (inner_mid i R) v.both o in omega arith) in
      ap Some (omega arith) ∙ sym e

  -- where the next levels meet, one edge more than the turns so far
  pub turns_found : {J F L : ℕ → Bool} {k : ℕ} → Turns (joined R) B a b J F L k → (y : ℕ) → L y ≡ true → J y ≡ true → F y ≡ true
      → Some (k + 1) ≡ edges_of (route R free a b)
  turns_found (inl v) y l j f = found_here v y l j f
  turns_found (inr v) y l j f =
      let s = v.sum in
      let e = swap (joined_even R) v.both in
      found_here (record { P = v.Q; Q = v.P; m = v.n; n = v.m; both = e; mine = v.other; other = v.mine; sum = omega arith }) y l f j

  -- where an end has no further level there is no route
  pub turns_none : {J F L : ℕ → Bool} {k : ℕ} → Turns (joined R) B a b J F L k → ((y : ℕ) → L y ≡ true → J y ≡ true → ⊥)
      → None ≡ edges_of (route R free a b)
  turns_none (inl v) never = rw (no_way R free a b (λ p w. closed_here R free a b (inner_mid i R) v.both v.mine never w))
  turns_none (inr v) never = rw (no_way R free a b (λ p w. closed_there R free a b (inner_mid i R) v.both v.mine never w))

-- ends that an edge joins
pub ends_joined : (R : Region) (free : ℕ → Bool) (a b : ℕ) → (a ≡ b → ⊥) → joined R a b ≡ true → Some 1 ≡ edges_of (route R free a b)
ends_joined R free a b d j = sym (way_edges R free a b d (last j) (λ q w. way_two R free a b w))

-- no way leads from a location to itself
pub ends_same : (R : Region) (free : ℕ → Bool) (a b : ℕ) → a ≡ b → route R free a b ≡ none
ends_same R free a b e = rw (eq-eqb a b e, route)
