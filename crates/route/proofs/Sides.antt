-- The levels around the two ends, over tests alone: E says which locations an edge joins, B which may lie between the ends. P y is 0 where y is at no level of
-- the end, 1 at the end itself, and one more than at some neighbour elsewhere. While no edge joins a level of one end with a level of the other, the next
-- level of either end is what is joined to its newest one among the locations that are at no level.
use mathlib.Core.Bool.{Bool, true, false, not, ◌&&◌, cond}
use mathlib.Core.Logic.{◌⊎◌, inl, inr, ⊎_elim}
use mathlib.Core.Path.{◌≡◌, refl, sym, ap, subst, ◌∙◌}
use native.Mathlib.Decide.{ℕ_discrete}
use native.Mathlib.Nat.{eq-zero-or-pos}
use native.Mathlib.Omega.{arith}
use Prim.Native.Nat.{ℕ, suc, ◌+◌, ◌≤◌, ◌<◌}
use borrow.Author.Tests.{eq-eqb, ne_eqb}
use lib.Dec.{eqb}
use Rattle.sets.proofs.Bools.{clash, either, and_both, both_and, not_of, of_not, side}

-- the levels of the end c are known to level k
pub record Known (E : ℕ → ℕ → Bool) (B : ℕ → Bool) (c : ℕ) (P : ℕ → ℕ) (k : ℕ) : Type 0 where
  pub some : 0 < k
  pub end : P c ≡ 1
  pub one : (y : ℕ) → P y ≡ 1 → y ≡ c
  pub most : (y : ℕ) → P y ≤ k
  pub inner : (y : ℕ) → 1 < P y → B y ≡ true
  pub next : (y : ℕ) → 1 < P y → (z : ℕ) × (E y z ≡ true) × (P z + 1 ≡ P y)
  pub closed : (x y : ℕ) → B x ≡ true → E x y ≡ true → 0 < P y → P y < k → (0 < P x) × (P x ≤ P y + 1)

-- J has those of L that an edge joins with level k
pub record Joins (E : ℕ → ℕ → Bool) (P : ℕ → ℕ) (J L : ℕ → Bool) (k : ℕ) : Type 0 where
  pub all : (x y : ℕ) → L x ≡ true → E x y ≡ true → P y ≡ k → J x ≡ true
  pub from : (x : ℕ) → L x ≡ true → J x ≡ true → (y : ℕ) × (E x y ≡ true) × (P y ≡ k)

-- the levels of both ends, L the locations that are at none, and no edge from one to the other
pub record Both (E : ℕ → ℕ → Bool) (B : ℕ → Bool) (p q : ℕ) (P Q : ℕ → ℕ) (L : ℕ → Bool) (k m : ℕ) : Type 0 where
  pub here : Known E B p P k
  pub there : Known E B q Q m
  pub left : (x : ℕ) → L x ≡ true → (B x ≡ true) × (P x ≡ 0) × (Q x ≡ 0)
  pub rest : (x : ℕ) → B x ≡ true → P x ≡ 0 → Q x ≡ 0 → L x ≡ true
  pub apart : (x y : ℕ) → 0 < P x → 0 < Q y → E x y ≡ true → ⊥

-- P' has the locations N as level k + 1
pub record Raised (P P' : ℕ → ℕ) (N : ℕ → Bool) (k : ℕ) : Type 0 where
  pub new : (y : ℕ) → N y ≡ true → P' y ≡ suc k
  pub old : (y : ℕ) → N y ≡ false → P' y ≡ P y

pub raised : (ℕ → ℕ) → (ℕ → Bool) → ℕ → ℕ → ℕ
raised P N k y = cond (N y) (suc k) (P y)

pub raise : (P : ℕ → ℕ) (N : ℕ → Bool) (k : ℕ) → Raised P (raised P N k) N k
unfolding raised
raise P N k = record { new = λ y e. rw e; old = λ y e. rw e }

-- an edge has no direction
abbrev pub Even : (ℕ → ℕ → Bool) → Type 0
Even E = (x y : ℕ) → E x y ≡ true → E y x ≡ true

pub swap : {E : ℕ → ℕ → Bool} {B : ℕ → Bool} {p q : ℕ} {P Q : ℕ → ℕ} {L : ℕ → Bool} {k m : ℕ} → Even E
    → Both E B p q P Q L k m → Both E B q p Q P L m k
swap t v =
    record {
      here = v.there;
      there = v.here;
      left = λ x h. let r = v.left x h in (r.0, r.2, r.1);
      rest = λ x r s t. v.rest x r t s;
      apart = λ x y h l e. v.apart y x l h (t x y e);
    }

pub joins_fewer : {E : ℕ → ℕ → Bool} {P : ℕ → ℕ} {J L L' : ℕ → Bool} {k : ℕ} → ((x : ℕ) → L' x ≡ true → L x ≡ true)
    → Joins E P J L k → Joins E P J L' k
joins_fewer f j = record { all = λ x y h. j.all x y (f x h); from = λ x h. j.from x (f x h) }

module _ {E : ℕ → ℕ → Bool} {B : ℕ → Bool} {p q : ℕ} {P Q : ℕ → ℕ} {J L : ℕ → Bool} {k m : ℕ}
    (t : Even E) (v : Both E B p q P Q L k m) (j : Joins E P J L k) where
  -- from the newest level an edge leads to a level or to what comes next
  pub onward : (x y : ℕ) → B x ≡ true → E x y ≡ true → 0 < P y
      → ((0 < P x) × (P x ≤ P y + 1)) ⊎ ((P y ≡ k) × (J x ≡ true) × (L x ≡ true))
  onward x y r e h = ⊎_elim (λ l. inl (v.here.closed x y r e h l)) (λ l. go l (eq-zero-or-pos (P x)) (eq-zero-or-pos (Q x))) (side (P y) k)
    where
      go : k ≤ P y → (P x ≡ 0) ⊎ (0 < P x) → (Q x ≡ 0) ⊎ (0 < Q x)
          → ((0 < P x) × (P x ≤ P y + 1)) ⊎ ((P y ≡ k) × (J x ≡ true) × (L x ≡ true))
      go l (inr z) d = inl (z, let s = v.here.most x in omega arith)
      go l (inl z) (inr d) = absurd (v.apart y x h d (t x y e))
      go l (inl z) (inl d) =
          let o : L x ≡ true = v.rest x r z d in
          let s : P y ≡ k = let u = v.here.most y in omega arith in
          inr (s, j.all x y o e s, o)

  module _ {P' : ℕ → ℕ} {N : ℕ → Bool} (n : (y : ℕ) → N y ≡ (J y && L y)) (u : Raised P P' N k) where
    new_left : (y : ℕ) → N y ≡ true → (J y ≡ true) × (L y ≡ true)
    new_left y h = and_both (J y) (L y) (sym (n y) ∙ h)

    pub kept : (y : ℕ) → 0 < P y → P' y ≡ P y
    kept y h = ⊎_elim (λ s. let z = (v.left y (new_left y s).1).1 in absurd (omega arith)) (λ s. u.old y s) (either (N y))

    -- only what is new is at the new level
    pub newest : (y : ℕ) → P' y ≡ suc k → N y ≡ true
    newest y e = ⊎_elim (λ s. s) (λ s. let o = u.old y s in let r = v.here.most y in absurd (omega arith)) (either (N y))

    pub known_next : Known E B p P' (suc k)
    known_next =
        record {
          some = omega arith;
          end = let e = v.here.end in kept p (omega arith) ∙ e;
          one = λ y e. alone y e (either (N y));
          most = λ y. ⊎_elim (λ s. let o = u.new y s in omega arith) (λ s. let o = u.old y s in let r = v.here.most y in omega arith) (either (N y));
          inner = λ y h. ⊎_elim (λ s. (v.left y (new_left y s).1).0) (λ s. v.here.inner y (subst (λ (d : ℕ). 1 < d) (u.old y s) h)) (either (N y));
          next = λ y h. ⊎_elim (λ s. first y s) (λ s. later y s (subst (λ (d : ℕ). 1 < d) (u.old y s) h)) (either (N y));
          closed = close;
        }
      where
        alone : (y : ℕ) → P' y ≡ 1 → (N y ≡ true) ⊎ (N y ≡ false) → y ≡ p
        alone y e (inl s) = let o = u.new y s in let r = v.here.some in absurd (omega arith)
        alone y e (inr s) = v.here.one y (sym (u.old y s) ∙ e)

        first : (y : ℕ) → N y ≡ true → (z : ℕ) × (E y z ≡ true) × (P' z + 1 ≡ P' y)
        first y s =
            let f = j.from y (new_left y s).1 (new_left y s).0 in
            let r = v.here.some in
            let e : P f.0 ≡ k = f.2 in
            let g = kept f.0 (omega arith) in
            let o = u.new y s in
            (f.0, f.1, omega arith)

        later : (y : ℕ) → N y ≡ false → 1 < P y → (z : ℕ) × (E y z ≡ true) × (P' z + 1 ≡ P' y)
        later y s h =
            let f = v.here.next y h in
            let e : P f.0 + 1 ≡ P y = f.2 in
            let g = kept f.0 (omega arith) in
            let o = u.old y s in
            (f.0, f.1, omega arith)

        close : (x y : ℕ) → B x ≡ true → E x y ≡ true → 0 < P' y → P' y < suc k → (0 < P' x) × (P' x ≤ P' y + 1)
        close x y r e h l = ⊎_elim (λ s. let o = u.new y s in absurd (omega arith)) (λ s. go (u.old y s)) (either (N y))
          where
            go : P' y ≡ P y → (0 < P' x) × (P' x ≤ P' y + 1)
            go o = ⊎_elim
                (λ c. let g = kept x c.0 in (omega arith, let d = c.1 in omega arith))
                (λ c. let g = u.new x (n x ∙ both_and (J x) (L x) c.1 c.2) in let d : P y ≡ k = c.0 in (omega arith, omega arith))
                (onward x y r e (omega arith))

    module _ {F L' : ℕ → Bool} (f : Joins E Q F L m) (never : (y : ℕ) → N y ≡ true → F y ≡ true → ⊥)
        (l : (y : ℕ) → L' y ≡ (L y && not (N y))) where
      fewer : (y : ℕ) → L' y ≡ true → (L y ≡ true) × (N y ≡ false)
      fewer y h = let r = and_both (L y) (not (N y)) (sym (l y) ∙ h) in (r.0, not_of (N y) r.1)

      pub turn : Both E B p q P' Q L' (suc k) m
      turn =
          record {
            here = known_next;
            there = v.there;
            left = λ x h. let r = fewer x h in let s = v.left x r.0 in (s.0, u.old x r.1 ∙ s.1, s.2);
            rest = λ x r s d. l x ∙ remains x r s d (either (N x));
            apart = λ x y h d e. ⊎_elim (λ s. met x y s d e) (λ s. v.apart x y (let o = u.old x s in omega arith) d e) (either (N x));
          }
        where
          remains : (x : ℕ) → B x ≡ true → P' x ≡ 0 → Q x ≡ 0 → (N x ≡ true) ⊎ (N x ≡ false) → (L x && not (N x)) ≡ true
          remains x r s d (inl h) = let o = u.new x h in absurd (omega arith)
          remains x r s d (inr h) = both_and (L x) (not (N x)) (v.rest x r (sym (u.old x h) ∙ s) d) (of_not (N x) h)

          met : (x y : ℕ) → N x ≡ true → 0 < Q y → E x y ≡ true → ⊥
          met x y s d e =
              let o = (new_left x s).1 in
              let z = v.left x o in
              ⊎_elim
              (λ c. let r = (v.there.closed x y z.0 e d c).0 in let w = z.2 in absurd (omega arith))
              (λ c. never x s (f.all x y o e (let r = v.there.most y in omega arith)))
              (side (Q y) m)

      pub turn_joins : {J' : ℕ → Bool} → ((x y : ℕ) → L' x ≡ true → E x y ≡ true → N y ≡ true → J' x ≡ true)
          → ((x : ℕ) → L' x ≡ true → J' x ≡ true → (y : ℕ) × (E x y ≡ true) × (N y ≡ true)) → Joins E P' J' L' (suc k)
      turn_joins a g = record { all = λ x y h e d. a x y h e (newest y d); from = λ x h i. let r = g x h i in (r.0, r.1, u.new r.0 r.2) }

      pub turn_fewer : Joins E Q F L' m
      turn_fewer = joins_fewer (λ x h. (fewer x h).0) f

-- the end alone
pub only : ℕ → ℕ → ℕ
only c y = cond (eqb y c) 1 0

pub only_here : (c : ℕ) → only c c ≡ 1
unfolding only
only_here c = rw (eq-eqb c c refl)

only_else : (c y : ℕ) → (y ≡ c → ⊥) → only c y ≡ 0
unfolding only
only_else c y h = rw (ne_eqb y c h)

pub only_pos : (c y : ℕ) → 0 < only c y → y ≡ c
only_pos c y h = go (ℕ_discrete y c)
  where
    go : Dec (y ≡ c) → y ≡ c
    go (yes e) = e
    go (no e) = let z = only_else c y e in absurd (omega arith)

only_most : (c y : ℕ) → only c y ≤ 1
only_most c y = go (ℕ_discrete y c)
  where
    go : Dec (y ≡ c) → only c y ≤ 1
    go (yes e) = let z : only c y ≡ 1 = ap (only c) e ∙ only_here c in omega arith
    go (no e) = let z = only_else c y e in omega arith

pub known_start : (E : ℕ → ℕ → Bool) (B : ℕ → Bool) (c : ℕ) → Known E B c (only c) 1
known_start E B c =
    record {
      some = omega arith;
      end = only_here c;
      one = λ y e. only_pos c y (omega arith);
      most = only_most c;
      inner = λ y h. let m = only_most c y in absurd (omega arith);
      next = λ y h. let m = only_most c y in absurd (omega arith);
      closed = λ x y r e h l. absurd (omega arith);
    }

module _ {E : ℕ → ℕ → Bool} {B : ℕ → Bool} {p q : ℕ} where
  -- both ends alone, where they are not joined
  pub start : (E p q ≡ true → ⊥) → B p ≡ false → B q ≡ false → Both E B p q (only p) (only q) B 1 1
  start n z w =
      record {
        here = known_start E B p;
        there = known_start E B q;
        left = λ x h. (h, only_else p x (λ e. clash h (ap B e ∙ z)), only_else q x (λ e. clash h (ap B e ∙ w)));
        rest = λ x r s d. r;
        apart = λ x y h l e. n (subst (λ (d : ℕ). E p d ≡ true) (only_pos q y l) (subst (λ (d : ℕ). E d y ≡ true) (only_pos p x h) e));
      }

-- what is joined to an end
pub start_joins : {E : ℕ → ℕ → Bool} {J L : ℕ → Bool} (c : ℕ) → ((x : ℕ) → J x ≡ E x c) → Joins E (only c) J L 1
start_joins {E} {J} c f =
    record {
      all = λ x y h e d. f x ∙ subst (λ (z : ℕ). E x z ≡ true) (only_pos c y (omega arith)) e;
      from = λ x h i. (c, sym (f x) ∙ i, only_here c);
    }
