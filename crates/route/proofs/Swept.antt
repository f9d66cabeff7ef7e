-- The sweeps over a set's members, one law for each step: how a sweep starts, that it passes numbers that are no members, and what one member adds. The
-- members come in order, so the first that is joined to a location is the one by which it was reached.
use mathlib.Core.Bool.{Bool, true, false, not, ◌&&◌, ◌||◌}
use mathlib.Core.List.{List}
use mathlib.Core.Logic.{◌⊎◌, inl, inr, ⊎_elim}
use mathlib.Core.Path.{◌≡◌, refl, sym, ap, subst, ◌∙◌}
use native.Mathlib.Decide.{ℕ_discrete}
use native.Mathlib.Omega.{arith}
use Prim.Native.Nat.{ℕ, ◌+◌, ◌≤◌, ◌<◌}
use lib.ListN.{length, get_or, set, length-set}
use lib.Seq.{get_or-set_same, get_or-set_other}
use Rattle.sets.specs.declared.LocationSet.{LocationSet}
use Rattle.sets.specs.declared.rows.Rows.{Rows}
use Rattle.sets.specs.Sets.{has, row_of}
use Rattle.sets.proofs.Bools.{clash, either, or_left, or_right, or_cases, and_both, both_and, not_of, of_not, side}
use Rattle.sets.proofs.SetLaws.{has_lt}
use Rattle.route.specs.Sweeps.{Joined, Noted, Spread}

-- a member below the end of a gap is below its start
gap : {S : ℕ → Bool} {n m : ℕ} → ((z : ℕ) → n ≤ z → z < m → S z ≡ false) → (x : ℕ) → x < m → S x ≡ true → x < n
gap {n = n} f x h p = ⊎_elim (λ l. l) (λ l. absurd (clash p (f x l h))) (side x n)

module _ {rows : Rows} {S : ℕ → Bool} where
  pub joined_start : {out : LocationSet} → ((y : ℕ) → has out y ≡ false) → Joined rows S 0 out
  joined_start e = record { to = λ y p f. absurd (clash p (e y)); all = λ x y h. absurd (omega arith) }

  module _ {n : ℕ} {out : LocationSet} (u : Joined rows S n out) where
    pub joined_skip : (m : ℕ) → n ≤ m → ((z : ℕ) → n ≤ z → z < m → S z ≡ false) → Joined rows S m out
    joined_skip m l f =
        record {
          to = λ y p g. let t = u.to y p g in let k = t.1 in (t.0, omega arith, t.2, t.3);
          all = λ x y h p. u.all x y (gap f x h p) p;
        }

    pub joined_more : {to : LocationSet} → S n ≡ true → ((y : ℕ) → has to y ≡ (has out y || has (row_of rows n) y)) → Joined rows S (n + 1) to
    joined_more {to} p e =
        record {
          to = λ y q g. to' y g (or_cases _ _ (sym (e y) ∙ q));
          all = λ x y h q r. all x y h q r (ℕ_discrete x n);
        }
      where
        to' : (y : ℕ) → S y ≡ false → (has out y ≡ true) ⊎ (has (row_of rows n) y ≡ true)
            → (x : ℕ) × (x < n + 1) × (S x ≡ true) × (has (row_of rows x) y ≡ true)
        to' y g (inl a) = let t = u.to y a g in let k = t.1 in (t.0, omega arith, t.2, t.3)
        to' y g (inr a) = (n, omega arith, p, a)

        all : (x y : ℕ) → x < n + 1 → S x ≡ true → has (row_of rows x) y ≡ true → Dec (x ≡ n) → has to y ≡ true
        all x y h q r (yes d) = e y ∙ or_right (has out y) _ (subst (λ (z : ℕ). has (row_of rows z) y ≡ true) d r)
        all x y h q r (no d) = e y ∙ or_left (has out y) _ (u.all x y (omega arith) q r)

    -- members of S besides
    pub joined_own : {own : LocationSet} → ((y : ℕ) → has own y ≡ true → S y ≡ false → has out y ≡ true)
        → ((y : ℕ) → has out y ≡ true → has own y ≡ true) → Joined rows S n own
    joined_own e f = record { to = λ y p g. u.to y (e y p g) g; all = λ x y h q r. f y (u.all x y h q r) }

module _ {S : ℕ → Bool} {v : ℕ} where
  pub noted_start : {h : List ℕ} → Noted S v 0 h h
  noted_start = record { long = refl; at = λ y l. absurd (omega arith); off = λ y p. refl; above = λ y l. refl }

  module _ {n : ℕ} {before h : List ℕ} (u : Noted S v n before h) where
    pub noted_skip : (m : ℕ) → n ≤ m → ((z : ℕ) → n ≤ z → z < m → S z ≡ false) → Noted S v m before h
    noted_skip m l f =
        record { long = u.long; at = λ y k p. u.at y (gap f y k p) p; off = u.off; above = λ y k. u.above y (omega arith) }

    pub noted_more : S n ≡ true → n < length h → Noted S v (n + 1) before (set h n v)
    noted_more p l =
        record {
          long = length-set h n v ∙ u.long;
          at = λ y k q. at y k q (ℕ_discrete y n);
          off = λ y q. get_or-set_other h n y v 0 (λ d. clash p (ap S (sym d) ∙ q)) ∙ u.off y q;
          above = λ y k. get_or-set_other h n y v 0 (λ d. absurd (omega arith)) ∙ u.above y (omega arith);
        }
      where
        at : (y : ℕ) → y < n + 1 → S y ≡ true → Dec (y ≡ n) → get_or (set h n v) y 0 ≡ v
        at y k q (yes d) = ap (λ (z : ℕ). get_or (set h n v) z 0) d ∙ get_or-set_same h n v 0 l
        at y k q (no d) = get_or-set_other h n y v 0 d ∙ u.at y (omega arith) q

module _ {rows : Rows} {S L : ℕ → Bool} where
  pub spread_start : {left next : LocationSet} {h : List ℕ} → ((y : ℕ) → has left y ≡ L y) → ((y : ℕ) → has next y ≡ false)
      → Spread rows S 0 L h left next h
  spread_start {left} {next} e f =
      record {
        stay = λ y. e y ∙ all_left (L y) ∙ ap (λ (t : Bool). L y && not t) (sym (f y));
        new = λ y p. absurd (clash p (f y));
        all = λ x y h. absurd (omega arith);
        under = λ y p. absurd (clash p (f y));
        member = λ y p. absurd (clash p (f y));
        edge = λ y p. absurd (clash p (f y));
        least = λ y z p. absurd (clash p (f y));
        old = λ y p. refl;
      }
    where
      all_left : (t : Bool) → t ≡ (t && true)
      all_left true = refl
      all_left false = refl

  module _ {n : ℕ} {before h : List ℕ} {left next : LocationSet} (u : Spread rows S n L before left next h) where
    pub spread_skip : (m : ℕ) → n ≤ m → ((z : ℕ) → n ≤ z → z < m → S z ≡ false) → Spread rows S m L before left next h
    spread_skip m l f =
        record {
          stay = u.stay;
          new = u.new;
          all = λ x y k p. u.all x y (gap f x k p) p;
          under = λ y p. let k = u.under y p in omega arith;
          member = u.member;
          edge = u.edge;
          least = u.least;
          old = u.old;
        }

    -- what member n reaches: those of left that it is joined to
    module _ (left' next' new : LocationSet) {h' : List ℕ} (p : S n ≡ true) (e : (y : ℕ) → has new y ≡ (has (row_of rows n) y && has left y))
        (k : Noted (has new) n 256 h h') (l : (y : ℕ) → has left' y ≡ (has left y && not (has new y)))
        (o : (y : ℕ) → has next' y ≡ (has next y || has new y)) where
      fresh : (y : ℕ) → has new y ≡ true → (has (row_of rows n) y ≡ true) × (L y ≡ true) × (has next y ≡ false)
      fresh y q =
          let r = and_both (has (row_of rows n) y) (has left y) (sym (e y) ∙ q) in
          let s = and_both (L y) (not (has next y)) (sym (u.stay y) ∙ r.1) in
          (r.0, s.0, not_of (has next y) s.1)

      hop_new : (y : ℕ) → has new y ≡ true → get_or h' y 0 ≡ n
      hop_new y q = k.at y (has_lt new y q) q

      hop_old : (y : ℕ) → has next y ≡ true → get_or h' y 0 ≡ get_or h y 0
      hop_old y q = k.off y (⊎_elim (λ r. absurd (clash q (fresh y r).2)) (λ r. r) (either (has new y)))

      cases : (y : ℕ) → has next' y ≡ true → (has next y ≡ true) ⊎ (has new y ≡ true)
      cases y q = or_cases (has next y) (has new y) (sym (o y) ∙ q)

      pub spread_more : Spread rows S (n + 1) L before left' next' h'
      spread_more =
          record {
            stay = λ y. l y ∙ ap (λ (t : Bool). t && not (has new y)) (u.stay y) ∙ two (L y) (has next y) (has new y)
                ∙ ap (λ (t : Bool). L y && not t) (sym (o y));
            new = λ y q. ⊎_elim (λ r. u.new y r) (λ r. (fresh y r).1) (cases y q);
            all = λ x y b q r s. all x y b q r s (ℕ_discrete x n);
            under = λ y q. ⊎_elim (λ r. let a = hop_old y r in let b = u.under y r in omega arith) (λ r. let a = hop_new y r in omega arith) (cases y q);
            member = λ y q. ⊎_elim (λ r. ap S (hop_old y r) ∙ u.member y r) (λ r. ap S (hop_new y r) ∙ p) (cases y q);
            edge = λ y q. edge y (cases y q);
            least = λ y z q r s. least y z r s (cases y q);
            old = λ y q. old y q (either (has next y)) (either (has new y));
          }
        where
          two : (s t v : Bool) → ((s && not t) && not v) ≡ (s && not (t || v))
          two true true v = refl
          two true false v = refl
          two false t v = refl

          first : (y z : ℕ) → has new y ≡ true → S z ≡ true → has (row_of rows z) y ≡ true → n ≤ z
          first y z q r s = ⊎_elim (λ b. absurd (clash (u.all z y b r s (fresh y q).1) (fresh y q).2)) (λ b. b) (side z n)

          all : (x y : ℕ) → x < n + 1 → S x ≡ true → has (row_of rows x) y ≡ true → L y ≡ true → Dec (x ≡ n) → has next' y ≡ true
          all x y b q r s (no d) = o y ∙ or_left _ (has new y) (u.all x y (omega arith) q r s)
          all x y b q r s (yes d) = ⊎_elim (λ a. o y ∙ or_left _ (has new y) a) (λ a. o y ∙ or_right (has next y) _ (reached a)) (either (has next y))
            where
              reached : has next y ≡ false → has new y ≡ true
              reached a = e y ∙ both_and _ _ (subst (λ (z : ℕ). has (row_of rows z) y ≡ true) d r) (u.stay y ∙ both_and _ _ s (of_not _ a))

          edge : (y : ℕ) → (has next y ≡ true) ⊎ (has new y ≡ true) → has (row_of rows (get_or h' y 0)) y ≡ true
          edge y (inl r) = ap (λ (z : ℕ). has (row_of rows z) y) (hop_old y r) ∙ u.edge y r
          edge y (inr r) = ap (λ (z : ℕ). has (row_of rows z) y) (hop_new y r) ∙ (fresh y r).0

          least : (y z : ℕ) → S z ≡ true → has (row_of rows z) y ≡ true → (has next y ≡ true) ⊎ (has new y ≡ true) → get_or h' y 0 ≤ z
          least y z r s (inl a) = let b = hop_old y a in let c = u.least y z a r s in omega arith
          least y z r s (inr a) = let b = hop_new y a in let c = first y z a r s in omega arith

          old : (y : ℕ) → has next' y ≡ false → (has next y ≡ true) ⊎ (has next y ≡ false) → (has new y ≡ true) ⊎ (has new y ≡ false)
              → get_or h' y 0 ≡ get_or before y 0
          old y q (inl a) r = absurd (clash (o y ∙ or_left _ (has new y) a) q)
          old y q (inr a) (inl r) = absurd (clash (o y ∙ or_right (has next y) _ r) q)
          old y q (inr a) (inr r) = k.off y r ∙ u.old y a
