-- Grammars: a start that is admitted is the start of a line that is taken, and the other way round, for any grammar whose offered words differ and have
-- neither spaces nor newlines.
use mathlib.Core.Bool.{Bool, true, false, ◌&&◌, false≢true}
use mathlib.Core.List.{List, [], ◌∷◌, ◌++◌, append_assoc, append-nil}
use mathlib.Core.Logic.{◌⊎◌, inl, inr}
use mathlib.Core.Option.{Option, none, some}
use mathlib.Core.Path.{◌≡◌, refl, sym, ap, subst, ◌∙◌}
use native.Mathlib.Nat.{le_of_suc-le-suc, not-suc-le-zero}
use native.Mathlib.Omega.{arith}
use Prim.Native.Nat.{ℕ, zero, suc, ◌<◌}
use lib.Dec.{eqb}
use lib.ListN.{get_or, length}
use Rattle.rules.specs.Basics.{same_list}
use Rattle.rules.specs.Words.{Text, space, newline, split, behind, join, opens, place}
use Rattle.rules.specs.Grammar.{Grammar, stop, ask, is_some, some_below, takes, live, starts}
use Rattle.rules.proofs.Tests.{eqb_same, eqb_true}
use Rattle.trips.proofs.Texts.{Free, split_shape, split_seam, split_one}

pub none_not_some : {A X : Type 0} {a : A} → none ≡ some a → X
none_not_some e = let z : ◌≡◌ {A = ℕ} 0 1 = cc in absurd (omega arith)

pub both : (a b : Bool) → (a && b) ≡ true → (a ≡ true) × (b ≡ true)
both true b h = (refl, h)
both false b h = absurd (false≢true h)

-- Words in lists.
pub same_word : (w v : Text) → same_list eqb w v ≡ true → w ≡ v
same_word [] [] h = refl
same_word [] (y ∷ v) h = absurd (false≢true h)
same_word (x ∷ w) [] h = absurd (false≢true h)
same_word (x ∷ w) (y ∷ v) h =
    let b : (eqb x y ≡ true) × (same_list eqb w v ≡ true) = both (eqb x y) (same_list eqb w v) h in
    let e : x ≡ y = eqb_true x y b.0 in
    let f : w ≡ v = same_word w v b.1 in
    cc

pub word_same : (w : Text) → same_list eqb w w ≡ true
word_same [] = refl
word_same (x ∷ w) = ap (λ (b : Bool). b && same_list eqb w w) (eqb_same x) ∙ word_same w

pub place_found : (w : Text) (vs : List Text) (i : ℕ) → place w vs ≡ some i → (get_or vs i [] ≡ w) × (i < length vs)
place_found w [] i h = none_not_some h
place_found w (v ∷ vs) i h = go (same_list eqb w v) refl (place w vs) refl h (λ j e. place_found w vs j e)
  where
    go : (b : Bool) → same_list eqb w v ≡ b → (o : Option ℕ) → place w vs ≡ o
        → elim b [ true ↦ some 0 | false ↦ elim o [ none ↦ none | some j ↦ some (suc j) ] ] ≡ some i
        → ((j : ℕ) → place w vs ≡ some j → (get_or vs j [] ≡ w) × (j < length vs)) → (get_or (v ∷ vs) i [] ≡ w) × (i < length (v ∷ vs))
    go true e o f k rec =
        let z : 0 ≡ i = cc in
        subst (λ (j : ℕ). (get_or (v ∷ vs) j [] ≡ w) × (j < suc (length vs))) z (sym (same_word w v e), omega arith)
    go false e none f k rec = none_not_some k
    go false e (some j) f k rec =
        let z : suc j ≡ i = cc in
        let r : (get_or vs j [] ≡ w) × (j < length vs) = rec j f in
        subst (λ (m : ℕ). (get_or (v ∷ vs) m [] ≡ w) × (m < suc (length vs))) z (r.0, omega (arith, r.1))

-- one of so many
below_some : (n : ℕ) (p : ℕ → Bool) → some_below n p ≡ true → (i : ℕ) × (i < n) × (p i ≡ true)
below_some zero p h = absurd (false≢true h)
below_some (suc n) p h = go (p 0) refl h (λ k. below_some n (λ i. p (suc i)) k)
  where
    go : (b : Bool) → p 0 ≡ b → elim b [ true ↦ true | false ↦ some_below n λ i. p (suc i) ] ≡ true
        → (some_below n (λ i. p (suc i)) ≡ true → (i : ℕ) × (i < n) × (p (suc i) ≡ true)) → (i : ℕ) × (i < suc n) × (p i ≡ true)
    go true e k rec = (0, omega arith, e)
    go false e k rec = let r : (i : ℕ) × (i < n) × (p (suc i) ≡ true) = rec k in (suc r.0, omega (arith, r.1), r.2)

some_below_lem : (n : ℕ) (p : ℕ → Bool) (i : ℕ) → i < n → p i ≡ true → some_below n p ≡ true
some_below_lem zero p i l h = absurd (not-suc-le-zero l)
some_below_lem (suc n) p zero l h = ap (λ (b : Bool). elim b [ true ↦ true | false ↦ some_below n λ i. p (suc i) ]) h
some_below_lem (suc n) p (suc i) l h = go (p 0) (some_below_lem n (λ i. p (suc i)) i (le_of_suc-le-suc l) h)
  where
    go : (b : Bool) → some_below n (λ i. p (suc i)) ≡ true → elim b [ true ↦ true | false ↦ some_below n λ i. p (suc i) ] ≡ true
    go true r = refl
    go false r = r

-- what a text begins with
opens_more : (u t : Text) → opens u t ≡ true → (z : Text) × (t ≡ u ++ z)
opens_more [] t h = (t, refl)
opens_more (x ∷ u) [] h = absurd (false≢true h)
opens_more (x ∷ u) (y ∷ t) h =
    let b : (eqb x y ≡ true) × (opens u t ≡ true) = both (eqb x y) (opens u t) h in
    let e : x ≡ y = eqb_true x y b.0 in
    let r : (z : Text) × (t ≡ u ++ z) = opens_more u t b.1 in
    (r.0, ap (λ (s : Text). y ∷ s) r.1 ∙ ap (λ (a : ℕ). a ∷ (u ++ r.0)) (sym e))

opens_all : (u z : Text) → opens u (u ++ z) ≡ true
opens_all [] z = refl
opens_all (x ∷ u) z = ap (λ (b : Bool). b && opens u (u ++ z)) (eqb_same x) ∙ opens_all u z

-- of two ways to part a text, one has the longer front
abbrev pub Longer : Text → Text → Text → Text → Type 0
Longer w r l y = ((z : Text) × (w ≡ l ++ z)) ⊎ ((x : ℕ) × (z : Text) × (l ≡ w ++ (x ∷ z)) × (r ≡ x ∷ (z ++ y)))

pub longer : (w r l y : Text) → w ++ r ≡ l ++ y → Longer w r l y
longer w r [] y e = inl (w, refl)
longer [] r (x ∷ l) y e = inr (x, l, refl, e)
longer (v ∷ w) r (x ∷ l) y e =
    let h : v ≡ x = cc in
    let t : w ++ r ≡ l ++ y = cc in
    go h (longer w r l y t)
  where
    go : v ≡ x → Longer w r l y → Longer (v ∷ w) r (x ∷ l) y
    go h (inl q) = inl (q.0, let f : w ≡ l ++ q.0 = q.1 in cc)
    go h (inr q) = inr (q.0, q.1, (let f : l ≡ w ++ (q.0 ∷ q.1) = q.2 in cc), q.3)

free_front : (c : ℕ) (p q : Text) → Free c (p ++ q) → Free c p
free_front c [] q h = tt
free_front c (x ∷ p) q h = (h.0, free_front c p q h.1)

abbrev pub Clean : Text → Type 0
Clean w = Free space w × Free newline w

abbrev pub CleanLine : List Text → Type 0
CleanLine [] = Unit {0}
CleanLine (w ∷ ws) = Clean w × CleanLine ws

module _ {A : Type 0} where
  -- words that may stand next differ and have neither spaces nor newlines
  abbrev pub Proper : Grammar A → Type 0
  Proper (stop e) = Unit {0}
  Proper (ask e vs k) = (i : ℕ) → i < length vs → (place (get_or vs i []) vs ≡ some i) × Clean (get_or vs i []) × Proper (k i)

  pub takes_next : (e : Option A) (vs : List Text) (k : ℕ → Grammar A) (w : Text) (ws : List Text) (i : ℕ) → place w vs ≡ some i
      → takes (ask e vs k) (w ∷ ws) ≡ takes (k i) ws
  takes_next e vs k w ws i h = ap (λ (o : Option ℕ). elim o [ none ↦ none | some j ↦ takes (k j) ws ]) h

  -- a line that is taken: its first word is one of those that may stand next
  pub took : (e : Option A) (vs : List Text) (k : ℕ → Grammar A) (w : Text) (ws : List Text) (a : A) → takes (ask e vs k) (w ∷ ws) ≡ some a
      → (i : ℕ) × (place w vs ≡ some i) × (takes (k i) ws ≡ some a)
  took e vs k w ws a h = go (place w vs) refl h
    where
      go : (o : Option ℕ) → place w vs ≡ o → elim o [ none ↦ none | some j ↦ takes (k j) ws ] ≡ some a
          → (i : ℕ) × (place w vs ≡ some i) × (takes (k i) ws ≡ some a)
      go none f r = none_not_some r
      go (some i) f r = (i, f, r)

  pub takes_clean : (g : Grammar A) → Proper g → (ws : List Text) (a : A) → takes g ws ≡ some a → CleanLine ws
  takes_clean (stop e) p [] a h = tt
  takes_clean (stop e) p (w ∷ ws) a h = none_not_some h
  takes_clean (ask e vs k) p [] a h = tt
  takes_clean (ask e vs k) p (w ∷ ws) a h =
      let r : (i : ℕ) × (place w vs ≡ some i) × (takes (k i) ws ≡ some a) = took e vs k w ws a h in
      let f : (get_or vs r.0 [] ≡ w) × (r.0 < length vs) = place_found w vs r.0 r.1 in
      (subst (λ (v : Text). Clean v) f.0 (p r.0 f.1).1, takes_clean (k r.0) (p r.0 f.1).2 ws a r.2)

  is_some_lem : (e : Option A) → is_some e ≡ true → (a : A) × (e ≡ some a)
  is_some_lem none h = absurd (false≢true h)
  is_some_lem (some a) h = (a, refl)

  live_takes : (g : Grammar A) → Proper g → live g ≡ true → (ws : List Text) × (a : A) × (takes g ws ≡ some a)
  live_takes (stop e) p h = let r : (a : A) × (e ≡ some a) = is_some_lem e h in ([], r.0, r.1)
  live_takes (ask e vs k) p h = go (is_some e) refl h (λ i q v. live_takes (k i) q v)
    where
      go : (b : Bool) → is_some e ≡ b → elim b [ true ↦ true | false ↦ some_below (length vs) λ i. live (k i) ] ≡ true
          → ((i : ℕ) → Proper (k i) → live (k i) ≡ true → (ws : List Text) × (a : A) × (takes (k i) ws ≡ some a))
          → (ws : List Text) × (a : A) × (takes (ask e vs k) ws ≡ some a)
      go true f r rec = let q : (a : A) × (e ≡ some a) = is_some_lem e f in ([], q.0, q.1)
      go false f r rec =
          let q : (i : ℕ) × (i < length vs) × (live (k i) ≡ true) = below_some (length vs) (λ i. live (k i)) r in
          let t : (ws : List Text) × (a : A) × (takes (k q.0) ws ≡ some a) = rec q.0 (p q.0 q.1).2 q.2 in
          (get_or vs q.0 [] ∷ t.0, t.1, takes_next e vs k (get_or vs q.0 []) t.0 q.0 (p q.0 q.1).0 ∙ t.2)

  takes_live : (g : Grammar A) (ws : List Text) (a : A) → takes g ws ≡ some a → live g ≡ true
  takes_live (stop e) [] a h = ap is_some h
  takes_live (stop e) (w ∷ ws) a h = none_not_some h
  takes_live (ask e vs k) [] a h = ap (λ (b : Bool). elim b [ true ↦ true | false ↦ some_below (length vs) λ i. live (k i) ]) (ap is_some h)
  takes_live (ask e vs k) (w ∷ ws) a h =
      let r : (i : ℕ) × (place w vs ≡ some i) × (takes (k i) ws ≡ some a) = took e vs k w ws a h in
      let s = some_below_lem (length vs) (λ i. live (k i)) r.0 (place_found w vs r.0 r.1).1 (takes_live (k r.0) ws a r.2) in
      go (is_some e) s
    where
      go : (b : Bool) → some_below (length vs) (λ i. live (k i)) ≡ true
          → elim b [ true ↦ true | false ↦ some_below (length vs) λ i. live (k i) ] ≡ true
      go true s = refl
      go false s = s

  -- a start that is admitted begins a line that is taken
  abbrev Begun : Grammar A → List Text → Type 0
  Begun g us = (w : Text) × (ws : List Text) × (a : A) × (y : Text) × (takes g (w ∷ ws) ≡ some a) × (join space (w ∷ ws) ≡ join space us ++ y)

  pub starts_begun : (g : Grammar A) → Proper g → (us : List Text) → starts g us ≡ true → Begun g us
  starts_begun (stop e) p us h = absurd (false≢true h)
  starts_begun (ask e vs k) p [] h = absurd (false≢true h)
  starts_begun (ask e vs k) p (u ∷ []) h =
      let q = below_some (length vs) (λ i. opens u (get_or vs i []) && live (k i)) h in
      let i : ℕ = q.0 in
      let b : (opens u (get_or vs i []) ≡ true) × (live (k i) ≡ true) = both (opens u (get_or vs i [])) (live (k i)) q.2 in
      let z : (z : Text) × (get_or vs i [] ≡ u ++ z) = opens_more u (get_or vs i []) b.0 in
      let t : (ws : List Text) × (a : A) × (takes (k i) ws ≡ some a) = live_takes (k i) (p i q.1).2 b.1 in (
        get_or vs i [],
        t.0,
        t.1,
        z.0 ++ behind space t.0,
        takes_next e vs k (get_or vs i []) t.0 i (p i q.1).0 ∙ t.2,
        ap (λ (v : Text). v ++ behind space t.0) z.1 ∙ append_assoc u z.0 (behind space t.0)
            ∙ ap (λ (v : Text). v ++ (z.0 ++ behind space t.0)) (sym (append-nil u)),
      )
  starts_begun (ask e vs k) p (w ∷ (x ∷ us)) h = go (place w vs) refl h (λ i q v. starts_begun (k i) q (x ∷ us) v)
    where
      go : (o : Option ℕ) → place w vs ≡ o → elim o [ none ↦ false | some i ↦ starts (k i) (x ∷ us) ] ≡ true
          → ((i : ℕ) → Proper (k i) → starts (k i) (x ∷ us) ≡ true → Begun (k i) (x ∷ us)) → Begun (ask e vs k) (w ∷ (x ∷ us))
      go none f r rec = absurd (false≢true r)
      go (some i) f r rec =
          let l : i < length vs = (place_found w vs i f).1 in
          let t : Begun (k i) (x ∷ us) = rec i (p i l).2 r in (
            w,
            t.0 ∷ t.1,
            t.2,
            t.3,
            takes_next e vs k w (t.0 ∷ t.1) i f ∙ t.4,
            ap (λ (v : Text). w ++ (space ∷ v)) t.5 ∙ sym (append_assoc w (space ∷ join space (x ∷ us)) t.3),
          )

  -- what begins a line that is taken is admitted
  pub begun_starts : (g : Grammar A) (w : Text) (ws : List Text) (a : A) → takes g (w ∷ ws) ≡ some a → CleanLine (w ∷ ws) → (l y : Text)
      → join space (w ∷ ws) ≡ l ++ y
      → starts g (split space l) ≡ true
  begun_starts (stop e) w ws a h c l y j = none_not_some h
  begun_starts (ask e vs k) w ws a h c l y j =
      let r : (i : ℕ) × (place w vs ≡ some i) × (takes (k i) ws ≡ some a) = took e vs k w ws a h in
      go r.0 r.1 ws r.2 c.1 (longer w (behind space ws) l y j) (λ x xs t d l' u. begun_starts (k r.0) x xs a t d l' y u)
    where
      ends : (i : ℕ) → place w vs ≡ some i → live (k i) ≡ true → (z : Text) → w ≡ l ++ z → starts (ask e vs k) (split space l) ≡ true
      ends i f v z q =
          let free : Free space l = free_front space l z (subst (λ (t : Text). Free space t) q c.0.0) in
          let g : (get_or vs i [] ≡ w) × (i < length vs) = place_found w vs i f in
          let o : opens l (get_or vs i []) ≡ true = ap (opens l) (g.0 ∙ q) ∙ opens_all l z in
          let t : (opens l (get_or vs i []) && live (k i)) ≡ true = ap (λ (b : Bool). b && live (k i)) o ∙ v in
          ap (starts (ask e vs k)) (split_one space l free) ∙ some_below_lem (length vs) (λ n. opens l (get_or vs n []) && live (k n)) i g.1 t

      goes : (i : ℕ) → place w vs ≡ some i → (l' : Text) → l ≡ w ++ (space ∷ l') → starts (k i) (split space l') ≡ true
          → starts (ask e vs k) (split space l) ≡ true
      goes i f l' q v =
          let s : split space l ≡ w ∷ split space l' = ap (split space) q ∙ split_seam space w c.0.0 l' in
          let sh : (p : Text) × (ps : List Text) × (split space l' ≡ p ∷ ps) = split_shape space l' in
          ap (starts (ask e vs k)) (s ∙ ap (λ (t : List Text). w ∷ t) sh.2)
          ∙ ap (λ (o : Option ℕ). elim o [ none ↦ false | some n ↦ starts (k n) (sh.0 ∷ sh.1) ]) f
          ∙ ap (starts (k i)) (sym sh.2) ∙ v

      go : (i : ℕ) → place w vs ≡ some i → (xs : List Text) → takes (k i) xs ≡ some a → CleanLine xs
          → Longer w (behind space xs) l y
          → ((x : Text) (xs : List Text) → takes (k i) (x ∷ xs) ≡ some a → CleanLine (x ∷ xs) → (l' : Text)
          → join space (x ∷ xs) ≡ l' ++ y → starts (k i) (split space l') ≡ true)
          → starts (ask e vs k) (split space l) ≡ true
      go i f xs t d (inl q) rec = ends i f (takes_live (k i) xs a t) q.0 q.1
      go i f [] t d (inr q) rec = let z : ◌≡◌ {A = ℕ} 0 1 = (let e : [] ≡ q.0 ∷ (q.1 ++ y) = q.3 in cc) in absurd (omega arith)
      go i f (x ∷ xs) t d (inr q) rec =
          let e : space ∷ (x ++ behind space xs) ≡ q.0 ∷ (q.1 ++ y) = q.3 in
          let h : space ≡ q.0 = cc in
          let u : x ++ behind space xs ≡ q.1 ++ y = cc in
          goes i f q.1 (q.2 ∙ ap (λ (n : ℕ). w ++ (n ∷ q.1)) (sym h)) (rec x xs t d q.1 u)
