-- Splitting and joining are inverse, where the parts are free of the separator; what a text begins with, its parts begin with.
use mathlib.Core.Bool.{Bool, true, false}
use mathlib.Core.List.{List, [], ◌∷◌, ◌++◌, append-nil}
use mathlib.Core.Path.{◌≡◌, refl, sym, ap, ◌∙◌}
use Prim.Native.Nat.{ℕ}
use lib.Dec.{eqb}
use Rattle.rules.specs.Words.{Text, onto, split, behind, join}
use Rattle.rules.proofs.Tests.{eqb_same, eqb_true}

-- no character of the text is c
abbrev pub Free : ℕ → Text → Type 0
Free c [] = Unit {0}
Free c (x ∷ t) = (eqb x c ≡ false) × Free c t

abbrev pub AllFree : ℕ → List Text → Type 0
AllFree c [] = Unit {0}
AllFree c (p ∷ ps) = Free c p × AllFree c ps

module _ (c : ℕ) where
  pub split_shape : (t : Text) → (p : Text) × (ps : List Text) × (split c t ≡ p ∷ ps)
  split_shape [] = ([], [], refl)
  split_shape (x ∷ t) = go (eqb x c) (split c t) (split_shape t)
    where
      go : (b : Bool) (q : List Text) → (p : Text) × (ps : List Text) × (q ≡ p ∷ ps)
          → (p : Text) × (ps : List Text) × (elim b [ true ↦ [] ∷ q | false ↦ onto x q ] ≡ p ∷ ps)
      go true q h = ([], q, refl)
      go false q h = (x ∷ h.0, h.1, ap (onto x) h.2)

  pub join_split : (t : Text) → join c (split c t) ≡ t
  join_split [] = refl
  join_split (x ∷ t) = go (eqb x c) refl (split c t) (split_shape t) (join_split t)
    where
      go : (b : Bool) → eqb x c ≡ b → (q : List Text) → (p : Text) × (ps : List Text) × (q ≡ p ∷ ps) → join c q ≡ t
          → join c (elim b [ true ↦ [] ∷ q | false ↦ onto x q ]) ≡ x ∷ t
      go true e q h i =
          ap (behind c) h.2 ∙ ap (λ (y : ℕ). y ∷ join c (h.0 ∷ h.1)) (sym (eqb_true x c e))
          ∙ ap (λ (r : List Text). x ∷ join c r) (sym h.2) ∙ ap (λ (r : Text). x ∷ r) i
      go false e q h i =
          ap (λ (r : List Text). join c (onto x r)) h.2 ∙ ap (λ (r : List Text). x ∷ join c r) (sym h.2) ∙ ap (λ (r : Text). x ∷ r) i

  -- the parts of a split have no separator
  pub split_free : (t : Text) → AllFree c (split c t)
  split_free [] = (tt, tt)
  split_free (x ∷ t) = go (eqb x c) refl (split c t) (split_free t)
    where
      go : (b : Bool) → eqb x c ≡ b → (q : List Text) → AllFree c q → AllFree c (elim b [ true ↦ [] ∷ q | false ↦ onto x q ])
      go true e q h = (tt, h)
      go false e [] h = ((e, tt), tt)
      go false e (p ∷ ps) h = ((e, h.0), h.1)

  -- a part in front of a separator, and in front of anything
  split_step : (x : ℕ) (t : Text) → eqb x c ≡ false → split c (x ∷ t) ≡ onto x (split c t)
  split_step x t e = ap (λ (b : Bool). elim b [ true ↦ [] ∷ split c t | false ↦ onto x (split c t) ]) e

  split_sep : (t : Text) → split c (c ∷ t) ≡ [] ∷ split c t
  split_sep t = ap (λ (b : Bool). elim b [ true ↦ [] ∷ split c t | false ↦ onto c (split c t) ]) (eqb_same c)

  pub split_seam : (p : Text) → Free c p → (t : Text) → split c (p ++ (c ∷ t)) ≡ p ∷ split c t
  split_seam [] h t = split_sep t
  split_seam (x ∷ p) h t = split_step x (p ++ (c ∷ t)) h.0 ∙ ap (onto x) (split_seam p h.1 t)

  pub split_one : (p : Text) → Free c p → split c p ≡ p ∷ []
  split_one [] h = refl
  split_one (x ∷ p) h = split_step x p h.0 ∙ ap (onto x) (split_one p h.1)

  pub split_behind : (p : Text) → Free c p → (ps : List Text) → AllFree c ps → split c (p ++ behind c ps) ≡ p ∷ ps
  split_behind p h [] hs = ap (split c) (append-nil p) ∙ split_one p h
  split_behind p h (q ∷ qs) hs = split_seam p h (q ++ behind c qs) ∙ ap (λ (r : List Text). p ∷ r) (split_behind q hs.0 qs hs.1)

  -- two parts in front of a separator are equal where the texts are
  pub peel : (p q : Text) → Free c p → Free c q → (t u : Text) → p ++ (c ∷ t) ≡ q ++ (c ∷ u) → (p ≡ q) × (t ≡ u)
  peel p q hp hq t u e =
      let s : p ∷ split c t ≡ q ∷ split c u = sym (split_seam p hp t) ∙ ap (split c) e ∙ split_seam q hq u in
      let h : p ≡ q = cc in
      let r : split c t ≡ split c u = cc in
      (h, sym (join_split t) ∙ ap (join c) r ∙ join_split u)
