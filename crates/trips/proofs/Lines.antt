-- Clean lines, and the text that they are written as: what the text begins with, its lines begin with.
use mathlib.Core.List.{List, [], ◌∷◌, ◌++◌, append_assoc}
use mathlib.Core.Logic.{inl, inr}
use mathlib.Core.Path.{◌≡◌, refl, sym, ap, subst, ◌∙◌}
use native.Mathlib.Omega.{arith}
use Prim.Native.Nat.{ℕ}
use Rattle.rules.specs.Words.{Text, space, newline, split, behind, join, written}
use Rattle.rules.specs.Listing.{Line}
use Rattle.trips.specs.Trips.{Unbroken, Whole}
use Rattle.trips.proofs.Texts.{Free, AllFree, join_split, split_behind, peel}
use Rattle.trips.proofs.Grammars.{CleanLine}

-- Clean lines: each has a word.
abbrev pub CleanWords : Line → Type 0
CleanWords l = (w : Text) × (ws : List Text) × (l ≡ w ∷ ws) × CleanLine (w ∷ ws)

abbrev pub CleanLines : List Line → Type 0
CleanLines [] = Unit {0}
CleanLines (l ∷ ls) = (w : Text) × (ws : List Text) × (l ≡ w ∷ ws) × CleanLine (w ∷ ws) × CleanLines ls

free_append : (c : ℕ) (p q : Text) → Free c p → Free c q → Free c (p ++ q)
free_append c [] q h k = k
free_append c (x ∷ p) q h k = (h.0, free_append c p q h.1 k)

behind_free : (ws : List Text) → CleanLine ws → Free newline (behind space ws)
behind_free [] h = tt
behind_free (w ∷ ws) h = (refl, free_append newline w (behind space ws) h.0.1 (behind_free ws h.1))

pub line_free : (ws : List Text) → CleanLine ws → Free newline (join space ws)
line_free [] h = tt
line_free (w ∷ ws) h = free_append newline w (behind space ws) h.0.1 (behind_free ws h.1)

all_free : (ws : List Text) → CleanLine ws → AllFree space ws
all_free [] h = tt
all_free (w ∷ ws) h = (h.0.0, all_free ws h.1)

pub split_line : (w : Text) (ws : List Text) → CleanLine (w ∷ ws) → split space (join space (w ∷ ws)) ≡ w ∷ ws
split_line w ws h = split_behind space w h.0.0 ws (all_free ws h.1)

pub nil_not_mid : {X : Type 0} (p : Text) (c : ℕ) (r : Text) → [] ≡ p ++ (c ∷ r) → X
nil_not_mid [] c r e = let z : ◌≡◌ {A = ℕ} 0 1 = cc in absurd (omega arith)
nil_not_mid (x ∷ p) c r e = let z : ◌≡◌ {A = ℕ} 0 1 = cc in absurd (omega arith)

-- a line with its newline, in front of a listing's lines, is the first of them
same_line : (a b : Line) (ls : List Line) → CleanLines (a ∷ ls) → (w : Text) (ws : List Text) → b ≡ w ∷ ws → CleanLine (w ∷ ws) → (t : Text)
    → written (a ∷ ls) ≡ join space b ++ (newline ∷ t) → (a ≡ b) × (written ls ≡ t)
same_line a b ls h w ws e k t q =
    let ea : a ≡ h.0 ∷ h.1 = h.2 in
    let fa : Free newline (join space a) = subst (λ (l : Line). Free newline (join space l)) (sym ea) (line_free (h.0 ∷ h.1) h.3) in
    let fb : Free newline (join space b) = subst (λ (l : Line). Free newline (join space l)) (sym e) (line_free (w ∷ ws) k) in
    let r : (join space a ≡ join space b) × (written ls ≡ t) = peel newline (join space a) (join space b) fa fb (written ls) t q in (
      ea ∙ sym (split_line h.0 h.1 h.3) ∙ ap (λ (l : Line). split space (join space l)) (sym ea) ∙ ap (split space) r.0
          ∙ ap (λ (l : Line). split space (join space l)) e ∙ split_line w ws k ∙ sym e,
      r.1,
    )

-- written lines in front of a text that clean lines are written as are the first of these
pub written_front : (ls L : List Line) → CleanLines ls → CleanLines L → (t : Text) → written L ≡ written ls ++ t
    → (more : List Line) × (L ≡ ls ++ more) × (written more ≡ t)
written_front [] L h k t e = (L, refl, e)
written_front (l ∷ ls) [] h k t e = nil_not_mid (join space l) newline (written ls ++ t) (e ∙ append_assoc (join space l) (newline ∷ written ls) t)
written_front (l ∷ ls) (a ∷ L) h k t e =
    let r = same_line a l L k h.0 h.1 h.2 h.3 (written ls ++ t) (e ∙ append_assoc (join space l) (newline ∷ written ls) t) in
    let q : (more : List Line) × (L ≡ ls ++ more) × (written more ≡ t) = written_front ls L h.4 k.4 t r.1 in
    (q.0, ap (λ (b : Line). b ∷ L) r.0 ∙ ap (λ (m : List Line). l ∷ m) q.1, q.2)

pub written_append : (ls ms : List Line) → written (ls ++ ms) ≡ written ls ++ written ms
written_append [] ms = refl
written_append (l ∷ ls) ms =
    ap (λ (t : Text). join space l ++ (newline ∷ t)) (written_append ls ms) ∙ sym (append_assoc (join space l) (newline ∷ written ls) (written ms))

-- the text of one line more
pub written_line : (ls : List Line) (l : Text) (t : Text) → written (ls ++ (split space l ∷ [])) ++ t ≡ written ls ++ (l ++ (newline ∷ t))
written_line ls l t =
    ap (λ (u : Text). u ++ t) (written_append ls (split space l ∷ []) ∙ ap (λ (u : Text). written ls ++ (u ++ (newline ∷ []))) (join_split space l))
    ∙ append_assoc (written ls) (l ++ (newline ∷ [])) t ∙ ap (λ (u : Text). written ls ++ u) (append_assoc l (newline ∷ []) t)

pub whole : (ls : List Line) → Whole (written ls)
whole [] = inl refl
whole (l ∷ ls) = go (whole ls)
  where
    go : Whole (written ls) → Whole (written (l ∷ ls))
    go (inl e) = inr (join space l, ap (λ (t : Text). join space l ++ (newline ∷ t)) e)
    go (inr r) =
        inr (
          join space l ++ (newline ∷ r.0),
          ap (λ (t : Text). join space l ++ (newline ∷ t)) r.1
              ∙ sym (append_assoc (join space l) (newline ∷ r.0) (newline ∷ [])),
        )

pub unbroken : (t : Text) → Free newline t → Unbroken t
unbroken [] h = tt
unbroken (x ∷ t) h = (h.0, unbroken t h.1)
