-- What a line that was taken is: its words, and what they make of the program so far. A statement's line is its row's name and operands.
use mathlib.Core.Bool.{Bool, true, false}
use mathlib.Core.List.{List, [], ◌∷◌, ◌++◌}
use mathlib.Core.Logic.{◌⊎◌, inl, inr}
use mathlib.Core.Option.{Option, none, some}
use mathlib.Core.Path.{◌≡◌, refl, sym, ap, subst, ◌∙◌}
use native.Mathlib.Omega.{arith}
use Prim.Native.Nat.{ℕ, zero, suc, ◌+◌, ◌<◌, ◌≤◌}
use lib.Dec.{ltb, leb}
use lib.ListN.{get_or, length}
use Rattle.rules.specs.Basics.{up_to}
use Rattle.rules.specs.Words.{Text, decimal, place}
use Rattle.rules.specs.Table.{Row, row_of, size, names, name_of}
use Rattle.rules.specs.Listing.{Line, indented, operands_in}
use Rattle.rules.specs.Grammar.{Grammar, stop, ask, dead, word, takes, takes_one}
use Rattle.rules.specs.Unlisting.{Sofar, least, room, deeper, operands, made, blocks_of, row_line, statement_line, indent}
use Rattle.rules.proofs.Basics.{length_up_to, get_d_up_to_zero}
use Rattle.rules.proofs.Tests.{at_most, below}
use Rattle.trips.proofs.Grammars.{none_not_some, place_found, took}
use Rattle.trips.proofs.Rows.{name_at}
use Rattle.trips.proofs.Raw.{said, raw_line, Operands, took_operands}

-- What a line that was taken is.
module _ {A : Type 0} where
  pub took_word : (w : Text) (g : Grammar A) (ws : List Text) (a : A) → takes (word w g) ws ≡ some a
      → (vs : List Text) × (ws ≡ w ∷ vs) × (takes g vs ≡ some a)
  took_word w g [] a h = none_not_some h
  took_word w g (v ∷ ws) a h =
      let r : (i : ℕ) × (place v (w ∷ []) ≡ some i) × (takes g ws ≡ some a) = took none (w ∷ []) (λ i. g) v ws a h in
      let f : (get_or (w ∷ []) r.0 [] ≡ v) × (r.0 < 1) = place_found v (w ∷ []) r.0 r.1 in
      let z : 0 ≡ r.0 = omega (arith, f.1) in
      let e : w ≡ v = ap (λ (i : ℕ). get_or (w ∷ []) i []) z ∙ f.0 in
      (ws, ap (λ (u : Text). u ∷ ws) (sym e), r.2)

  pub took_indent : (n : ℕ) (g : Grammar A) (l : Line) (a : A) → takes (indent n g) l ≡ some a
      → (k : Line) × (l ≡ indented n k) × (takes g k ≡ some a)
  took_indent zero g l a h = (l, refl, h)
  took_indent (suc n) g l a h =
      let r : (vs : List Text) × (l ≡ [] ∷ vs) × (takes (word [] (indent n g)) vs ≡ some a) = took_word [] (word [] (indent n g)) l a h in
      let q : (vs : List Text) × (r.0 ≡ [] ∷ vs) × (takes (indent n g) vs ≡ some a) = took_word [] (indent n g) r.0 a r.2 in
      let t : (k : Line) × (q.0 ≡ indented n k) × (takes g k ≡ some a) = took_indent n g q.0 a q.2 in
      (t.0, r.1 ∙ ap (λ (v : List Text). [] ∷ v) q.1 ∙ ap (λ (v : List Text). [] ∷ [] ∷ v) t.1, t.2)

  pub took_number : (n : ℕ) (g : ℕ → Grammar A) (ws : List Text) (a : A) → takes (ask none (up_to 0 n decimal) g) ws ≡ some a
      → (x : ℕ) × (vs : List Text) × (ws ≡ decimal x ∷ vs) × (x < n) × (takes (g x) vs ≡ some a)
  took_number n g [] a h = none_not_some h
  took_number n g (w ∷ ws) a h =
      let r : (i : ℕ) × (place w (up_to 0 n decimal) ≡ some i) × (takes (g i) ws ≡ some a) = took none (up_to 0 n decimal) g w ws a h in
      let f : (get_or (up_to 0 n decimal) r.0 [] ≡ w) × (r.0 < length (up_to 0 n decimal)) = place_found w (up_to 0 n decimal) r.0 r.1 in
      let l : r.0 < n = subst (λ (m : ℕ). r.0 < m) (length_up_to 0 n decimal) f.1 in
      (r.0, ws, ap (λ (v : Text). v ∷ ws) (sym f.0 ∙ get_d_up_to_zero n r.0 decimal [] l), l, r.2)

  pub took_stop : (x : A) (ws : List Text) (a : A) → takes (stop (some x)) ws ≡ some a → (ws ≡ []) × (x ≡ a)
  took_stop x [] a h = (refl, (let e : some x ≡ some a = h in cc))
  took_stop x (w ∷ ws) a h = none_not_some h

  took_dead : {X : Type 0} (ws : List Text) (a : A) → takes dead ws ≡ some a → X
  took_dead [] a h = none_not_some h
  took_dead (w ∷ ws) a h = none_not_some h

  pub took_room : (p : Sofar) (n : ℕ) (g : Grammar A) (ws : List Text) (a : A) → takes (room p n g) ws ≡ some a
      → (least p + n ≤ 4096) × (takes g ws ≡ some a)
  took_room p n g ws a h = go (leb (least p + n) 4096) refl h
    where
      go : (b : Bool) → leb (least p + n) 4096 ≡ b → takes {A = A} (elim b [ true ↦ g | false ↦ dead ]) ws ≡ some a
          → (least p + n ≤ 4096) × (takes g ws ≡ some a)
      go true e k = (at_most (least p + n) 4096 e, k)
      go false e k = took_dead ws a k

  pub took_deeper : (p : Sofar) (n : ℕ) (g : Grammar A) (ws : List Text) (a : A) → takes (deeper p (suc n) g) ws ≡ some a
      → (length p.open_blocks < 8) × (takes g ws ≡ some a)
  took_deeper p n g ws a h = go (ltb (length p.open_blocks) 8) refl h
    where
      go : (b : Bool) → ltb (length p.open_blocks) 8 ≡ b → takes {A = A} (elim b [ true ↦ g | false ↦ dead ]) ws ≡ some a
          → (length p.open_blocks < 8) × (takes g ws ≡ some a)
      go true e k = (below (length p.open_blocks) 8 e, k)
      go false e k = took_dead ws a k

-- A statement's line: its row, its operands, and what the meaning makes of it.
abbrev pub Stated : Sofar → List Text → Sofar → Type 0
Stated p ws q =
    (b : ℕ) × (r : Row) × (xs : List ℕ) × (vs : List Text) × (row_of b ≡ some r) × (ws ≡ raw_line b xs ++ vs) × Operands p.scope r.operands xs
    × (least p + (size r + blocks_of r.meaning) ≤ 4096)
    × (takes (deeper p (blocks_of r.meaning) (operands p.scope r.operands λ xs. made p r.meaning (b ∷ xs))) (said r.operands xs ++ vs)
    ≡ some q)
    × (takes (made p r.meaning (b ∷ xs)) vs ≡ some q)

under_deeper : (p : Sofar) (n : ℕ) (g : Grammar Sofar) (ws : List Text) (a : Sofar) → takes (deeper p n g) ws ≡ some a → takes g ws ≡ some a
under_deeper p zero g ws a h = h
under_deeper p (suc n) g ws a h = (took_deeper p n g ws a h).1

pub stated : (p : Sofar) (ws : List Text) (q : Sofar) → takes (statement_line p) ws ≡ some q → Stated p ws q
stated p [] q h = none_not_some h
stated p (w ∷ ws) q h =
    let r = took none names (λ i. row_line p (suc i) (row_of (suc i))) w ws q h in
    let f : (get_or names r.0 [] ≡ w) × (r.0 < length names) = place_found w names r.0 r.1 in
    go r.0 f.0 (row_of (suc r.0)) refl r.2
  where
    go : (i : ℕ) → get_or names i [] ≡ w → (o : Option Row) → row_of (suc i) ≡ o → takes (row_line p (suc i) o) ws ≡ some q
        → Stated p (w ∷ ws) q
    go i e none f k = took_dead ws q k
    go i e (some r) f k =
        let G : Grammar Sofar = operands p.scope r.operands λ xs. made p r.meaning (suc i ∷ xs) in
        let R = took_room p (size r + blocks_of r.meaning) (deeper p (blocks_of r.meaning) G) ws q k in
        let O =
        took_operands p.scope r.operands (λ xs. made p r.meaning (suc i ∷ xs)) ws q (under_deeper p (blocks_of r.meaning) G ws q R.1) in (
          suc i,
          r,
          O.0,
          O.1,
          f,
          ap (λ (v : Text). v ∷ ws) (sym e ∙ sym (name_at i)) ∙ ap (λ (l : List Text). name_of (suc i) ∷ l) O.2
              ∙ ap (λ (o : Option Row). name_of (suc i) ∷ (said (operands_in o) O.0 ++ O.1)) (sym f),
          O.3,
          R.0,
          subst (λ (l : List Text). takes (deeper p (blocks_of r.meaning) (operands p.scope r.operands λ xs. made p r.meaning (suc i ∷ xs))) l
              ≡ some q) O.2 R.1,
          O.4,
        )

pub took_one : (g : Grammar Sofar) (gs : List (Grammar Sofar)) (l : Line) (p : Sofar) → takes_one (g ∷ gs) l ≡ some p
    → (takes g l ≡ some p) ⊎ (takes_one gs l ≡ some p)
took_one g gs l p h = go (takes g l) h
  where
    go : (o : Option Sofar) → elim o [ none ↦ takes_one gs l | some a ↦ some a ] ≡ some p → (o ≡ some p) ⊎ (takes_one gs l ≡ some p)
    go none k = inr k
    go (some a) k = inl k
