-- Where a word stands in a list, by one test after another: at the first that is it, or nowhere. The list may be of decimals, gates, bases or names.
use mathlib.Core.Bool.{Bool, true, false}
use mathlib.Core.Option as places
use mathlib.Core.Option.{none, some}
use mathlib.Core.Path.{◌≡◌, refl, sym, ap, subst, ◌∙◌}
use native.Mathlib.Decide.{ℕ_discrete}
use native.Mathlib.Nat.{zero-add, add-zero}
use native.Mathlib.Omega.{arith}
use Prim.Native.Nat.{ℕ, zero, suc, ◌+◌, ◌-◌, ◌<◌, ◌≤◌}
use borrow.Author.Tests.{lt-ltb, le-ltb}
use lib.Dec.{eqb, ltb, leb-suc-suc}
use Rattle.std.specs.Prelude.{None, Some}
use Rattle.rules.specs.declared.statements.Operand.TheVariants.{Gate, Basis}
use Rattle.rules.specs.declared.statements.Kind.{Kind}
use Rattle.rules.specs.Basics.{chosen, same_list, up_to}
use Rattle.rules.specs.Words.{Text, place}
use Rattle.rules.specs.Table.{name_of}
use Rattle.rules.specs.Kinds.{byte_of}
use Rattle.rules.specs.Listing.{spoken}
use Rattle.reading.specs.declared.words.Token.{Token}
use Rattle.reading.specs.Cursor.{spelling, token_for, below, Named, Valued}
use Rattle.reading.proofs.Spellings.{spelling_gate}

abbrev next : places.Option ℕ → places.Option ℕ
next none = none
next (some i) = some (suc i)

module _ (u : Text) (f : ℕ → Text) where
  abbrev Is : ℕ → Bool → Type 0
  Is k b = same_list eqb u (f k) ≡ b

  place_from : (i m r : ℕ) → ((k : ℕ) → k < r → k < m → Is (i + k) false) → (r < m → Is (i + r) true)
      → place u (up_to i m f) ≡ below (Some r) m
  place_from i zero r others it = ap (λ (b : Bool). chosen b (some r) none) (sym (le-ltb r 0 (omega arith)))
  place_from i (suc m) zero others it =
      ap (λ (b : Bool). elim b [ true ↦ some 0 | false ↦ next (place u (up_to (suc i) m f)) ])
      (ap (λ (k : ℕ). same_list eqb u (f k)) (sym (add-zero i)) ∙ it (omega arith))
      ∙ ap (λ (b : Bool). chosen b (some 0) none) (sym (lt-ltb 0 (suc m) (omega arith)))
  place_from i (suc m) (suc r) others it =
      ap (λ (b : Bool). elim b [ true ↦ some 0 | false ↦ next (place u (up_to (suc i) m f)) ])
      (ap (λ (k : ℕ). same_list eqb u (f k)) (sym (add-zero i)) ∙ others 0 (omega arith) (omega arith))
      ∙ ap next (place_from (suc i) m r (λ k h l. moved k ∙ others (suc k) (omega arith) (omega arith)) (λ h. moved r ∙ it (omega arith)))
      ∙ shifted (ltb r m) ∙ ap (λ (b : Bool). chosen b (some (suc r)) none) (sym (leb-suc-suc (suc r) m))
    where
      moved : (k : ℕ) → same_list eqb u (f (suc i + k)) ≡ same_list eqb u (f (i + suc k))
      moved k = let e : suc i + k ≡ i + suc k = omega arith in ap (λ (j : ℕ). same_list eqb u (f j)) e

      shifted : (b : Bool) → next (chosen b (some r) none) ≡ chosen b (some (suc r)) none
      shifted true = refl
      shifted false = refl

  -- r is the first of the n words that it is; or none is, where r is no such number
  pub place_first : (n r : ℕ) → ((k : ℕ) → k < r → k < n → Is k false) → (r < n → Is r true) → place u (up_to 0 n f) ≡ below (Some r) n
  place_first n r others it = place_from 0 n r (λ k h l. moved k ∙ others k h l) (λ h. moved r ∙ it h)
    where
      moved : (k : ℕ) → same_list eqb u (f (0 + k)) ≡ same_list eqb u (f k)
      moved k = ap (λ (j : ℕ). same_list eqb u (f j)) (zero-add k)

  pub place_none : (n : ℕ) → ((k : ℕ) → k < n → Is k false) → place u (up_to 0 n f) ≡ none
  place_none n others =
      place_first n n (λ k h l. others k l) (λ h. absurd (omega arith)) ∙ ap (λ (b : Bool). chosen b (some n) none) (le-ltb n n (omega arith))

-- the gates, of which the first two are the bases
module _ (u : Text) where
  abbrev pub GateIs : ℕ → Bool → Type 0
  GateIs k b = same_list eqb u (spoken Gate k) ≡ b

  module _ (g : ℕ) (others : (k : ℕ) → k < g → GateIs k false) (it : GateIs g true) where
    pub gate_valued : g < 4 → Valued Gate u (Some g)
    gate_valued h = record {
      placed = λ S l. place_first u (spoken Gate) 4 g (λ k h m. others k h) (λ h. it);
      most = λ v e. let z : g ≡ v = cc in omega arith;
    }

    pub basis_valued : g < 4 → Valued Basis u (Some g)
    basis_valued h = record {
      placed = λ S l. place_first u (spoken Gate) 2 g (λ k h m. others k h) (λ h. it);
      most = λ v e. let z : g ≡ v = cc in omega arith;
    }

  module _ (others : (k : ℕ) → k < 4 → GateIs k false) where
    pub no_gate_valued : Valued Gate u None
    no_gate_valued = record {
      placed = λ S l. place_none u (spoken Gate) 4 others;
      most = λ v e. absurd (let z : ◌≡◌ {A = ℕ} 0 1 = cc in omega arith);
    }

    pub no_basis_valued : Valued Basis u None
    no_basis_valued = record {
      placed = λ S l. place_none u (spoken Gate) 2 (λ k h. others k (omega arith));
      most = λ v e. absurd (let z : ◌≡◌ {A = ℕ} 0 1 = cc in omega arith);
    }

  -- whether the word of the next gate is written; none of those before it and of it
  pub gate_tested : (g : ℕ) → g < 4 → (w : Token) → w ≡ token_for Gate g → (t : Bool) → t ≡ same_list eqb u (spelling w) → GateIs g t
  gate_tested g h w e t d = ap (λ (v : Text). same_list eqb u v) (sym (spelling_gate g h) ∙ ap spelling (sym e)) ∙ sym d

  pub gates_next : (g : ℕ) → ((k : ℕ) → k < g → GateIs k false) → GateIs g false → (k : ℕ) → k < g + 1 → GateIs k false
  gates_next g others it k h = go (ℕ_discrete k g)
    where
      go : Dec (k ≡ g) → GateIs k false
      go (yes e) = subst (λ (j : ℕ). GateIs j false) (sym e) it
      go (no n) = others k (omega arith)

-- the names of the statement bytes, which are 1 to 13
module _ (u : Text) where
  abbrev pub NameIs : ℕ → Bool → Type 0
  NameIs b t = same_list eqb u (name_of b) ≡ t

  pub name_named : (kind : Kind) (b : ℕ) → byte_of kind ≡ b → 1 ≤ b → b < 14 → ((k : ℕ) → k < b → 1 ≤ k → NameIs k false) → NameIs b true
      → Named u (Some kind)
  unfolding Named
  name_named kind zero e p h others it = absurd (omega arith)
  name_named kind (suc r) e p h others it =
      let z : r ≡ byte_of kind - 1 = omega arith in
      place_first u (λ i. name_of (suc i)) 13 r (λ k l m. others (suc k) (omega arith) (omega arith)) (λ l. it)
      ∙ ap (λ (b : Bool). chosen b (some r) none) (lt-ltb r 13 (omega arith)) ∙ ap some z

  pub no_name_named : ((k : ℕ) → k < 14 → 1 ≤ k → NameIs k false) → Named u None
  unfolding Named
  no_name_named others = place_none u (λ i. name_of (suc i)) 13 (λ k h. others (suc k) (omega arith) (omega arith))
