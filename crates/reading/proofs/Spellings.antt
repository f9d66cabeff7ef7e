-- The word of an operand, and whether words are left in a line: by the definitions, case by case.
use mathlib.Core.Bool.{Bool, true, false, false≢true}
use mathlib.Core.List.{List, [], ◌∷◌}
use mathlib.Core.Path.{◌≡◌, refl, sym, ap, ◌∙◌}
use native.Mathlib.Omega.{arith}
use Prim.Native.Nat.{ℕ, zero, suc, ◌<◌, ◌≤◌}
use borrow.Author.Tests.{le-leb, lt-leb}
use lib.Dec.{eqb}
use Rattle.rules.specs.declared.statements.Operand.{Operand}
use Rattle.rules.specs.declared.statements.Operand.TheVariants.{Slot, Location, Gate, Basis, Value, Callee, CalleeK, CalleeM, Nothing}
use Rattle.rules.specs.Basics.{chosen}
use Rattle.rules.specs.Program.{Scope}
use Rattle.rules.specs.Words.{Text, space, onto, split}
use Rattle.rules.specs.Listing.{spoken, silent}
use Rattle.rules.specs.Unlisting.{count}
use Rattle.reading.specs.Cursor.{part, words_from, spelling, gate_token, token_for}

pub spelling_gate : (v : ℕ) → v < 4 → spelling (gate_token v) ≡ spoken Gate v
spelling_gate zero h = refl
spelling_gate (suc zero) h = refl
spelling_gate (suc (suc zero)) h = refl
spelling_gate (suc (suc (suc zero))) h = refl
spelling_gate (suc (suc (suc (suc v)))) h = absurd (omega arith)

-- an operand's token is the word that is spoken for it
pub spelling_token : (kind : Operand) (v : ℕ) → silent kind ≡ false → (S : Scope) → v < count S kind → spelling (token_for kind v) ≡ spoken kind v
spelling_token Slot v e S h = refl
spelling_token Location v e S h = refl
spelling_token Gate v e S h = spelling_gate v h
spelling_token Basis v e S h = spelling_gate v (omega arith)
spelling_token Value v e S h = refl
spelling_token Callee v e S h = refl
spelling_token CalleeK v e S h = absurd (false≢true (sym e))
spelling_token CalleeM v e S h = absurd (false≢true (sym e))
spelling_token Nothing v e S h = absurd (false≢true (sym e))

-- a split has a first part
pub split_shape : (c : ℕ) (t : Text) → (p : Text) × (ps : List Text) × (split c t ≡ p ∷ ps)
split_shape c [] = ([], [], refl)
split_shape c (x ∷ t) = go (eqb x c) (split c t) (split_shape c t)
  where
    go : (b : Bool) (q : List Text) → (p : Text) × (ps : List Text) × (q ≡ p ∷ ps)
        → (p : Text) × (ps : List Text) × (elim b [ true ↦ [] ∷ q | false ↦ onto x q ] ≡ p ∷ ps)
    go true q h = ([], q, refl)
    go false q h = (x ∷ h.0, h.1, ap (onto x) h.2)

-- no word is left exactly past the line's end
pub no_words : (t : Text) (i e : ℕ) → e < i → words_from t i e ≡ []
unfolding words_from
no_words t i e h = ap (λ (b : Bool). chosen b (split space (part t i e)) []) (lt-leb i e h)

pub words_in : (t : Text) (i e : ℕ) → i ≤ e → words_from t i e ≡ split space (part t i e)
unfolding words_from
words_in t i e h = ap (λ (b : Bool). chosen b (split space (part t i e)) []) (le-leb i e h)

pub some_words : (t : Text) (i e : ℕ) → i ≤ e → (v : Text) × (vs : List Text) × (words_from t i e ≡ v ∷ vs)
some_words t i e h =
    let s : (v : Text) × (vs : List Text) × (split space (part t i e) ≡ v ∷ vs) = split_shape space (part t i e) in
    (s.0, s.1, words_in t i e h ∙ s.2)
