-- The rows of the statement table by statement byte: which bytes have one, and which mean an operation. Each is one test of the table, computed
-- row by row.
use mathlib.Core.Bool.{Bool, true, false}
use mathlib.Core.List.{List, [], ◌∷◌}
use mathlib.Core.Option.{Option, none, some}
use mathlib.Core.Path.{◌≡◌, refl, ap}
use native.Mathlib.Nat.{le_of_suc-le-suc, not-suc-le-zero}
use native.Mathlib.Omega.{arith}
use Prim.Native.Nat.{ℕ, zero, suc, ◌<◌, ◌≤◌}
use lib.Dec.{T}
use lib.ListN.{get_or, get_elem?, length}
use Rattle.rules.specs.declared.statements.Operand.TheVariants.{Nothing}
use Rattle.rules.specs.Syntax.{Side, Op}
use Rattle.rules.specs.Table.{Meaning, simple, branches, loops, calls, Row, table, row_of, size, size_of, operand_of, operand_at}
use Rattle.rules.proofs.Basics.{all_up_to}

abbrev is_simple : Meaning → Bool
is_simple (simple f) = true
is_simple branches = false
is_simple loops = false
is_simple calls = false

abbrev has_row : Option Row → Bool
has_row none = false
has_row (some r) = true

abbrev simple_row : Option Row → Bool
simple_row none = false
simple_row (some r) = is_simple r.meaning

-- the statement bytes 1 to 13 have a row
pub row_known : (b : ℕ) → 0 < b → b < 14 → (r : Row) × (row_of b ≡ some r)
row_known b h l = go (row_of b) refl (all_up_to (λ k. has_row (row_of k)) 1 13 tt b h l)
  where
    go : (o : Option Row) → row_of b ≡ o → T (has_row o) → (r : Row) × (row_of b ≡ some r)
    go none e t = absurd t
    go (some r) e t = (r, e)

-- 1 to 9 are operations of their operands
pub row_simple : (b : ℕ) → 0 < b → b < 10
    → (r : Row) × (f : (s : Side) → (ℕ → ℕ) → Op s) × (row_of b ≡ some r) × (r.meaning ≡ simple f)
row_simple b h l = go (row_of b) refl (all_up_to (λ k. simple_row (row_of k)) 1 9 tt b h l)
  where
    meaning : (m : Meaning) → T (is_simple m) → (f : (s : Side) → (ℕ → ℕ) → Op s) × (m ≡ simple f)
    meaning (simple f) t = (f, refl)
    meaning branches t = absurd t
    meaning loops t = absurd t
    meaning calls t = absurd t

    go : (o : Option Row) → row_of b ≡ o → T (simple_row o)
        → (r : Row) × (f : (s : Side) → (ℕ → ℕ) → Op s) × (row_of b ≡ some r) × (r.meaning ≡ simple f)
    go none e t = absurd t
    go (some r) e t = let (f, m) = meaning r.meaning t in (r, f, e, m)

-- past the end of a list there is nothing
past_end : (l : List Row) (i : ℕ) → length l ≤ i → get_elem? l i ≡ none
past_end [] i h = refl
past_end (x ∷ xs) zero h = absurd (not-suc-le-zero h)
past_end (x ∷ xs) (suc i) h = past_end xs i (le_of_suc-le-suc h)

pub row_none : (b : ℕ) → 13 < b → row_of b ≡ none
row_none zero h = absurd (omega arith)
row_none (suc b) h = past_end table b (omega arith)

-- a byte whose row is known
module _ (b : ℕ) {r : Row} (e : row_of b ≡ some r) where
  pub size_row : size_of b ≡ size r
  size_row = ap (λ (o : Option Row). elim o [ none ↦ 0 | some q ↦ size q ]) e

  pub operand_row : (i : ℕ) → operand_at b (suc i) ≡ get_or r.operands i Nothing
  operand_row i = ap (λ (o : Option Row). operand_of o (suc i)) e
