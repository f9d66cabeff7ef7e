-- The one table of the thirteen statement kinds, by statement byte from 1 on: the name, what the operands are, and the meaning. The size of a
-- statement's fixed part is one more than the number of its operands.
use Rattle.std.specs.Prelude.{List, [], ◌∷◌, ◌++◌, map, ℕ, zero, suc, eqb, get_or, length}
use Rattle.std.proofs.Math.Option.{Option, none, some}
use Rattle.std.proofs.Math.ListN.{get_elem?}
use Rattle.rules.specs.declared.statements.Operand.{Operand}
use Rattle.rules.specs.declared.statements.Operand.TheVariants.{Slot, Location, Gate, Basis, Value, Callee, CalleeK, CalleeM, Nothing}
use Rattle.rules.specs.Words.{Text}
use Rattle.rules.specs.Names.{vocabulary}
use Rattle.rules.specs.Names.{init_name, magic_name, free_name, gate_name, measure_name, merge_name, ref_name}
use Rattle.rules.specs.Names.{get_name, set_name, if_name, while_name, call_name, bool_name}
use Rattle.rules.specs.Syntax.{Side, plain, magic, Op, init, free, gate, measure, merge, new_ref, get_ref, set_ref, constant}

-- an operation of its operands x 1, x 2, .. , or what follows the operands: two blocks, a block, or a call's list
pub data Meaning : Type 0 where
  simple : ((s : Side) → (ℕ → ℕ) → Op s) → Meaning
  branches loops calls : Meaning

pub record Row : Type 0 where
  pub name : Text
  pub operands : List Operand
  pub meaning : Meaning

abbrev row : Text → List Operand → Meaning → Row
row w ks m = record { name = w; operands = ks; meaning = m }

abbrev pub table : List Row
table =
    row init_name (Slot ∷ Location ∷ []) (simple λ s x. init plain (x 1) (record { no = x 2 }))
    ∷ row magic_name (Slot ∷ Location ∷ []) (simple λ s x. init magic (x 1) (record { no = x 2 }))
    ∷ row free_name (Slot ∷ []) (simple λ s x. free (x 1))
    ∷ row gate_name (Gate ∷ Slot ∷ []) (simple λ s x. gate (x 1) (x 2))
    ∷ row measure_name (Slot ∷ Basis ∷ Slot ∷ []) (simple λ s x. measure (x 1) (x 2) (x 3))
    ∷ row merge_name (Slot ∷ Basis ∷ Slot ∷ Basis ∷ Slot ∷ []) (simple λ s x. merge (x 1) (x 2) (x 3) (x 4) (x 5))
    ∷ row ref_name (Slot ∷ Slot ∷ []) (simple λ s x. new_ref (x 1) (x 2))
    ∷ row get_name (Slot ∷ Slot ∷ []) (simple λ s x. get_ref (x 1) (x 2))
    ∷ row set_name (Slot ∷ Slot ∷ []) (simple λ s x. set_ref (x 1) (x 2))
    ∷ row if_name (Slot ∷ []) branches
    ∷ row while_name (Slot ∷ []) loops
    ∷ row call_name (Callee ∷ CalleeK ∷ CalleeM ∷ []) calls
    ∷ row bool_name (Slot ∷ Value ∷ []) (simple λ s x. constant (x 1) (eqb (x 2) 1))
    ∷ []

-- the row of a statement byte
abbrev pub row_of : ℕ → Option Row
row_of zero = none
row_of (suc b) = get_elem? table b

abbrev pub size : Row → ℕ
size r = suc (length r.operands)

-- by statement byte: the size of the fixed part, and operand number i from 1 on; 0 and `Nothing` where there is none
abbrev pub size_of : ℕ → ℕ
size_of b = elim (row_of b) [ none ↦ 0 | some r ↦ size r ]

abbrev pub operand_of : Option Row → ℕ → Operand
operand_of none i = Nothing
operand_of (some r) zero = Nothing
operand_of (some r) (suc i) = get_or r.operands i Nothing

abbrev pub operand_at : ℕ → ℕ → Operand
operand_at b i = operand_of (row_of b) i

-- the name column; the name of a statement byte, no text where it has no row
abbrev pub names : List Text
names = map (λ r. r.name) table

abbrev pub name_of : ℕ → Text
name_of b = elim (row_of b) [ none ↦ [] | some r ↦ r.name ]

-- all words by number, the kinds' names last: that of statement byte b is number 12 + b
abbrev pub word_of : ℕ → Text
word_of w = get_or (vocabulary ++ names) w []
