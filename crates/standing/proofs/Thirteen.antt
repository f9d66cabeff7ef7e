-- What the thirteen rows of the table have in common, computed: how many length words a row's blocks take, that its first operand is written, and that
-- only byte 12 is a call's. And the operands of a row from one on, as a list.
use mathlib.Core.Bool.{Bool, true, false, not, ◌&&◌, false≢true}
use mathlib.Core.List.{List, [], ◌∷◌}
use mathlib.Core.Option.{Option, none, some}
use mathlib.Core.Path.{◌≡◌, refl, sym, ap, ◌∙◌}
use native.Mathlib.Omega.{arith}
use Prim.Native.Nat.{ℕ, zero, suc, ◌+◌, ◌-◌, ◌<◌, ◌≤◌}
use lib.Dec.{eqb}
use lib.ListN.{get_or, get_elem?, length, drop, drop_of_length-le}
use lib.Seq.{drop-cons}
use Rattle.std.specs.Prelude.{map}
use Rattle.rules.specs.declared.statements.Operand.{Operand}
use Rattle.rules.specs.declared.statements.Operand.TheVariants.{Nothing}
use Rattle.rules.specs.declared.statements.Kind.{Kind}
use Rattle.rules.specs.Basics.{up_to}
use Rattle.rules.specs.Kinds.{byte_of, operands_of}
use Rattle.rules.specs.Table.{Meaning, simple, branches, loops, calls, Row, table, row_of, size, size_of, operand_of, operand_at, names, name_of}
use Rattle.rules.specs.Listing.{silent, operands_in}
use Rattle.rules.specs.Unlisting.{blocks_of}
use Rattle.rules.proofs.Basics.{all_up_to}
use Rattle.rules.proofs.KindBytes.{byte_above, byte_below}
use Rattle.rules.proofs.Tests.{T→eq, eqb_true, and_left, and_right, not_true}
use Rattle.standing.specs.Numbers.{block_bytes}

none_not_some : {A X : Type 0} {a : A} → none ≡ some a → X
none_not_some e = let z : ◌≡◌ {A = ℕ} 0 1 = cc in absurd (omega arith)

-- a byte that has a row is one of the thirteen
place_in : {A : Type 0} (l : List A) (i : ℕ) (a : A) → get_elem? l i ≡ some a → i < length l
place_in [] i a e = none_not_some e
place_in (x ∷ l) zero a e = omega arith
place_in (x ∷ l) (suc i) a e = let r : i < length l = place_in l i a e in omega arith

pub row_byte : (b : ℕ) (row : Row) → row_of b ≡ some row → (0 < b) × (b < 14)
row_byte zero row e = none_not_some e
row_byte (suc i) row e = let r : i < 13 = place_in table i row e in (omega arith, omega arith)

abbrev size_in : Option Row → ℕ
size_in none = 0
size_in (some r) = size r

abbrev pub is_call : Meaning → Bool
is_call (simple f) = false
is_call branches = false
is_call loops = false
is_call calls = true

abbrev same : Bool → Bool → Bool
same true b = b
same false b = not b

same_is : (a b : Bool) → same a b ≡ true → a ≡ b
same_is true b h = sym h
same_is false b h = sym (not_true b h)

abbrev head_spoken : List Operand → Bool
head_spoken [] = false
head_spoken (o ∷ os) = not (silent o)

abbrev fine : ℕ → Option Row → Bool
fine b none = false
fine b (some r) = eqb (block_bytes b) (blocks_of r.meaning) && (head_spoken r.operands && same (is_call r.meaning) (eqb b 12))

all_fine : (b : ℕ) → 0 < b → b < 14 → fine b (row_of b) ≡ true
all_fine b l h = T→eq (fine b (row_of b)) (all_up_to (λ i. fine i (row_of i)) 1 13 tt b (omega arith) (omega arith))

-- each of the thirteen bytes has a row
pub row_there : (b : ℕ) → 0 < b → b < 14 → (row : Row) × (row_of b ≡ some row)
row_there b l h = go (row_of b) refl (all_fine b l h)
  where
    go : (o : Option Row) → row_of b ≡ o → fine b o ≡ true → (row : Row) × (row_of b ≡ some row)
    go none e f = absurd (false≢true f)
    go (some row) e f = (row, e)

-- the names are those of the rows
name_in : (l : List Row) (i : ℕ) → get_or (map (λ r. r.name) l) i [] ≡ elim (get_elem? l i) [ none ↦ [] | some r ↦ r.name ]
name_in [] i = refl
name_in (x ∷ l) zero = refl
name_in (x ∷ l) (suc i) = name_in l i

pub row_name : (i : ℕ) → get_or names i [] ≡ name_of (suc i)
row_name i = name_in table i

module _ (b : ℕ) (row : Row) (is : row_of b ≡ some row) where
  row_fine : fine b (some row) ≡ true
  row_fine = ap (fine b) (sym is) ∙ all_fine b (row_byte b row is).0 (row_byte b row is).1

  abbrev blocks_test : Bool
  blocks_test = eqb (block_bytes b) (blocks_of row.meaning)

  abbrev call_test : Bool
  call_test = same (is_call row.meaning) (eqb b 12)

  pub row_blocks : block_bytes b ≡ blocks_of row.meaning
  row_blocks = eqb_true (block_bytes b) (blocks_of row.meaning) (and_left blocks_test (head_spoken row.operands && call_test) row_fine)

  row_rest : (head_spoken row.operands && call_test) ≡ true
  row_rest = and_right blocks_test (head_spoken row.operands && call_test) row_fine

  pub row_head : (o : Operand) × (os : List Operand) × (row.operands ≡ o ∷ os) × (silent o ≡ false)
  row_head = go row.operands refl (and_left (head_spoken row.operands) call_test row_rest)
    where
      go : (l : List Operand) → row.operands ≡ l → head_spoken l ≡ true
          → (o : Operand) × (os : List Operand) × (row.operands ≡ o ∷ os) × (silent o ≡ false)
      go [] e h = absurd (false≢true h)
      go (o ∷ os) e h = (o, os, e, not_true (silent o) h)

  pub row_no_call : eqb b 12 ≡ false → is_call row.meaning ≡ false
  row_no_call h = same_is (is_call row.meaning) (eqb b 12) (and_right (head_spoken row.operands) call_test row_rest) ∙ h

  pub row_size : size_of b ≡ size row
  row_size = ap size_in is

  pub row_operand : (i : ℕ) → operand_at b (suc i) ≡ get_or row.operands i Nothing
  row_operand i = ap (λ (o : Option Row). operand_of o (suc i)) is

  -- the operands from number n + 1 on
  pub row_from : (n : ℕ) → up_to (n + 1) (size_of b - (n + 1)) (operand_at b) ≡ drop n row.operands
  row_from n =
      let e : size_of b ≡ suc (length row.operands) = row_size in
      let z : n + 1 ≡ suc n = omega arith in
      let m : size_of b - (n + 1) ≡ length row.operands - n = omega arith in
      ap (λ (k : ℕ). up_to k (size_of b - (n + 1)) (operand_at b)) z ∙ ap (λ (k : ℕ). up_to (suc n) k (operand_at b)) m
      ∙ from (length row.operands - n) n refl
    where
      from : (m n : ℕ) → length row.operands - n ≡ m → up_to (suc n) m (operand_at b) ≡ drop n row.operands
      from zero n h = let l : length row.operands ≤ n = omega arith in sym (drop_of_length-le row.operands l)
      from (suc m) n h =
          let l : n < length row.operands = omega arith in
          let r : up_to (suc (suc n)) m (operand_at b) ≡ drop (suc n) row.operands = from m (suc n) (omega arith) in
          let o : operand_at b (suc n) ≡ get_or row.operands n Nothing = row_operand n in
          cc (drop-cons row.operands n Nothing l)

-- the operands of a kind behind number n
pub operands_behind : (kind : Kind) (n : ℕ)
    → drop n (operands_of (byte_of kind)) ≡ up_to (n + 1) (size_of (byte_of kind) - (n + 1)) (operand_at (byte_of kind))
operands_behind kind n =
    let (row, is) = row_there (byte_of kind) (byte_above kind refl) (byte_below kind refl) in
    ap (λ (r : Option Row). drop n (operands_in r)) is ∙ sym (row_from (byte_of kind) row is n)
