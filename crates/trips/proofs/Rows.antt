-- What the rows of the statement table have in common, computed over the table: a new row needs nothing here. The names differ, each has a letter and at
-- most seven; a first operand that is written, no `Nothing`, an operand at all, and three operands before a call's lists.
use mathlib.Core.Bool.{Bool, true, false, not, false≢true}
use mathlib.Core.List.{List, [], ◌∷◌, map}
use mathlib.Core.Option.{Option, none, some}
use mathlib.Core.Path.{◌≡◌, refl, sym, ap, subst, ◌∙◌}
use native.Mathlib.Omega.{arith}
use Prim.Native.Nat.{ℕ, zero, suc, ◌<◌, ◌≤◌}
use lib.Dec.{T, eqb, eqb→eq, leb}
use lib.ListN.{get_or, get_elem?, length}
use Rattle.rules.specs.declared.statements.Operand.{Operand}
use Rattle.rules.specs.declared.statements.Operand.TheVariants.{Slot, Location, Gate, Basis, Value, Callee, CalleeK, CalleeM, Nothing}
use Rattle.rules.specs.Basics.{all}
use Rattle.rules.specs.Words.{Text, place}
use Rattle.rules.specs.Table.{Meaning, simple, branches, loops, calls, Row, table, row_of, names, name_of}
use Rattle.rules.specs.Listing.{silent}
use Rattle.rules.proofs.Basics.{all_up_to}
use Rattle.rules.proofs.Tests.{eqb_true, at_most}
use Rattle.trips.proofs.Grammars.{none_not_some, both}

-- a test that every row of a list passes, one that is found there passes
passes : {A : Type 0} (p : A → Bool) (l : List A) (i : ℕ) (a : A) → all p l ≡ true → get_elem? l i ≡ some a → p a ≡ true
passes p [] zero a h e = none_not_some e
passes p [] (suc i) a h e = none_not_some e
passes p (x ∷ l) zero a h e =
    let v : some x ≡ some a = e in
    let u : x ≡ a = cc in
    ap p (sym u) ∙ (both (p x) (all p l) h).0
passes p (x ∷ l) (suc i) a h e = passes p l i a (both (p x) (all p l) h).1 e

every_row : (p : Row → Bool) → all p table ≡ true → (b : ℕ) (r : Row) → row_of b ≡ some r → p r ≡ true
every_row p h zero r e = none_not_some e
every_row p h (suc i) r e = passes p table i r h e

-- The byte of a row.
found_below : {A : Type 0} (l : List A) (i : ℕ) (r : A) → get_elem? l i ≡ some r → i < length l
found_below [] zero r h = none_not_some h
found_below [] (suc i) r h = none_not_some h
found_below (x ∷ l) zero r h = omega arith
found_below (x ∷ l) (suc i) r h = let k : i < length l = found_below l i r h in omega arith

pub byte_of_row : (b : ℕ) (r : Row) → row_of b ≡ some r → (i : ℕ) × (b ≡ suc i) × (i < length table)
byte_of_row zero r h = none_not_some h
byte_of_row (suc i) r h = (i, refl, found_below table i r h)

-- The name of a statement byte is its row's, and stands in the column at the row's place.
name_of_lem : (b : ℕ) (r : Row) → row_of b ≡ some r → name_of b ≡ r.name
name_of_lem b r h = ap (λ (o : Option Row). elim o [ none ↦ [] | some r ↦ r.name ]) h

column : (rs : List Row) (i : ℕ) → elim (get_elem? rs i) [ none ↦ [] | some r ↦ r.name ] ≡ get_or (map (λ r. r.name) rs) i []
column [] zero = refl
column [] (suc i) = refl
column (r ∷ rs) zero = refl
column (r ∷ rs) (suc i) = column rs i

pub name_at : (i : ℕ) → name_of (suc i) ≡ get_or names i []
name_at i = column table i

-- the names differ
abbrev is_at : Option ℕ → ℕ → Bool
is_at none i = false
is_at (some j) i = eqb j i

is_at_lem : (o : Option ℕ) (i : ℕ) → T (is_at o i) → o ≡ some i
is_at_lem none i t = absurd t
is_at_lem (some j) i t = ap some (eqb→eq j i t)

pub place_name : (i : ℕ) → i < length names → place (get_or names i []) names ≡ some i
place_name i h =
    is_at_lem (place (get_or names i []) names) i (all_up_to (λ k. is_at (place (get_or names k []) names) k) 0 (length names) tt i (omega arith) h)

-- a name has a letter, and at most seven
abbrev filled : Text → Bool
filled [] = false
filled (x ∷ w) = true

is_filled : (w : Text) → filled w ≡ true → (x : ℕ) × (v : Text) × (w ≡ x ∷ v)
is_filled [] h = absurd (false≢true h)
is_filled (x ∷ w) h = (x, w, refl)

pub name_filled : (b : ℕ) (r : Row) → row_of b ≡ some r → (x : ℕ) × (w : Text) × (name_of b ≡ x ∷ w)
name_filled b r h =
    let f : (x : ℕ) × (w : Text) × (r.name ≡ x ∷ w) = is_filled r.name (every_row (λ r. filled r.name) refl b r h) in
    (f.0, f.1, name_of_lem b r h ∙ f.2)

pub name_short : (b : ℕ) (r : Row) → row_of b ≡ some r → length (name_of b) ≤ 7
name_short b r h =
    subst (λ (w : Text). length w ≤ 7) (sym (name_of_lem b r h)) (at_most (length r.name) 7 (every_row (λ r. leb (length r.name) 7) refl b r h))

-- The operands of a row.
abbrev pub head_spoken : List Operand → Bool
head_spoken [] = true
head_spoken (o ∷ os) = not (silent o)

pub row_head : (b : ℕ) (r : Row) → row_of b ≡ some r → head_spoken r.operands ≡ true
row_head b r h = every_row (λ r. head_spoken r.operands) refl b r h

abbrev pub is_operand : Operand → Bool
is_operand Slot = true
is_operand Location = true
is_operand Gate = true
is_operand Basis = true
is_operand Value = true
is_operand Callee = true
is_operand CalleeK = true
is_operand CalleeM = true
is_operand Nothing = false

pub row_operands : (b : ℕ) (r : Row) → row_of b ≡ some r → all is_operand r.operands ≡ true
row_operands b r h = every_row (λ r. all is_operand r.operands) refl b r h

pub row_some : (b : ℕ) (r : Row) → row_of b ≡ some r → 1 ≤ length r.operands
row_some b r h = at_most 1 (length r.operands) (every_row (λ r. leb 1 (length r.operands)) refl b r h)

abbrev three : Meaning → ℕ → Bool
three (simple f) n = true
three branches n = true
three loops n = true
three calls n = eqb n 3

pub row_calls : (b : ℕ) (r : Row) → row_of b ≡ some r → r.meaning ≡ calls → length r.operands ≡ 3
row_calls b r h m =
    let t : three r.meaning (length r.operands) ≡ true = every_row (λ r. three r.meaning (length r.operands)) refl b r h in
    eqb_true (length r.operands) 3 (ap (λ (q : Meaning). three q (length r.operands)) (sym m) ∙ t)
