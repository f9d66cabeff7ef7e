-- The code's numbers and the grammar agree: where the numbers stand for the program so far, there is room for a line, a word for an operand, and some line
-- goes on behind a name or an operand, exactly where the grammar says so. Behind operands that are still to come some line goes on where each of them has a
-- word, whatever is read; a call's lists need room and, where there are locations, a place.
use mathlib.Core.Bool.{Bool, true, false, ◌&&◌, ◌||◌, false≢true}
use mathlib.Core.List.{List, [], ◌∷◌, ◌++◌}
use mathlib.Core.Option.{Option, none, some}
use mathlib.Core.Path.{◌≡◌, refl, sym, ap, subst, ◌∙◌}
use native.Mathlib.Omega.{arith}
use Rattle.std.proofs.Math.Bool.{and-false, or-true}
use Prim.Native.Nat.{ℕ, zero, suc, ◌+◌, ◌-◌, ◌<◌, ◌≤◌}
use borrow.Author.Tests.{eqb-true, eqb-false, ne_eqb, lt-ltb}
use lib.Dec.{eqb, ltb, leb}
use lib.ListN.{get_or, length, drop, replicate}
use lib.Seq.{get_or-drop, drop-drop}
use Rattle.rules.specs.declared.statements.Operand.{Operand}
use Rattle.rules.specs.declared.statements.Operand.TheVariants.{Slot, Location, Gate, Basis, Value, Callee, CalleeK, CalleeM, Nothing}
use Rattle.rules.specs.Basics.{chosen, all, up_to}
use Rattle.rules.specs.Syntax as syntax
use Rattle.rules.specs.Program.{Scope}
use Rattle.rules.specs.Table.{Meaning, simple, branches, loops, calls, Row, row_of, size, size_of, operand_at, names, name_of}
use Rattle.rules.specs.Words.{Text, opens}
use Rattle.rules.specs.Names as named
use Rattle.rules.specs.Listing.{spoken, silent, operands_in}
use Rattle.rules.specs.Grammar.{Grammar, stop, dead, live, some_below}
use Rattle.rules.specs.Unlisting.{count, words_for, Sofar, least, added, room, deeper, operand, others, operands, list}
use Rattle.rules.specs.Unlisting.{made, blocks_of, row_line, statement_line}
use Rattle.rules.proofs.Basics.{length_up_to, get_d_up_to_zero}
use Rattle.reading.specs.Cursor.{spelling, token_for}
use Rattle.reading.specs.Hearing.{Hearing, not, begun, hears}
use Rattle.standing.specs.Numbers.{head_of, block_bytes, room_of, fits_of, words_of, count_of, unwritten_of, call_lives}
use Rattle.standing.specs.Numbers.{rest_lives, row_lives, statement_lives, name_begins, operand_begins}
use Rattle.standing.specs.Means.{Means}
use Rattle.standing.specs.From.{from_operand}
use Rattle.standing.specs.declared.state.Standing.{Standing}
use Rattle.reading.proofs.Hearings.{hears_unfinished, live_word}
use Rattle.standing.proofs.Searching.{some_same}
use Rattle.reading.proofs.Spellings.{spelling_token}
use Rattle.standing.proofs.Thirteen.{is_call, row_there, row_blocks, row_head, row_no_call, row_size, row_operand, row_from, row_name}

-- one of so many passes a test that does not look at the number
some_any : (n : ℕ) (b : Bool) → some_below n (λ i. b) ≡ (ltb 0 n && b)
some_any zero b = refl
some_any (suc n) true = sym (ap (λ (a : Bool). a && true) (lt-ltb 0 (suc n) (omega arith)))
some_any (suc n) false = some_any n false ∙ and-false (ltb 0 n) ∙ sym (and-false (ltb 0 (suc n)))

-- the same test of a list's elements, and of one element again and again
all_same : {A : Type 0} (p q : A → Bool) (l : List A) → ((a : A) → p a ≡ q a) → all p l ≡ all q l
all_same p q [] h = refl
all_same p q (a ∷ l) h = ap (λ (b : Bool). b && all p l) (h a) ∙ ap (λ (b : Bool). q a && b) (all_same p q l h)

all_again : {A : Type 0} (p : A → Bool) (a : A) (n : ℕ) → all p (replicate (suc n) a) ≡ p a
all_again p a zero = go (p a)
  where
    go : (b : Bool) → (b && true) ≡ b
    go true = refl
    go false = refl
all_again p a (suc n) = ap (λ (b : Bool). p a && b) (all_again p a n) ∙ go (p a)
  where
    go : (b : Bool) → (b && b) ≡ b
    go true = refl
    go false = refl

-- an operand that is still to come has a word, or none is written
abbrev worded : Scope → Operand → Bool
worded S o = silent o || ltb 0 (count S o)

module _ {A : Type 0} (S : Scope) where
  -- some line goes on with an operand that is written, or begins with part of its word
  operand_lives : (f : ℕ) (o : Operand) (k : ℕ → Grammar A) → silent o ≡ false
      → live (operand S f o k) ≡ some_below (count S o) (λ v. live (k v))
  operand_lives f o k e = go o e
    where
      asked : (o : Operand) → some_below (length (words_for S o)) (λ v. live (k v)) ≡ some_below (count S o) (λ v. live (k v))
      asked o = ap (λ (n : ℕ). some_below n λ v. live (k v)) (length_up_to 0 (count S o) (spoken o))

      go : (o : Operand) → silent o ≡ false → live (operand S f o k) ≡ some_below (count S o) (λ v. live (k v))
      go Slot e = asked Slot
      go Location e = asked Location
      go Gate e = asked Gate
      go Basis e = asked Basis
      go Value e = asked Value
      go Callee e = asked Callee
      go CalleeK e = absurd (false≢true (sym e))
      go CalleeM e = absurd (false≢true (sym e))
      go Nothing e = absurd (false≢true (sym e))

  operand_hears : (f : ℕ) (o : Operand) (k : ℕ → Grammar A) (u : Text) → silent o ≡ false
      → hears false (operand S f o k) (u ∷ []) ≡ chosen (some_below (count S o) λ v. opens u (spoken o v) && live (k v)) begun not
  operand_hears f o k u e = go o e
    where
      asked : (o : Operand)
          → chosen {A = Hearing A} (some_below (length (words_for S o)) λ v. opens u (get_or (words_for S o) v []) && live (k v)) begun not
          ≡ chosen (some_below (count S o) λ v. opens u (spoken o v) && live (k v)) begun not
      asked o =
          ap (λ (n : ℕ). chosen (some_below n λ v. opens u (get_or (words_for S o) v []) && live (k v)) begun not) (length_up_to 0 (count S o) (spoken o))
          ∙ ap (λ (b : Bool). chosen b begun not)
          (some_same (count S o) (λ v. opens u (get_or (words_for S o) v []) && live (k v)) (λ v. opens u (spoken o v) && live (k v)) λ v l.
          ap (λ (t : Text). opens u t && live (k v)) (get_d_up_to_zero (count S o) v (spoken o) [] l))

      go : (o : Operand) → silent o ≡ false
          → hears false (operand S f o k) (u ∷ []) ≡ chosen (some_below (count S o) λ v. opens u (spoken o v) && live (k v)) begun not
      go Slot e = hears_unfinished none (words_for S Slot) k u ∙ asked Slot
      go Location e = hears_unfinished none (words_for S Location) k u ∙ asked Location
      go Gate e = hears_unfinished none (words_for S Gate) k u ∙ asked Gate
      go Basis e = hears_unfinished none (words_for S Basis) k u ∙ asked Basis
      go Value e = hears_unfinished none (words_for S Value) k u ∙ asked Value
      go Callee e = hears_unfinished none (words_for S Callee) k u ∙ asked Callee
      go CalleeK e = absurd (false≢true (sym e))
      go CalleeM e = absurd (false≢true (sym e))
      go Nothing e = absurd (false≢true (sym e))

  -- an operand behind which some line goes on or none does, whatever it is
  operand_then : (f : ℕ) (o : Operand) (k : ℕ → Grammar A) (r : Bool) → ((v : ℕ) → live (k v) ≡ r)
      → live (operand S f o k) ≡ (worded S o && r)
  operand_then f o k r h = go o
    where
      asked : (o : Operand) → silent o ≡ false → live (operand S f o k) ≡ (ltb 0 (count S o) && r)
      asked o e = operand_lives f o k e ∙ some_same (count S o) (λ v. live (k v)) (λ v. r) (λ v l. h v) ∙ some_any (count S o) r

      go : (o : Operand) → live (operand S f o k) ≡ (worded S o && r)
      go Slot = asked Slot refl
      go Location = asked Location refl
      go Gate = asked Gate refl
      go Basis = asked Basis refl
      go Value = asked Value refl
      go Callee = asked Callee refl
      go CalleeK = h (syntax.function S.earlier f).k
      go CalleeM = h (syntax.function S.earlier f).m
      go Nothing = h 0

  -- behind operands, where some line goes on whatever they are
  others_live : (f : ℕ) (os : List Operand) (k : List ℕ → Grammar A) → ((xs : List ℕ) → live (k xs) ≡ true)
      → live (others S f os k) ≡ all (worded S) os
  others_live f [] k h = h []
  others_live f (o ∷ os) k h =
      operand_then f o (λ v. others S f os λ bs. k (v ∷ bs)) (all (worded S) os) λ v. others_live f os (λ bs. k (v ∷ bs)) λ xs. h (v ∷ xs)

  -- a list behind its word
  list_lives : (w : Text) (o : Operand) (n : ℕ) (k : List ℕ → Grammar A) → silent o ≡ false → ((xs : List ℕ) → live (k xs) ≡ true)
      → live (list S w o n k) ≡ (eqb n 0 || ltb 0 (count S o))
  list_lives w o zero k e h = h []
  list_lives w o (suc n) k e h =
      live_word w (others S 0 (replicate (suc n) o) k) ∙ others_live 0 (replicate (suc n) o) k h ∙ all_again (worded S) o n
      ∙ ap (λ (b : Bool). b || ltb 0 (count S o)) (e ∙ sym (ne_eqb (suc n) 0 λ q. omega arith))

-- a statement that is no call ends with its operands
made_lives : (p : Sofar) (m : Meaning) (bs : List ℕ) → is_call m ≡ false → live (made p m bs) ≡ true
made_lives p (simple f) bs h = refl
made_lives p branches bs h = refl
made_lives p loops bs h = refl
made_lives p calls bs h = absurd (false≢true (sym h))

room_lives : {A : Type 0} (p : Sofar) (n : ℕ) (g : Grammar A) → live (room p n g) ≡ (leb (least p + n) 4096 && live g)
room_lives {A} p n g = go (leb (least p + n) 4096)
  where
    go : (b : Bool) → live {A = A} (elim b [ true ↦ g | false ↦ dead ]) ≡ (b && live g)
    go true = refl
    go false = refl

abbrev meaning_in : Option Row → Meaning
meaning_in none = calls
meaning_in (some r) = r.meaning

module _ (c : Standing) (p : Sofar) (means : Means c p) where
  pub room_is : (n : ℕ) → room_of c n ≡ leb (least p + n) 4096
  room_is n = ap (λ (m : ℕ). leb (m + n) 4096) means.owed

  pub words_is : (o : Operand) → words_of c o ≡ count p.scope o
  words_is Slot = refl
  words_is Location = means.places
  words_is Gate = refl
  words_is Basis = refl
  words_is Value = refl
  words_is Callee = means.callees
  words_is CalleeK = refl
  words_is CalleeM = refl
  words_is Nothing = refl

  pub count_most : (o : Operand) → count p.scope o ≤ 256
  count_most Slot = omega arith
  count_most Location = omega (arith, means.places, means.most)
  count_most Gate = omega arith
  count_most Basis = omega arith
  count_most Value = omega arith
  count_most Callee = omega (arith, means.heads.few)
  count_most CalleeK = omega arith
  count_most CalleeM = omega arith
  count_most Nothing = omega arith

  pub count_is : (o : Operand) → count_of c o ≡ count p.scope o
  count_is o = omega (arith, words_is o, count_most o)

  known : (f : ℕ) → f < c.callees → f < length p.scope.earlier
  known f l = omega (arith, means.callees)

  pub unwritten_k : (f : ℕ) → f < c.callees → unwritten_of c CalleeK f ≡ (syntax.function p.scope.earlier f).k
  unwritten_k f l = means.heads.locations f (known f l)

  pub unwritten_m : (f : ℕ) → f < c.callees → unwritten_of c CalleeM f ≡ (syntax.function p.scope.earlier f).m
  unwritten_m f l = means.heads.arguments f (known f l)

  pub most_k : (f : ℕ) → f < c.callees → unwritten_of c CalleeK f ≤ 16
  most_k f l = omega (arith, unwritten_k f l, means.heads.most_k f (known f l))

  pub most_m : (f : ℕ) → f < c.callees → unwritten_of c CalleeM f ≤ 8
  most_m f l = omega (arith, unwritten_m f l, means.heads.most_m f (known f l))

  -- A row's line has room and depth, or is dead.
  abbrev deep_enough : ℕ → Bool
  deep_enough n = eqb n 0 || ltb (length p.open_blocks) 8

  fits_is : (row : Row) (b : ℕ) → row_of b ≡ some row
      → fits_of c b ≡ (leb (least p + (size row + blocks_of row.meaning)) 4096 && deep_enough (blocks_of row.meaning))
  fits_is row b e =
      let n : size_of b + block_bytes b ≡ size row + blocks_of row.meaning = cc (row_size b row e, row_blocks b row e) in
      ap (λ (t : Bool). t && (eqb (block_bytes b) 0 || ltb c.depth 8)) (room_is (size_of b + block_bytes b) ∙ ap (λ (k : ℕ). leb (least p + k) 4096) n)
      ∙ ap (λ (k : ℕ). leb (least p + (size row + blocks_of row.meaning)) 4096 && (eqb k 0 || ltb c.depth 8)) (row_blocks b row e)
      ∙ ap (λ (d : ℕ). leb (least p + (size row + blocks_of row.meaning)) 4096 && (eqb (blocks_of row.meaning) 0 || ltb d 8)) means.depth

  abbrev lined : Bool → Grammar Sofar → Grammar Sofar
  lined true g = g
  lined false g = dead

  line_is : (row : Row) (b : ℕ) → row_of b ≡ some row
      → row_line p b (some row) ≡ lined (fits_of c b) (operands p.scope row.operands (λ xs. made p row.meaning (b ∷ xs)))
  line_is row b e =
      go (leb (least p + (size row + blocks_of row.meaning)) 4096) (blocks_of row.meaning)
      ∙ ap (λ (t : Bool). lined t rest) (sym (fits_is row b e))
    where
      rest : Grammar Sofar
      rest = operands p.scope row.operands (λ xs. made p row.meaning (b ∷ xs))

      deep : (t : Bool) → ◌≡◌ {A = Grammar Sofar} (elim t [ true ↦ rest | false ↦ dead ]) (lined t rest)
      deep true = refl
      deep false = refl

      go : (t : Bool) (n : ℕ) → ◌≡◌ {A = Grammar Sofar} (elim t [ true ↦ deeper p n rest | false ↦ dead ]) (lined (t && deep_enough n) rest)
      go false n = refl
      go true zero = refl
      go true (suc n) =
          deep (ltb (length p.open_blocks) 8)
          ∙ ap (λ (t : Bool). lined (t || ltb (length p.open_blocks) 8) rest) (sym (ne_eqb (suc n) 0 λ q. omega arith))

  pub row_fits : (row : Row) (b : ℕ) → 0 < b → b < 14 → row_of b ≡ some row → fits_of c b ≡ true
      → row_line p b (some row) ≡ operands p.scope row.operands (λ xs. made p row.meaning (b ∷ xs))
  row_fits row b l h e f = line_is row b e ∙ ap (λ (t : Bool). lined t (operands p.scope row.operands (λ xs. made p row.meaning (b ∷ xs)))) f

  pub row_unfit : (row : Row) (b : ℕ) → 0 < b → b < 14 → row_of b ≡ some row → fits_of c b ≡ false → row_line p b (some row) ≡ dead
  row_unfit row b l h e f = line_is row b e ∙ ap (λ (t : Bool). lined t (operands p.scope row.operands (λ xs. made p row.meaning (b ∷ xs)))) f

  -- a call behind its callee
  call_lives_lem : (f : ℕ) → f < c.callees
      → live (made p calls (12 ∷ f ∷ (syntax.function p.scope.earlier f).k ∷ (syntax.function p.scope.earlier f).m ∷ [])) ≡ call_lives c f
  call_lives_lem f l =
      let k : ℕ = (head_of c f).locations in
      let m : ℕ = (head_of c f).arguments in
      let K : (syntax.function p.scope.earlier f).k ≡ k = sym (means.heads.locations f (known f l)) in
      let M : (syntax.function p.scope.earlier f).m ≡ m = sym (means.heads.arguments f (known f l)) in
      ap (λ (n : ℕ). calling n (syntax.function p.scope.earlier f).m) K ∙ ap (calling k) M
      ∙ room_lives p (4 + k + m) (lists k m) ∙ ap (λ (t : Bool). t && live (lists k m)) (sym (room_is (4 + k + m)))
      ∙ ap (λ (t : Bool). room_of c (4 + k + m) && t) (lists_live k m)
      ∙ ap (λ (n : ℕ). room_of c (4 + k + m) && (eqb k 0 || ltb 0 n)) (sym means.places)
    where
      calling : ℕ → ℕ → Bool
      calling k m = live (made p calls (12 ∷ f ∷ k ∷ m ∷ []))

      slots : ℕ → ℕ → List ℕ → Grammar Sofar
      slots k m ls = list p.scope named.with Slot m λ xs. stop (some (added p ((12 ∷ f ∷ k ∷ m ∷ []) ++ (ls ++ xs))))

      lists : ℕ → ℕ → Grammar Sofar
      lists k m = list p.scope named.at Location k (slots k m)

      lists_live : (k m : ℕ) → live (lists k m) ≡ (eqb k 0 || ltb 0 p.scope.places)
      lists_live k m =
          list_lives p.scope named.at Location k (slots k m) refl λ ls.
          list_lives p.scope named.with Slot m (λ xs. stop (some (added p ((12 ∷ f ∷ k ∷ m ∷ []) ++ (ls ++ xs))))) refl (λ xs. refl)
          ∙ or-true (eqb m 0)

  -- behind operand number n of a statement that is no call
  rest_is : (row : Row) (b : ℕ) → row_of b ≡ some row → eqb b 12 ≡ false → (n f : ℕ)
      → rest_lives c b (n + 1) f ≡ all (worded p.scope) (drop n row.operands)
  rest_is row b e h n f =
      ap (λ (t : Bool). all test (up_to (n + 1) (size_of b - (n + 1)) (operand_at b)) && chosen t (call_lives c f) true) h
      ∙ both (all test (up_to (n + 1) (size_of b - (n + 1)) (operand_at b)))
      ∙ ap (all test) (row_from b row e n)
      ∙ all_same test (worded p.scope) (drop n row.operands) (λ o. ap (λ (m : ℕ). silent o || ltb 0 m) (count_is o))
    where
      test : Operand → Bool
      test o = silent o || ltb 0 (count_of c o)

      both : (t : Bool) → (t && true) ≡ t
      both true = refl
      both false = refl

  -- behind the first operand of a call, and of any statement
  call_rest : (row : Row) → row_of 12 ≡ some row → (o : Operand) (os : List Operand) → row.operands ≡ o ∷ os
      → (v : ℕ) → v < count p.scope o
      → live (others p.scope v os λ bs. made p row.meaning (12 ∷ v ∷ bs)) ≡ rest_lives c 12 2 v
  call_rest row e o os q v l =
      let r : Callee ∷ CalleeK ∷ CalleeM ∷ [] ≡ o ∷ os = ap operands_in e ∙ q in
      let first : o ≡ Callee = cc in
      let rest : os ≡ CalleeK ∷ CalleeM ∷ [] = cc in
      let m : row.meaning ≡ calls = sym (ap meaning_in e) in
      let h : v < length p.scope.earlier = subst (λ (a : Operand). v < count p.scope a) first l in
      ap (λ (ps : List Operand). live (others p.scope v ps λ bs. made p row.meaning (12 ∷ v ∷ bs))) rest
      ∙ ap (λ (a : Meaning). live (others p.scope v (CalleeK ∷ CalleeM ∷ []) λ bs. made p a (12 ∷ v ∷ bs))) m
      ∙ call_lives_lem v (omega (arith, means.callees, h))

  first_rest : (row : Row) (b : ℕ) → row_of b ≡ some row → (o : Operand) (os : List Operand) → row.operands ≡ o ∷ os
      → (v : ℕ) → v < count p.scope o
      → live (others p.scope v os λ bs. made p row.meaning (b ∷ v ∷ bs)) ≡ rest_lives c b 2 v
  first_rest row b e o os q v l = go (eqb b 12) refl
    where
      go : (t : Bool) → eqb b 12 ≡ t → live (others p.scope v os λ bs. made p row.meaning (b ∷ v ∷ bs)) ≡ rest_lives c b 2 v
      go true t =
          let z : 12 ≡ b = sym (eqb-true b 12 t) in
          subst (λ (a : ℕ). row_of a ≡ some row → live (others p.scope v os λ bs. made p row.meaning (a ∷ v ∷ bs)) ≡ rest_lives c a 2 v) z
          (λ i. call_rest row i o os q v l) e
      go false t =
          others_live p.scope v os (λ bs. made p row.meaning (b ∷ v ∷ bs))
          (λ xs. made_lives p row.meaning (b ∷ v ∷ xs) (row_no_call b row e t))
          ∙ sym (rest_is row b e t 1 v ∙ ap (λ (ps : List Operand). all (worded p.scope) (drop 1 ps)) q)

  operands_live : (row : Row) (b : ℕ) → row_of b ≡ some row
      → live (operands p.scope row.operands λ xs. made p row.meaning (b ∷ xs)) ≡ some_below (count_of c (operand_at b 1)) (rest_lives c b 2)
  operands_live row b e =
      let (o, os, q, s) = row_head b row e in
      let first : operand_at b 1 ≡ o = row_operand b row e 0 ∙ ap (λ (ps : List Operand). get_or ps 0 Nothing) q in
      ap (λ (ps : List Operand). live (operands p.scope ps λ xs. made p row.meaning (b ∷ xs))) q
      ∙ operand_lives p.scope 0 o (λ v. others p.scope v os λ bs. made p row.meaning (b ∷ v ∷ bs)) s
      ∙ some_same (count p.scope o) (λ v. live (others p.scope v os λ bs. made p row.meaning (b ∷ v ∷ bs))) (rest_lives c b 2)
      (first_rest row b e o os q)
      ∙ ap (λ (n : ℕ). some_below n (rest_lives c b 2)) (sym (ap (count_of c) first ∙ count_is o))

  pub row_lives_lem : (b : ℕ) → 0 < b → b < 14 → row_lives c b ≡ live (row_line p b (row_of b))
  unfolding row_lives
  row_lives_lem b l h =
      let (row, e) = row_there b l h in
      sym (ap (λ (r : Option Row). live (row_line p b r)) e ∙ ap (λ (g : Grammar Sofar). live g) (line_is row b e)
      ∙ fitting (fits_of c b) (operands p.scope row.operands λ xs. made p row.meaning (b ∷ xs))
      ∙ ap (λ (t : Bool). fits_of c b && t) (operands_live row b e))
    where
      fitting : (t : Bool) (g : Grammar Sofar) → live (lined t g) ≡ (t && live g)
      fitting true g = refl
      fitting false g = refl

  pub statement_lives_lem : statement_lives c ≡ live (statement_line p)
  unfolding statement_lives
  statement_lives_lem =
      some_same 13 (λ i. row_lives c (suc i)) (λ i. live (row_line p (suc i) (row_of (suc i)))) λ i l. row_lives_lem (suc i) (omega arith) (omega arith)

  pub name_begins_lem : (u : Text) → hears false (statement_line p) (u ∷ []) ≡ chosen (name_begins c u) begun not
  unfolding name_begins
  name_begins_lem u =
      hears_unfinished none names (λ i. row_line p (suc i) (row_of (suc i))) u ∙ sym (ap (λ (t : Bool). chosen t begun not)
      (some_same 13 (λ i. opens u (name_of (suc i)) && row_lives c (suc i)) (λ i. opens u (get_or names i []) && live (row_line p (suc i) (row_of (suc i))))
      λ i l. ap (λ (w : Text). opens u w && row_lives c (suc i)) (sym (row_name i))
      ∙ ap (λ (t : Bool). opens u (get_or names i []) && t) (row_lives_lem (suc i) (omega arith) (omega arith))))

  -- part of an operand's word, where some line goes on behind it as the numbers say
  begins_is : (b n f g : ℕ) (o : Operand) (k : ℕ → Grammar Sofar) (u : Text) → operand_at b n ≡ o → silent o ≡ false
      → ((v : ℕ) → v < count p.scope o → live (k v) ≡ rest_lives c b (n + 1) (chosen (eqb n 1) v f))
      → hears false (operand p.scope g o k) (u ∷ []) ≡ chosen (operand_begins c u b n f) begun not
  unfolding operand_begins
  begins_is b n f g o k u a s h =
      operand_hears p.scope g o k u s ∙ sym (ap (λ (t : Bool). chosen t begun not)
      (ap looked a ∙ ap (λ (m : ℕ). some_below m (offered o)) (count_is o)
      ∙ some_same (count p.scope o) (offered o) (λ v. opens u (spoken o v) && live (k v))
      λ v l. ap (λ (w : Text). opens u w && rest_lives c b (n + 1) (chosen (eqb n 1) v f)) (spelling_token o v s p.scope l)
      ∙ ap (λ (t : Bool). opens u (spoken o v) && t) (sym (h v l))))
    where
      offered : Operand → ℕ → Bool
      offered o v = opens u (spelling (token_for o v)) && rest_lives c b (n + 1) (chosen (eqb n 1) v f)

      looked : Operand → Bool
      looked o = some_below (count_of c o) (offered o)

  pub operand_begins_lem : (row : Row) (b : ℕ) → row_of b ≡ some row → (n f : ℕ) (o : Operand) (os : List Operand) (xs : List ℕ) → 1 ≤ n
      → drop (n - 1) row.operands ≡ o ∷ os → length xs ≡ n - 1 → silent o ≡ false → (b ≡ 12 → n ≡ 1)
      → (u : Text) → hears false (from_operand p row b n f (o ∷ os) xs) (u ∷ []) ≡ chosen (operand_begins c u b n f) begun not
  unfolding from_operand
  operand_begins_lem row b e n f o os xs l d x s h u = go (eqb n 1) refl
    where
      there : operand_at b n ≡ o
      there =
          let z : n ≡ suc (n - 1) = omega arith in
          let w : n - 1 + 0 ≡ n - 1 = omega arith in
          ap (operand_at b) z ∙ row_operand b row e (n - 1) ∙ ap (λ (k : ℕ). get_or row.operands k Nothing) (sym w)
          ∙ sym (get_or-drop (n - 1) row.operands 0 Nothing) ∙ ap (λ (ps : List Operand). get_or ps 0 Nothing) d

      behind : drop n row.operands ≡ os
      behind =
          let z : n - 1 + 1 ≡ n = omega arith in
          ap (λ (k : ℕ). drop k row.operands) (sym z) ∙ sym (drop-drop 1 (n - 1) row.operands) ∙ ap (λ (ps : List Operand). drop 1 ps) d

      line : Bool → Grammar Sofar
      line t = chosen t (operands p.scope (o ∷ os) λ ys. made p row.meaning (b ∷ ys))
          (others p.scope f (o ∷ os) λ ys. made p row.meaning (b ∷ (xs ++ ys)))

      go : (t : Bool) → eqb n 1 ≡ t → hears false (line t) (u ∷ []) ≡ chosen (operand_begins c u b n f) begun not
      go true t =
          let one : n ≡ 1 = eqb-true n 1 t in
          let z : 0 ≡ n - 1 = omega arith in
          let y : 2 ≡ n + 1 = omega arith in
          let q : row.operands ≡ o ∷ os = ap (λ (k : ℕ). drop k row.operands) z ∙ d in
          begins_is b n f 0 o (λ v. others p.scope v os λ bs. made p row.meaning (b ∷ v ∷ bs)) u there s λ v i.
          first_rest row b e o os q v i ∙ ap (λ (k : ℕ). rest_lives c b k v) y ∙ ap (λ (a : Bool). rest_lives c b (n + 1) (chosen a v f)) (sym t)
      go false t =
          let other : eqb b 12 ≡ false = ne_eqb b 12 (λ q. eqb-false n 1 t (h q)) in
          begins_is b n f f o (λ v. others p.scope f os λ bs. made p row.meaning (b ∷ (xs ++ (v ∷ bs)))) u there s λ v i.
          others_live p.scope f os (λ bs. made p row.meaning (b ∷ (xs ++ (v ∷ bs))))
          (λ ys. made_lives p row.meaning (b ∷ (xs ++ (v ∷ ys))) (row_no_call b row e other))
          ∙ sym (rest_is row b e other n (chosen (eqb n 1) v f) ∙ ap (all (worded p.scope)) behind)
