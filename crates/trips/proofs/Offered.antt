-- The words that the reader's lines offer differ, and have neither spaces nor newlines: numbers by their digits, names and gates by computing.
use mathlib.Core.Bool.{Bool, true, false, not, ◌&&◌, false≢true}
use mathlib.Core.List.{List, [], ◌∷◌, ◌++◌}
use mathlib.Core.Option.{Option, none, some}
use mathlib.Core.Path.{◌≡◌, refl, sym, ap, subst, ◌∙◌}
use native.Mathlib.Nat.{le_of_suc-le-suc, not-suc-le-zero, add-zero, zero-add}
use native.Mathlib.Omega.{arith}
use Prim.Native.Nat.{ℕ, zero, suc, ◌+◌, ◌-◌, ◌*◌, ◌/◌, ◌%◌, ◌<◌, ◌≤◌}
use lib.Dec.{T, eqb, eqb→eq, ltb, leb}
use lib.ListN.{get_or, length, replicate}
use Rattle.rules.specs.declared.statements.Operand.{Operand}
use Rattle.rules.specs.declared.statements.Operand.TheVariants.{Slot, Location, Gate, Basis, Value, Callee, CalleeK, CalleeM, Nothing}
use Rattle.rules.specs.Basics.{all, same_list, up_to}
use Rattle.rules.specs.Syntax as syntax
use Rattle.rules.specs.Syntax.{Function}
use Rattle.rules.specs.Words.{Text, space, newline, decimal, place}
use Rattle.rules.specs.Names.{gates, program, function, locations, arguments, main, else, at, with}
use Rattle.rules.specs.Table.{Meaning, simple, branches, loops, calls, Row, row_of, size, names}
use Rattle.rules.specs.Program.{Scope}
use Rattle.rules.specs.Listing.{spoken}
use Rattle.rules.specs.Grammar.{Grammar, stop, ask, dead, word, takes}
use Rattle.rules.specs.Unlisting.{count, Opened, Sofar, fresh, sofar, sized, least, added, room, deeper, operand, others, operands, list, made, blocks_of}
use Rattle.rules.specs.Unlisting.{row_line, statement_line, indent, function_line, main_line, top_lines, lines_after, else_begun, program_begun}
use Rattle.rules.proofs.Basics.{length_up_to, get_d_up_to_zero, all_up_to}
use Rattle.rules.proofs.Tests.{eqb_other, T→eq}
use Rattle.trips.proofs.Texts.{Free}
use Rattle.trips.proofs.Grammars.{same_word, word_same, both, Clean, Proper}
use Rattle.trips.proofs.Rows.{place_name}
use Rattle.trips.proofs.Reading.{AllProper, ProperLines}

-- a digit is neither a space nor a newline
digit : (x c : ℕ) → c < 0x30 → eqb (0x30 + x) c ≡ false
digit x c h = eqb_other (0x30 + x) c λ e. omega arith

-- the digits of a number, by whether it is below 10 and below 100
abbrev pub digits : ℕ → Bool → Bool → Text
digits n a b = elim a [
  | true ↦ (0x30 + n) ∷ []
  | false ↦ elim b [
    | true ↦ (0x30 + n / 10) ∷ (0x30 + n % 10) ∷ []
    | false ↦ (0x30 + n / 100) ∷ (0x30 + n / 10 % 10) ∷ (0x30 + n % 10) ∷ []
  ]
]

decimal_free : (n c : ℕ) → c < 0x30 → Free c (decimal n)
decimal_free n c h = go (ltb n 10) (ltb n 100)
  where
    go : (a b : Bool) → Free c (digits n a b)
    go true b = (digit n c h, tt)
    go false true = (digit (n / 10) c h, (digit (n % 10) c h, tt))
    go false false = (digit (n / 100) c h, (digit (n / 10 % 10) c h, (digit (n % 10) c h, tt)))

decimal_clean : (n : ℕ) → Clean (decimal n)
decimal_clean n = (decimal_free n 0x20 (omega arith), decimal_free n 0x0A (omega arith))

-- the number that digits stand for
abbrev value : Text → ℕ
value [] = 0
value (x ∷ []) = x - 0x30
value (x ∷ (y ∷ [])) = (x - 0x30) * 10 + (y - 0x30)
value (x ∷ (y ∷ (z ∷ t))) = (x - 0x30) * 100 + (y - 0x30) * 10 + (z - 0x30)

value_decimal : (n : ℕ) → value (decimal n) ≡ n
value_decimal n = go (ltb n 10) (ltb n 100)
  where
    go : (a b : Bool) → value (digits n a b) ≡ n
    go true b = omega arith
    go false true = omega arith
    go false false = omega arith

decimal_one : (a b : ℕ) → decimal a ≡ decimal b → a ≡ b
decimal_one a b e = sym (value_decimal a) ∙ ap value e ∙ value_decimal b

-- Clean words by computing.
abbrev clean_b : Text → Bool
clean_b w = all (λ x. not (eqb x space) && not (eqb x newline)) w

clean_by : (w : Text) → T (clean_b w) → Clean w
clean_by w t = (
  free space (λ x h. (both (not (eqb x space)) (not (eqb x newline)) h).0) w (T→eq (clean_b w) t),
  free newline (λ x h. (both (not (eqb x space)) (not (eqb x newline)) h).1) w (T→eq (clean_b w) t),
)
  where
    flip : (b : Bool) → not b ≡ true → b ≡ false
    flip true h = absurd (false≢true h)
    flip false h = refl

    free : (c : ℕ) → ((x : ℕ) → (not (eqb x space) && not (eqb x newline)) ≡ true → not (eqb x c) ≡ true) → (w : Text) → clean_b w ≡ true
        → Free c w
    free c f [] h = tt
    free c f (x ∷ w) h =
        let b : ((not (eqb x space) && not (eqb x newline)) ≡ true) × (clean_b w ≡ true) = both (not (eqb x space) && not (eqb x newline)) (clean_b w) h in
        (flip (eqb x c) (f x b.0), free c f w b.1)

-- f tells numbers below N apart
abbrev Apart : ℕ → (ℕ → Text) → Type 0
Apart N f = (a b : ℕ) → a < N → b < N → f a ≡ f b → a ≡ b

same_no : (w v : Text) → (w ≡ v → ⊥) → same_list eqb w v ≡ false
same_no w v h = go (same_list eqb w v) refl
  where
    go : (b : Bool) → same_list eqb w v ≡ b → b ≡ false
    go true e = absurd (h (same_word w v e))
    go false e = refl

place_up_to : (N : ℕ) (f : ℕ → Text) → Apart N f → (n j i : ℕ) → j + n ≤ N → i < n → place (f (j + i)) (up_to j n f) ≡ some i
place_up_to N f h zero j i l k = absurd (not-suc-le-zero k)
place_up_to N f h (suc n) j zero l k =
    ap (λ (m : ℕ). place (f m) (up_to j (suc n) f)) (add-zero j)
    ∙ ap (λ (b : Bool). elim b [ true ↦ some 0 | false ↦ elim (place (f j) (up_to (suc j) n f)) [ none ↦ none | some m ↦ some (suc m) ] ])
    (word_same (f j))
place_up_to N f h (suc n) j (suc i) l k =
    let e : j + suc i ≡ suc j + i = omega arith in
    let q = same_no (f (suc j + i)) (f j) (λ z. (let y = h (suc j + i) j (omega arith) (omega arith) z in omega arith)) in
    let r : place (f (suc j + i)) (up_to (suc j) n f) ≡ some i = place_up_to N f h n (suc j) i (omega arith) (le_of_suc-le-suc k) in
    ap (λ (m : ℕ). place (f m) (up_to j (suc n) f)) e
    ∙ ap (λ (b : Bool). elim b [ true ↦ some 0 | false ↦ elim (place (f (suc j + i)) (up_to (suc j) n f)) [ none ↦ none | some m ↦ some (suc m) ] ]) q
    ∙ ap (λ (o : Option ℕ). elim o [ none ↦ none | some m ↦ some (suc m) ]) r

-- the i-th of the numbered words stands at place i
pub place_numbered : (n : ℕ) (f : ℕ → Text) → Apart n f → (i : ℕ) → i < n → place (f i) (up_to 0 n f) ≡ some i
place_numbered n f h i k = ap (λ (m : ℕ). place (f m) (up_to 0 n f)) (sym (zero-add i)) ∙ place_up_to n f h n 0 i (omega arith) k

pub apart_decimal : (n : ℕ) → Apart n decimal
apart_decimal n a b l k e = decimal_one a b e

-- gates by computing
abbrev gate_number : Text → ℕ
gate_number w = elim (place w gates) [ none ↦ 4 | some i ↦ i ]

gate_number_lem : (a : ℕ) → a < 4 → gate_number (get_or gates a []) ≡ a
gate_number_lem a h = eqb→eq (gate_number (get_or gates a [])) a (all_up_to (λ k. eqb (gate_number (get_or gates k [])) k) 0 4 tt a (omega arith) h)

apart_gates : (n : ℕ) → n ≤ 4 → Apart n (λ b. get_or gates b [])
apart_gates n h a b l k e = sym (gate_number_lem a (omega arith)) ∙ ap gate_number e ∙ gate_number_lem b (omega arith)

gate_clean : (a : ℕ) → a < 4 → Clean (get_or gates a [])
gate_clean a h = clean_by (get_or gates a []) (all_up_to (λ k. clean_b (get_or gates k [])) 0 4 tt a (omega arith) h)

-- the words of an operand
pub apart_spoken : (S : Scope) (o : Operand) → Apart (count S o) (spoken o)
apart_spoken S Slot = apart_decimal 32
apart_spoken S Location = apart_decimal S.places
apart_spoken S Gate = apart_gates 4 (omega arith)
apart_spoken S Basis = apart_gates 2 (omega arith)
apart_spoken S Value = apart_decimal 2
apart_spoken S Callee = apart_decimal (length S.earlier)
apart_spoken S CalleeK = λ a b l k e. absurd (not-suc-le-zero l)
apart_spoken S CalleeM = λ a b l k e. absurd (not-suc-le-zero l)
apart_spoken S Nothing = λ a b l k e. absurd (not-suc-le-zero l)

clean_spoken : (S : Scope) (o : Operand) (i : ℕ) → i < count S o → Clean (spoken o i)
clean_spoken S Slot i h = decimal_clean i
clean_spoken S Location i h = decimal_clean i
clean_spoken S Gate i h = gate_clean i h
clean_spoken S Basis i h = gate_clean i (omega arith)
clean_spoken S Value i h = decimal_clean i
clean_spoken S Callee i h = decimal_clean i
clean_spoken S CalleeK i h = absurd (not-suc-le-zero h)
clean_spoken S CalleeM i h = absurd (not-suc-le-zero h)
clean_spoken S Nothing i h = absurd (not-suc-le-zero h)

module _ {A : Type 0} where
  proper_numbered : (n : ℕ) (f : ℕ → Text) → Apart n f → ((i : ℕ) → i < n → Clean (f i)) → (k : ℕ → Grammar A)
      → ((i : ℕ) → Proper (k i)) → Proper (ask none (up_to 0 n f) k)
  proper_numbered n f h c k p i l =
      let m : i < n = subst (λ (j : ℕ). i < j) (length_up_to 0 n f) l in
      let e : get_or (up_to 0 n f) i [] ≡ f i = get_d_up_to_zero n i f [] m in
      (ap (λ (w : Text). place w (up_to 0 n f)) e ∙ place_numbered n f h i m, subst (λ (w : Text). Clean w) (sym e) (c i m), p i)

  proper_word : (w : Text) (g : Grammar A) → Clean w → Proper g → Proper (word w g)
  proper_word w g c p zero l = (ap (λ (b : Bool). elim b [ true ↦ some 0 | false ↦ none ]) (word_same w), c, p)
  proper_word w g c p (suc i) l = absurd (not-suc-le-zero (le_of_suc-le-suc l))

  module _ (S : Scope) where
    proper_operand : (f : ℕ) (o : Operand) (k : ℕ → Grammar A) → ((i : ℕ) → Proper (k i)) → Proper (operand S f o k)
    proper_operand f Slot k p = proper_numbered (count S Slot) (spoken Slot) (apart_spoken S Slot) (clean_spoken S Slot) k p
    proper_operand f Location k p = proper_numbered (count S Location) (spoken Location) (apart_spoken S Location) (clean_spoken S Location) k p
    proper_operand f Gate k p = proper_numbered (count S Gate) (spoken Gate) (apart_spoken S Gate) (clean_spoken S Gate) k p
    proper_operand f Basis k p = proper_numbered (count S Basis) (spoken Basis) (apart_spoken S Basis) (clean_spoken S Basis) k p
    proper_operand f Value k p = proper_numbered (count S Value) (spoken Value) (apart_spoken S Value) (clean_spoken S Value) k p
    proper_operand f Callee k p = proper_numbered (count S Callee) (spoken Callee) (apart_spoken S Callee) (clean_spoken S Callee) k p
    proper_operand f CalleeK k p = p (syntax.function S.earlier f).k
    proper_operand f CalleeM k p = p (syntax.function S.earlier f).m
    proper_operand f Nothing k p = p 0

    proper_others : (f : ℕ) (os : List Operand) (k : List ℕ → Grammar A) → ((bs : List ℕ) → Proper (k bs)) → Proper (others S f os k)
    proper_others f [] k p = p []
    proper_others f (o ∷ os) k p =
        proper_operand f o (λ b. others S f os λ bs. k (b ∷ bs)) λ b. proper_others f os (λ bs. k (b ∷ bs)) λ bs. p (b ∷ bs)

    proper_operands : (os : List Operand) (k : List ℕ → Grammar A) → ((bs : List ℕ) → Proper (k bs)) → Proper (operands S os k)
    proper_operands [] k p = p []
    proper_operands (o ∷ os) k p =
        proper_operand 0 o (λ b. others S b os λ bs. k (b ∷ bs)) λ b. proper_others b os (λ bs. k (b ∷ bs)) λ bs. p (b ∷ bs)

    proper_list : (w : Text) → Clean w → (o : Operand) (n : ℕ) (k : List ℕ → Grammar A) → ((bs : List ℕ) → Proper (k bs))
        → Proper (list S w o n k)
    proper_list w c o zero k p = p []
    proper_list w c o (suc n) k p = proper_word w (others S 0 (replicate (suc n) o) k) c (proper_others 0 (replicate (suc n) o) k p)

  proper_room : (q : Sofar) (n : ℕ) (g : Grammar A) → Proper g → Proper (room q n g)
  proper_room q n g p = go (leb (least q + n) 4096)
    where
      go : (b : Bool) → Proper {A = A} (elim b [ true ↦ g | false ↦ dead ])
      go true = p
      go false = tt

  proper_deeper : (q : Sofar) (n : ℕ) (g : Grammar A) → Proper g → Proper (deeper q n g)
  proper_deeper q zero g p = p
  proper_deeper q (suc n) g p = go (ltb (length q.open_blocks) 8)
    where
      go : (b : Bool) → Proper {A = A} (elim b [ true ↦ g | false ↦ dead ])
      go true = p
      go false = tt

  proper_indent : (d : ℕ) (g : Grammar A) → Proper g → Proper (indent d g)
  proper_indent zero g p = p
  proper_indent (suc d) g p = proper_word [] (word [] (indent d g)) (tt, tt) (proper_word [] (indent d g) (tt, tt) (proper_indent d g p))

proper_made : (p : Sofar) (m : Meaning) (bs : List ℕ) → Proper (made p m bs)
proper_made p (simple f) bs = tt
proper_made p branches bs = tt
proper_made p loops bs = tt
proper_made p calls bs =
    proper_room p (length bs + get_or bs 2 0 + get_or bs 3 0)
    (list p.scope at Location (get_or bs 2 0) λ ls. list p.scope with Slot (get_or bs 3 0) λ xs. stop (some (added p (bs ++ (ls ++ xs)))))
    (proper_list p.scope at (clean_by at tt) Location (get_or bs 2 0)
    (λ ls. list p.scope with Slot (get_or bs 3 0) λ xs. stop (some (added p (bs ++ (ls ++ xs)))))
    λ ls. proper_list p.scope with (clean_by with tt) Slot (get_or bs 3 0) (λ xs. stop (some (added p (bs ++ (ls ++ xs))))) λ xs. tt)

proper_row : (p : Sofar) (b : ℕ) (o : Option Row) → Proper (row_line p b o)
proper_row p b none = tt
proper_row p b (some r) =
    proper_room p (size r + blocks_of r.meaning) (deeper p (blocks_of r.meaning) (operands p.scope r.operands λ xs. made p r.meaning (b ∷ xs)))
    (proper_deeper p (blocks_of r.meaning) (operands p.scope r.operands λ xs. made p r.meaning (b ∷ xs))
    (proper_operands p.scope r.operands (λ xs. made p r.meaning (b ∷ xs)) λ xs. proper_made p r.meaning (b ∷ xs)))

proper_statement : (p : Sofar) → Proper (statement_line p)
proper_statement p i l = (
  place_name i l,
  clean_by (get_or names i []) (all_up_to (λ k. clean_b (get_or names k [])) 0 (length names) tt i (omega arith) l),
  proper_row p (suc i) (row_of (suc i)),
)

indent_none : {A : Type 0} (d : ℕ) (g : Grammar A) → takes g [] ≡ none → takes (indent d g) [] ≡ none
indent_none zero g h = h
indent_none (suc d) g h = refl

-- the same behind a constructor, so that the grammar is found from what is asked
data Offers (g : Grammar Sofar) : Type 0 where
  offers : Proper g → Offers g

offered : {g : Grammar Sofar} → Offers g → Proper g
offered (offers p) = p

ends : {e : Option Sofar} → Offers (stop e)
ends = offers tt

one_word : (w : Text) → Clean w → {g : Grammar Sofar} → Offers g → Offers (ask none (w ∷ []) λ i. g)
one_word w c {g} (offers p) = offers (proper_word w g c p)

a_number : (n : ℕ) {k : ℕ → Grammar Sofar} → ((i : ℕ) → Offers (k i)) → Offers (ask none (up_to 0 n decimal) k)
a_number n {k} h = offers (proper_numbered n decimal (apart_decimal n) (λ i l. decimal_clean i) k λ i. offered (h i))

proper_function : (fs : List Function) (F : List ℕ) → Offers (function_line fs F)
proper_function fs F =
    one_word function (clean_by function tt) (one_word (decimal (length fs)) (decimal_clean (length fs)) (one_word locations (clean_by locations tt)
    (a_number 17 λ k. one_word arguments (clean_by arguments tt) (a_number (suc (elim (leb k 8) [ true ↦ k | false ↦ 8 ])) λ m. ends))))

proper_main : (fs : List Function) (F : List ℕ) → Offers (main_line fs F)
proper_main fs F = one_word main (clean_by main tt) ends

-- the lines outside functions and main, by whether there is room for a function and a number left
abbrev pub top_with : List Function → List ℕ → Bool → Bool → List (Grammar Sofar)
top_with fs F a b = elim a [ true ↦ elim b [ true ↦ function_line fs F ∷ [] | false ↦ [] ] | false ↦ [] ] ++ (main_line fs F ∷ [])

proper_top : (a : Option (List Function)) (F : List ℕ) → AllProper (top_lines a F)
proper_top none F = tt
proper_top (some fs) F = go (leb (12 + length F) 4096) (ltb (length fs) 15)
  where
    mains : AllProper (main_line fs F ∷ [])
    mains = (offered (proper_main fs F), refl, tt)

    go : (a b : Bool) → AllProper (top_with fs F a b)
    go true true = (offered (proper_function fs F), refl, mains)
    go true false = mains
    go false b = mains

abbrev pub else_line : Scope → Option (List Function) → Opened → List Opened → List ℕ → Grammar Sofar
else_line S a b bs bytes = word else (stop (some (else_begun S a b bs bytes)))

-- the lines behind a block, by whether its else is due
abbrev pub after_block : Scope → Option (List Function) → Opened → List Opened → List ℕ → Bool → List (Grammar Sofar)
after_block S a b bs bytes d = elim d [ true ↦ indent (length bs) (else_line S a b bs bytes) ∷ [] | false ↦ lines_after S a bs (b.before ++ sized bytes) ]

proper_else : (S : Scope) (a : Option (List Function)) (b : Opened) (bs : List Opened) (bytes : List ℕ) → Offers (else_line S a b bs bytes)
proper_else S a b bs bytes = one_word else (clean_by else tt) ends

proper_fresh : Offers (word program (word (decimal 1) (stop (some program_begun))))
proper_fresh = one_word program (clean_by program tt) (one_word (decimal 1) (decimal_clean 1) ends)

proper_after : (S : Scope) (a : Option (List Function)) (bs : List Opened) (bytes : List ℕ) → AllProper (lines_after S a bs bytes)
proper_after S a [] bytes = proper_top a bytes
proper_after S a (b ∷ bs) bytes =
    let p : Sofar = record { scope = S; after = a; open_blocks = b ∷ bs; bytes = bytes } in
    (proper_indent (suc (length bs)) (statement_line p) (proper_statement p), refl, rest b.due (proper_after S a bs (b.before ++ sized bytes)))
  where
    rest : (d : Bool) → AllProper (lines_after S a bs (b.before ++ sized bytes))
        → AllProper (after_block S a b bs bytes d)
    rest true r =
        (proper_indent (length bs) (else_line S a b bs bytes) (offered (proper_else S a b bs bytes)), indent_none (length bs) (else_line S a b bs bytes) refl, tt)
    rest false r = r

pub proper_lines : ProperLines
proper_lines fresh = (offered proper_fresh, refl, tt)
proper_lines (sofar p) = proper_after p.scope p.after p.open_blocks p.bytes
