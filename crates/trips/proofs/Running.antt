-- The lines of a good tree are followed, to its bytes: by its statements and blocks, each line is one that the reader offers there, for there is room
-- (`least` and the bytes to come are at most 4,096) and depth. A block that has ended leaves a state that offers what the state around it does (`Closes`).
use mathlib.Core.Bool.{Bool, true, false}
use mathlib.Core.List.{List, [], ◌∷◌, ◌++◌, append_assoc, append-nil}
use mathlib.Core.Option.{Option, none, some}
use mathlib.Core.Path.{◌≡◌, refl, sym, ap, subst, ◌∙◌}
use native.Mathlib.Nat.{le_of_suc-le-suc, not-suc-le-zero}
use native.Mathlib.Omega.{arith}
use Prim.Native.Nat.{ℕ, zero, suc, ◌+◌, ◌<◌, ◌≤◌}
use lib.Dec.{ltb, leb, le→leb}
use lib.ListN.{get_or, length, length-append, length-replicate, replicate}
use Rattle.rules.specs.declared.statements.Operand.TheVariants.{Slot, Location}
use Rattle.rules.specs.Basics.{up_to}
use Rattle.rules.specs.Syntax.{Function}
use Rattle.rules.specs.Words.{Text, decimal}
use Rattle.rules.specs.Names.{locations, arguments, main, else, at, with}
use Rattle.rules.specs.Table.{Meaning, simple, branches, loops, calls, Row, table, row_of, size, names, name_of}
use Rattle.rules.specs.Program.{Scope}
use Rattle.rules.specs.Listing.{head_line, Line, indented, listed, operands_in}
use Rattle.rules.specs.Grammar.{Grammar, stop, ask, dead, word, takes, takes_one}
use Rattle.rules.specs.Unlisting.{Opened, Sofar, sofar, sized, least, room, deeper, added, operands, list, made, blocks_of, row_line, statement_line, indent}
use Rattle.rules.specs.Unlisting.{function_line, main_line, lines, ended, file, header, function_begun, main_begun, program_begun}
use Rattle.rules.proofs.Tests.{T→eq, is_below}
use Rattle.trips.proofs.Grammars.{none_not_some, word_same, takes_next}
use Rattle.trips.proofs.Rows.{byte_of_row, name_filled, name_at, place_name}
use Rattle.trips.proofs.Reading.{run, run_next, run_on}
use Rattle.trips.proofs.Offered.{after_block, top_with, place_numbered, apart_decimal, else_line}
use Rattle.trips.proofs.Raw.{length_sized, sized_length, Raw, plain, called, fork, loop, Raws, end, ◌then◌, raw_bytes, raws_bytes, said, raw_line}
use Rattle.trips.proofs.Raw.{raw_lines, raws_lines, Operands, ranged_length, operands_length, takes_operands, takes_list, Good, good_plain, good_called}
use Rattle.trips.proofs.Raw.{good_fork, good_loop, Goods, good_then, RawFunction, head_of, heads, functions_bytes, program_bytes, raw_functions}
use Rattle.trips.proofs.Raw.{GoodFunctions, a_function, Runs}

abbrev pub state : Scope → Option (List Function) → List Opened → List ℕ → Sofar
state S a bs bytes = record { scope = S; after = a; open_blocks = bs; bytes = bytes }

-- Lines and indents.
takes_word : {A : Type 0} (w : Text) (g : Grammar A) (ws : List Text) → takes (word w g) (w ∷ ws) ≡ takes g ws
takes_word w g ws = takes_next none (w ∷ []) (λ i. g) w ws 0 (ap (λ (b : Bool). elim b [ true ↦ some 0 | false ↦ none ]) (word_same w))

takes_indent : {A : Type 0} (n : ℕ) (g : Grammar A) (l : Line) → takes (indent n g) (indented n l) ≡ takes g l
takes_indent zero g l = refl
takes_indent (suc n) g l = takes_indent n g l

-- a line that is less deep
not_so_deep : {A : Type 0} (k m : ℕ) → m ≤ k → (g : Grammar A) (x : ℕ) (w : Text) (ws : List Text)
    → takes (indent (suc k) g) (indented m ((x ∷ w) ∷ ws)) ≡ none
not_so_deep k zero h g x w ws = refl
not_so_deep zero (suc m) h g x w ws = absurd (not-suc-le-zero h)
not_so_deep (suc k) (suc m) h g x w ws = not_so_deep k m (le_of_suc-le-suc h) g x w ws

name_taken : (p : Sofar) (b : ℕ) (r : Row) → row_of b ≡ some r → (ws : List Text)
    → takes (statement_line p) (name_of b ∷ ws) ≡ takes (row_line p b (some r)) ws
name_taken p zero r h ws = none_not_some h
name_taken p (suc i) r h ws =
    let l : i < length table = omega (arith, (byte_of_row (suc i) r h).1, (byte_of_row (suc i) r h).2) in
    ap (λ (w : Text). takes (statement_line p) (w ∷ ws)) (name_at i)
    ∙ takes_next none names (λ i. row_line p (suc i) (row_of (suc i))) (get_or names i []) ws i (place_name i l)
    ∙ ap (λ (o : Option Row). takes (row_line p (suc i) o) ws) h

roomy : {A : Type 0} (p : Sofar) (n : ℕ) (g : Grammar A) → least p + n ≤ 4096 → room p n g ≡ g
roomy {A} p n g h = ap {B = Grammar A} (λ (b : Bool). elim b [ true ↦ g | false ↦ dead ]) (T→eq (leb (least p + n) 4096) (le→leb (least p + n) 4096 h))

not_deepest : {A : Type 0} (p : Sofar) (n : ℕ) (g : Grammar A) → length p.open_blocks < 8 → deeper p n g ≡ g
not_deepest p zero g h = refl
not_deepest {A} p (suc n) g h =
    ap {B = Grammar A} (λ (b : Bool). elim b [ true ↦ g | false ↦ dead ])
    (is_below (length p.open_blocks) 8 h)

-- a statement's line, up to what its row's meaning makes of it
module _ (p : Sofar) (b : ℕ) (r : Row) (m : Meaning) (row : row_of b ≡ some r) (means : r.meaning ≡ m) (fits : least p + (size r + blocks_of m) ≤ 4096)
    (deep : (g : Grammar Sofar) → deeper p (blocks_of m) g ≡ g) (xs : List ℕ) (good : Operands p.scope r.operands xs) where
  line_taken : (n : ℕ) (ws : List Text) → takes (indent n (statement_line p)) (indented n (raw_line b xs ++ ws)) ≡ takes (made p m (b ∷ xs)) ws
  line_taken n ws =
      let G : Meaning → Grammar Sofar = λ m. operands p.scope r.operands λ xs. made p m (b ∷ xs) in
      takes_indent n (statement_line p) (raw_line b xs ++ ws)
      ∙ name_taken p b r row (said (operands_in (row_of b)) xs ++ ws)
      ∙ ap (λ (o : Option Row). takes (row_line p b (some r)) (said (operands_in o) xs ++ ws)) row
      ∙ ap (λ (m : Meaning). takes (room p (size r + blocks_of m) (deeper p (blocks_of m) (G m))) (said r.operands xs ++ ws)) means
      ∙ ap (λ (g : Grammar Sofar). takes g (said r.operands xs ++ ws)) (roomy p (size r + blocks_of m) (deeper p (blocks_of m) (G m)) fits ∙ deep (G m))
      ∙ takes_operands p.scope r.operands (λ xs. made p m (b ∷ xs)) xs good ws

-- a state that is another once its innermost blocks have ended
pub data Closes (q : Sofar) : Sofar → Type 0 where
  same : Closes q q
  closed : (S : Scope) (a : Option (List Function)) (b : Opened) (bs : List Opened) (bytes : List ℕ) → Closes q (state S a (b ∷ bs) bytes)
      → b.due ≡ false
      → {p : Sofar} → p ≡ state S a bs (b.before ++ sized bytes) → Closes q p

first_line_lem : (S : Scope) (a : Option (List Function)) (b : Opened) (bs : List Opened) (bytes : List ℕ) (l : Line) (p : Sofar)
    → takes (indent (suc (length bs)) (statement_line (state S a (b ∷ bs) bytes))) l ≡ some p
    → takes_one (lines (sofar (state S a (b ∷ bs) bytes))) l ≡ some p
first_line_lem S a b bs bytes l p h =
    ap (λ (o : Option Sofar). elim o [ none ↦ takes_one (after_block S a b bs bytes b.due) l | some a ↦ some a ]) h

later_line : (S : Scope) (a : Option (List Function)) (b : Opened) (bs : List Opened) (bytes : List ℕ) (m : ℕ) → m ≤ length bs
    → (x : ℕ) (w : Text) (ws : List Text)
    → takes_one (lines (sofar (state S a (b ∷ bs) bytes))) (indented m ((x ∷ w) ∷ ws))
    ≡ takes_one (after_block S a b bs bytes b.due) (indented m ((x ∷ w) ∷ ws))
later_line S a b bs bytes m h x w ws =
    ap (λ (o : Option Sofar). elim o [ none ↦ takes_one (after_block S a b bs bytes b.due) (indented m ((x ∷ w) ∷ ws)) | some a ↦ some a ])
    (not_so_deep (length bs) m h (statement_line (state S a (b ∷ bs) bytes)) x w ws)

closes_takes : (q p : Sofar) → Closes q p → (m : ℕ) → m ≤ length p.open_blocks → (x : ℕ) (w : Text) (ws : List Text)
    → takes_one (lines (sofar q)) (indented m ((x ∷ w) ∷ ws)) ≡ takes_one (lines (sofar p)) (indented m ((x ∷ w) ∷ ws))
closes_takes q p same m h x w ws = refl
closes_takes q p (closed S a b bs bytes c e e') m h x w ws =
    let k : m ≤ length bs = subst (λ (r : Sofar). m ≤ length r.open_blocks) e' h in
    let l : Line = indented m ((x ∷ w) ∷ ws) in
    closes_takes q (state S a (b ∷ bs) bytes) c m (omega (arith, k)) x w ws ∙ later_line S a b bs bytes m k x w ws
    ∙ ap {B = Option Sofar} (λ (d : Bool). takes_one (after_block S a b bs bytes d) l) e
    ∙ ap (λ (r : Sofar). takes_one (lines (sofar r)) l) (sym e')

pub closes_file : (q p : Sofar) → Closes q p → file (sofar q) ≡ file (sofar p)
closes_file q p same = refl
closes_file q p (closed S a b bs bytes c e e') =
    let E : Bool → Option (List ℕ) = λ d. elim d [ true ↦ none | false ↦ ended bs (b.before ++ sized bytes) ] in
    closes_file q (state S a (b ∷ bs) bytes) c
    ∙ ap {B = Option (List ℕ)} (λ
    (d : Bool). elim a [ some fs ↦ none | none ↦ elim (E d) [ none ↦ none | some z ↦ some (header (length S.earlier) ++ z) ] ]) e
    ∙ ap (λ (r : Sofar). file (sofar r)) (sym e')

closes_run : (q p : Sofar) → Closes q p → (m : ℕ) → m ≤ length p.open_blocks → (x : ℕ) (w : Text) (ws : List Text) (ls : List Line)
    → run (sofar q) (indented m ((x ∷ w) ∷ ws) ∷ ls) ≡ run (sofar p) (indented m ((x ∷ w) ∷ ws) ∷ ls)
closes_run q p c m h x w ws ls = ap (λ (o : Option Sofar). elim o [ none ↦ none | some r ↦ run (sofar r) ls ]) (closes_takes q p c m h x w ws)

-- Statements and blocks.
abbrev Ran : Sofar → List Line → Sofar → Type 0
Ran p ls p' = (q : Sofar) × (run (sofar p) ls ≡ some (sofar q)) × Closes q p'

-- a tree's first line is at its depth
starts_at : (n : ℕ) (S : Scope) (d : ℕ) (r : Raw) → Good S d r
    → (x : ℕ) × (w : Text) × (ws : List Text) × (ls : List Line) × (raw_lines n r ≡ indented n ((x ∷ w) ∷ ws) ∷ ls)
starts_at n S zero (fork b xs q t) given = elim given [ ]
starts_at n S zero (loop b xs q) given = elim given [ ]
starts_at n S d (plain b xs) (good_plain r f row e h) =
    let N : (x : ℕ) × (w : Text) × (name_of b ≡ x ∷ w) = name_filled b r row in
    (N.0, N.1, said (operands_in (row_of b)) xs, [], ap (λ (v : Text). indented n (v ∷ said (operands_in (row_of b)) xs) ∷ []) N.2)
starts_at n S d (called b xs ls ms) (good_called r row e h i j) =
    let N : (x : ℕ) × (w : Text) × (name_of b ≡ x ∷ w) = name_filled b r row in (
      N.0,
      N.1,
      said (operands_in (row_of b)) xs ++ (listed at ls ++ listed with ms),
      [],
      ap (λ (v : Text). indented n (v ∷ (said (operands_in (row_of b)) xs ++ (listed at ls ++ listed with ms))) ∷ []) N.2,
    )
starts_at n S (suc d) (fork b xs q t) (good_fork r row e h i j) =
    let N : (x : ℕ) × (w : Text) × (name_of b ≡ x ∷ w) = name_filled b r row in
    let L : List Line = raws_lines (suc n) q ++ (indented n (else ∷ []) ∷ raws_lines (suc n) t) in
    (N.0, N.1, said (operands_in (row_of b)) xs, L, ap (λ (v : Text). indented n (v ∷ said (operands_in (row_of b)) xs) ∷ L) N.2)
starts_at n S (suc d) (loop b xs q) (good_loop r row e h i) =
    let N : (x : ℕ) × (w : Text) × (name_of b ≡ x ∷ w) = name_filled b r row in (
      N.0,
      N.1,
      said (operands_in (row_of b)) xs,
      raws_lines (suc n) q,
      ap (λ (v : Text). indented n (v ∷ said (operands_in (row_of b)) xs) ∷ raws_lines (suc n) q) N.2,
    )

-- what follows a state follows the state that it is
on_from : (S : Scope) (d : ℕ) (rs : Raws) → Goods S d rs → (q p : Sofar) → Closes q p → (n : ℕ) → n ≤ length p.open_blocks → (p' : Sofar)
    → ((rs ≡ end → p' ≡ p)) → Ran p (raws_lines n rs) p' → Ran q (raws_lines n rs) p'
on_from S d end g q p c n h p' e r = (q, refl, subst (λ (x : Sofar). Closes q x) (sym (e refl)) c)
on_from S d (t then rs) (good_then g gs) q p c n h p' e r =
    let s : (x : ℕ) × (w : Text) × (ws : List Text) × (ls : List Line) × (raw_lines n t ≡ indented n ((x ∷ w) ∷ ws) ∷ ls) = starts_at n S d t g in
    let z =
    ap (λ (l : List Line). run (sofar q) (l ++ raws_lines n rs)) s.4 ∙ closes_run q p c n h s.0 s.1 s.2 (s.3 ++ raws_lines n rs)
    ∙ ap (λ (l : List Line). run (sofar p) (l ++ raws_lines n rs)) (sym s.4) in
    (r.0, z ∙ r.1, r.2)

pub size_xs : (S : Scope) (r : Row) (xs : List ℕ) → Operands S r.operands xs → size r ≡ suc (length xs)
size_xs S r xs h = ap suc (sym (operands_length S r.operands xs h))

one_step : (p q : Sofar) (l : Line) → takes_one (lines (sofar p)) l ≡ some q → run (sofar p) (l ∷ []) ≡ some (sofar q)
one_step p q l h = run_next (sofar p) l [] q h

mutual
  run_raw : (S : Scope) (a : Option (List Function)) (d : ℕ) (r : Raw) → Good S d r → (b : Opened) (bs : List Opened) (bytes : List ℕ)
      → length bs + d ≡ 7
      → least (state S a (b ∷ bs) bytes) + length (raw_bytes r) ≤ 4096
      → Ran (state S a (b ∷ bs) bytes) (raw_lines (suc (length bs)) r) (state S a (b ∷ bs) (bytes ++ raw_bytes r))
  run_raw S a zero (fork c xs q t) given b bs bytes n l = elim given [ ]
  run_raw S a zero (loop c xs q) given b bs bytes n l = elim given [ ]
  run_raw S a d (plain c xs) (good_plain r f row e h) b bs bytes n l =
      let p : Sofar = state S a (b ∷ bs) bytes in
      let z : size r ≡ suc (length xs) = size_xs S r xs h in
      let t = ap (λ (w : Line). takes (indent (suc (length bs)) (statement_line p)) (indented (suc (length bs)) w)) (sym (append-nil (raw_line c xs)))
      ∙ line_taken p c r (simple f) row e (omega arith) (λ g. refl) xs h (suc (length bs)) [] in (
        added p (c ∷ xs),
        one_step p (added p (c ∷ xs)) (indented (suc (length bs)) (raw_line c xs))
            (first_line_lem S a b bs bytes (indented (suc (length bs)) (raw_line c xs)) (added p (c ∷ xs)) t),
        same,
      )
  run_raw S a d (called c xs ls ms) (good_called r row e h i j) b bs bytes n l =
      let p : Sofar = state S a (b ∷ bs) bytes in
      let z : size r ≡ suc (length xs) = size_xs S r xs h in
      let li : length ls ≡ length (replicate (get_or xs 1 0) Location) = ranged_length S 0 (replicate (get_or xs 1 0) Location) ls i in
      let lj : length ms ≡ length (replicate (get_or xs 2 0) Slot) = ranged_length S 0 (replicate (get_or xs 2 0) Slot) ms j in
      let li' : length (replicate (get_or xs 1 0) Location) ≡ get_or xs 1 0 = length-replicate (get_or xs 1 0) Location in
      let lj' : length (replicate (get_or xs 2 0) Slot) ≡ get_or xs 2 0 = length-replicate (get_or xs 2 0) Slot in
      let lx : length (xs ++ (ls ++ ms)) ≡ length xs + length (ls ++ ms) = length-append xs (ls ++ ms) in
      let ly : length (ls ++ ms) ≡ length ls + length ms = length-append ls ms in
      let w : Line = listed at ls ++ listed with ms in
      let p' : Sofar = state S a (b ∷ bs) (bytes ++ (c ∷ (xs ++ (ls ++ ms)))) in
      let g₂ : List ℕ → List ℕ → Grammar Sofar = λ ls ms. stop (some (added p ((c ∷ xs) ++ (ls ++ ms)))) in
      let g₁ : List ℕ → Grammar Sofar = λ ls. list S with Slot (get_or xs 2 0) (g₂ ls) in
      let t = line_taken p c r calls row e (omega arith) (λ g. refl) xs h (suc (length bs)) w
      ∙ ap (λ (g : Grammar Sofar). takes g w) (roomy p (suc (length xs) + get_or xs 1 0 + get_or xs 2 0) (list S at Location (get_or xs 1 0) g₁) (omega arith))
      ∙ takes_list S at Location refl (λ x. refl) (get_or xs 1 0) g₁ ls i (listed with ms)
      ∙ ap (takes (g₁ ls)) (sym (append-nil (listed with ms)))
      ∙ takes_list S with Slot refl (λ x. refl) (get_or xs 2 0) (g₂ ls) ms j [] in (
        p',
        one_step p p' (indented (suc (length bs)) (raw_line c xs ++ w))
            (first_line_lem S a b bs bytes (indented (suc (length bs)) (raw_line c xs ++ w)) p' t),
        same,
      )
  run_raw S a (suc d) (fork c xs q t) (good_fork r row e h i j) b bs bytes n l =
      let p : Sofar = state S a (b ∷ bs) bytes in
      let z : size r ≡ suc (length xs) = size_xs S r xs h in
      let tb : List ℕ = raws_bytes t in
      let B₁ : Opened = record { before = bytes ++ (c ∷ xs); due = true } in
      let B₂ : Opened = record { before = (bytes ++ (c ∷ xs)) ++ sized (raws_bytes q); due = false } in
      let p₁ : Sofar = state S a (B₁ ∷ (b ∷ bs)) [] in
      let p₂ : Sofar = state S a (B₂ ∷ (b ∷ bs)) [] in
      let lb : length (bytes ++ (c ∷ xs)) ≡ length bytes + suc (length xs) = length-append bytes (c ∷ xs) in
      let lc = length_sized (bytes ++ (c ∷ xs)) (raws_bytes q) in
      let lx = length-append xs (sized (raws_bytes q) ++ sized tb) in
      let ly = length_sized (sized (raws_bytes q)) tb in
      let line = ap (λ (w : Line). takes (indent (suc (length bs)) (statement_line p)) (indented (suc (length bs)) w)) (sym (append-nil (raw_line c xs)))
      ∙ line_taken p c r branches row e (omega arith) (λ g. not_deepest p 4 g (omega arith)) xs h (suc (length bs)) [] in
      let R = run_raws S a d q i B₁ (b ∷ bs) [] (omega arith) (omega arith) in
      let els =
      closes_takes R.0 (state S a (B₁ ∷ (b ∷ bs)) (raws_bytes q)) R.2 (suc (length bs)) (omega arith) 0x65 (0x6C ∷ 0x73 ∷ 0x65 ∷ []) []
      ∙ later_line S a B₁ (b ∷ bs) (raws_bytes q) (suc (length bs)) (omega arith) 0x65 (0x6C ∷ 0x73 ∷ 0x65 ∷ []) []
      ∙ ap (λ (o : Option Sofar). elim o [ none ↦ none | some x ↦ some x ])
      (takes_indent (suc (length bs)) (else_line S a B₁ (b ∷ bs) (raws_bytes q)) (else ∷ [])) in
      let Q = run_raws S a d t j B₂ (b ∷ bs) [] (omega arith) (omega arith) in
      let s =
      run_next (sofar p) (indented (suc (length bs)) (raw_line c xs))
      (raws_lines (suc (suc (length bs))) q ++ (indented (suc (length bs)) (else ∷ []) ∷ raws_lines (suc (suc (length bs))) t)) p₁
      (first_line_lem S a b bs bytes (indented (suc (length bs)) (raw_line c xs)) p₁ line)
      ∙ run_on (sofar p₁) (sofar R.0) (raws_lines (suc (suc (length bs))) q)
      (indented (suc (length bs)) (else ∷ []) ∷ raws_lines (suc (suc (length bs))) t) R.1
      ∙ run_next (sofar R.0) (indented (suc (length bs)) (else ∷ [])) (raws_lines (suc (suc (length bs))) t) p₂ els ∙ Q.1 in (
        Q.0,
        s,
        closed S a B₂ (b ∷ bs) tb Q.2 refl
            (ap (state S a (b ∷ bs))
            (sym (append_assoc bytes (c ∷ xs) (sized (raws_bytes q) ++ sized tb))
            ∙ sym (append_assoc (bytes ++ (c ∷ xs)) (sized (raws_bytes q)) (sized tb)))),
      )
  run_raw S a (suc d) (loop c xs q) (good_loop r row e h i) b bs bytes n l =
      let p : Sofar = state S a (b ∷ bs) bytes in
      let z : size r ≡ suc (length xs) = size_xs S r xs h in
      let B : Opened = record { before = bytes ++ (c ∷ xs); due = false } in
      let p₁ : Sofar = state S a (B ∷ (b ∷ bs)) [] in
      let lb : length (bytes ++ (c ∷ xs)) ≡ length bytes + suc (length xs) = length-append bytes (c ∷ xs) in
      let lx : length (xs ++ sized (raws_bytes q)) ≡ length xs + suc (suc (length (raws_bytes q))) = length_sized xs (raws_bytes q) in
      let t = ap (λ (w : Line). takes (indent (suc (length bs)) (statement_line p)) (indented (suc (length bs)) w)) (sym (append-nil (raw_line c xs)))
      ∙ line_taken p c r loops row e (omega arith) (λ g. not_deepest p 2 g (omega arith)) xs h (suc (length bs)) [] in
      let R = run_raws S a d q i B (b ∷ bs) [] (omega arith) (omega arith) in
      let s =
      run_next (sofar p) (indented (suc (length bs)) (raw_line c xs)) (raws_lines (suc (suc (length bs))) q) p₁
      (first_line_lem S a b bs bytes (indented (suc (length bs)) (raw_line c xs)) p₁ t) ∙ R.1 in
      (R.0, s, closed S a B (b ∷ bs) (raws_bytes q) R.2 refl (ap (state S a (b ∷ bs)) (sym (append_assoc bytes (c ∷ xs) (sized (raws_bytes q))))))

  run_raws : (S : Scope) (a : Option (List Function)) (d : ℕ) (rs : Raws) → Goods S d rs → (b : Opened) (bs : List Opened) (bytes : List ℕ)
      → length bs + d ≡ 7
      → least (state S a (b ∷ bs) bytes) + length (raws_bytes rs) ≤ 4096
      → Ran (state S a (b ∷ bs) bytes) (raws_lines (suc (length bs)) rs) (state S a (b ∷ bs) (bytes ++ raws_bytes rs))
  run_raws S a d end g b bs bytes n l =
      (state S a (b ∷ bs) bytes, refl, subst (λ (z : List ℕ). Closes (state S a (b ∷ bs) bytes) (state S a (b ∷ bs) z)) (sym (append-nil bytes)) same)
  run_raws S a d (r then rs) (good_then g gs) b bs bytes n l =
      let la : length (raw_bytes r ++ raws_bytes rs) ≡ length (raw_bytes r) + length (raws_bytes rs) = length-append (raw_bytes r) (raws_bytes rs) in
      let lb : length (bytes ++ raw_bytes r) ≡ length bytes + length (raw_bytes r) = length-append bytes (raw_bytes r) in
      let R = run_raw S a d r g b bs bytes n (omega arith) in
      let Q = run_raws S a d rs gs b bs (bytes ++ raw_bytes r) n (omega arith) in
      let P =
      on_from S d rs gs R.0 (state S a (b ∷ bs) (bytes ++ raw_bytes r)) R.2 (suc (length bs)) (omega arith)
      (state S a (b ∷ bs) ((bytes ++ raw_bytes r) ++ raws_bytes rs))
      (λ e. ap (λ (z : Raws). state S a (b ∷ bs) ((bytes ++ raw_bytes r) ++ raws_bytes z)) e
      ∙ ap (state S a (b ∷ bs)) (append-nil (bytes ++ raw_bytes r))) Q in (
        P.0,
        run_on (sofar (state S a (b ∷ bs) bytes)) (sofar R.0) (raw_lines (suc (length bs)) r) (raws_lines (suc (length bs)) rs) R.1 ∙ P.1,
        subst (λ (z : List ℕ). Closes P.0 (state S a (b ∷ bs) z)) (append_assoc bytes (raw_bytes r) (raws_bytes rs)) P.2,
      )

-- Functions and main.
least_8 : (k m : ℕ) → m ≤ 8 → m ≤ k → m < suc (elim (leb k 8) [ true ↦ k | false ↦ 8 ])
least_8 k m h l = go (leb k 8)
  where
    go : (b : Bool) → m < suc (elim b [ true ↦ k | false ↦ 8 ])
    go true = omega arith
    go false = omega arith

takes_number : {A : Type 0} (n : ℕ) (g : ℕ → Grammar A) (x : ℕ) → x < n → (ws : List Text)
    → takes (ask none (up_to 0 n decimal) g) (decimal x ∷ ws) ≡ takes (g x) ws
takes_number n g x h ws = takes_next none (up_to 0 n decimal) g (decimal x) ws x (place_numbered n decimal (apart_decimal n) x h)

function_taken : (fs : List Function) (F : List ℕ) (k m : ℕ) → k ≤ 16 → m ≤ 8 → m ≤ k
    → takes (function_line fs F) (head_line (length fs) k m) ≡ some (function_begun fs F k m)
function_taken fs F k m hk hm l =
    let M : ℕ → ℕ = λ k. suc (elim (leb k 8) [ true ↦ k | false ↦ 8 ]) in
    let g₃ : ℕ → Grammar Sofar = λ k. ask none (up_to 0 (M k) decimal) λ m. stop (some (function_begun fs F k m)) in
    let g₂ : Grammar Sofar = ask none (up_to 0 17 decimal) λ k. word arguments (g₃ k) in
    takes_word (decimal (length fs)) (word locations g₂) (locations ∷ decimal k ∷ arguments ∷ decimal m ∷ [])
    ∙ takes_number 17 (λ k. word arguments (g₃ k)) k (omega arith) (arguments ∷ decimal m ∷ [])
    ∙ takes_number (M k) (λ m. stop (some (function_begun fs F k m))) m (least_8 k m hm l) []

top_function : (S : Scope) (fs : List Function) (F : List ℕ) (l : Line) (p : Sofar) → 12 + length F ≤ 4096 → length fs < 15
    → takes (function_line fs F) l ≡ some p
    → takes_one (lines (sofar (state S (some fs) [] F))) l ≡ some p
top_function S fs F l p h k t =
    ap {B = Option Sofar} (λ (b : Bool). takes_one (top_with fs F b (ltb (length fs) 15)) l)
    (T→eq (leb (12 + length F) 4096) (le→leb (12 + length F) 4096 h))
    ∙ ap {B = Option Sofar} (λ (b : Bool). takes_one (top_with fs F true b) l) (is_below (length fs) 15 k)
    ∙ ap (λ (o : Option Sofar). elim o [ none ↦ takes_one (main_line fs F ∷ []) l | some a ↦ some a ]) t

top_main : (S : Scope) (fs : List Function) (F : List ℕ) → takes_one (lines (sofar (state S (some fs) [] F))) (main ∷ []) ≡ some (main_begun fs F)
top_main S fs F = go (leb (12 + length F) 4096) (ltb (length fs) 15)
  where
    go : (a b : Bool) → takes_one (top_with fs F a b) (main ∷ []) ≡ some (main_begun fs F)
    go true true = refl
    go true false = refl
    go false b = refl

abbrev RanFunctions : Sofar → List Line → List Function → List ℕ → Type 0
RanFunctions p ls fs F = (S : Scope) × (q : Sofar) × (run (sofar p) ls ≡ some (sofar q)) × Closes q (state S (some fs) [] F)

run_functions : (gs : List RawFunction) (fs : List Function) → GoodFunctions fs gs → (S : Scope) (F : List ℕ) (p : Sofar)
    → Closes p (state S (some fs) [] F) → length fs + length gs ≤ 15
    → 8 + length F + length (functions_bytes gs) ≤ 4096 → RanFunctions p (raw_functions (length fs) gs) (fs ++ heads gs) (F ++ functions_bytes gs)
run_functions [] fs g S F p c n l = (
  S,
  p,
  refl,
  subst (λ (z : List ℕ). Closes p (state S (some (fs ++ [])) [] z)) (sym (append-nil F))
      (subst (λ (z : List Function). Closes p (state S (some z) [] F)) (sym (append-nil fs)) c),
)
run_functions (f ∷ gs) fs (a_function hk hm hl body rest) S F p c n l =
    let k : ℕ = f.k in
    let m : ℕ = f.m in
    let fs' : List Function = fs ++ (head_of k m ∷ []) in
    let bb : List ℕ = raws_bytes f.body in
    let F' : List ℕ = (F ++ (f.k ∷ f.m ∷ [])) ++ sized bb in
    let B : Opened = record { before = F ++ (f.k ∷ f.m ∷ []); due = false } in
    let T : Scope = record { places = f.k; earlier = fs } in
    let lf : length (fs ++ (head_of k m ∷ [])) ≡ length fs + 1 = length-append fs (head_of k m ∷ []) in
    let l₁ : length (F ++ (f.k ∷ f.m ∷ [])) ≡ length F + 2 = length-append F (f.k ∷ f.m ∷ []) in
    let l₂ = length_sized (F ++ (f.k ∷ f.m ∷ [])) bb in
    let l₃ = sized_length bb (functions_bytes gs) in
    let line : Line = head_line (length fs) k m in
    let s₁ =
    closes_takes p (state S (some fs) [] F) c 0 (omega arith) 0x66 (0x75 ∷ 0x6E ∷ 0x63 ∷ 0x74 ∷ 0x69 ∷ 0x6F ∷ 0x6E ∷ [])
    (decimal (length fs) ∷ locations ∷ decimal k ∷ arguments ∷ decimal m ∷ [])
    ∙ top_function S fs F line (function_begun fs F k m) (omega arith) (omega arith) (function_taken fs F k m hk hm hl) in
    let R = run_raws T (some fs') 7 f.body body B [] [] (omega arith) (omega arith) in
    let C : Closes R.0 (state T (some fs') [] F') = closed T (some fs') B [] bb R.2 refl refl in
    let Q = run_functions gs fs' rest T F' R.0 C (omega arith) (omega arith) in
    let i : length fs' ≡ suc (length fs) = omega (arith, lf) in (
      Q.0,
      Q.1,
      run_next (sofar p) line (raws_lines 1 f.body ++ raw_functions (suc (length fs)) gs) (function_begun fs F k m) s₁
          ∙ run_on (sofar (function_begun fs F k m)) (sofar R.0) (raws_lines 1 f.body) (raw_functions (suc (length fs)) gs) R.1
          ∙ ap (λ (j : ℕ). run (sofar R.0) (raw_functions j gs)) (sym i) ∙ Q.2,
      subst (λ (z : List ℕ). Closes Q.1 (state Q.0 (some (fs ++ (head_of k m ∷ heads gs))) [] z))
          (append_assoc (F ++ (f.k ∷ f.m ∷ [])) (sized bb) (functions_bytes gs) ∙ append_assoc F (f.k ∷ f.m ∷ []) (sized bb ++ functions_bytes gs))
          (subst (λ (z : List Function). Closes Q.1 (state Q.0 (some z) [] (F' ++ functions_bytes gs))) (append_assoc fs (head_of k m ∷ []) (heads gs))
          Q.3),
    )

pub length_heads : (gs : List RawFunction) → length (heads gs) ≡ length gs
length_heads [] = refl
length_heads (g ∷ gs) = ap suc (length_heads gs)

pub runs : Runs
runs q g =
    let gs : List RawFunction = q.functions in
    let mb : List ℕ = raws_bytes q.main in
    let F : List ℕ = functions_bytes gs in
    let lp = length_sized F mb in
    let sh : length (program_bytes q) ≤ 4096 = g.short in
    let R = run_functions gs [] g.functions (record { places = 0; earlier = [] }) [] program_begun same (omega (arith, g.few)) (omega arith) in
    let M : Scope = record { places = 256; earlier = heads gs } in
    let B : Opened = record { before = functions_bytes gs; due = false } in
    let s₁ = closes_takes R.1 (state R.0 (some (heads gs)) [] F) R.3 0 (omega arith) 0x6D (0x61 ∷ 0x69 ∷ 0x6E ∷ []) []
    ∙ top_main R.0 (heads gs) F in
    let Q = run_raws M none 7 q.main g.main B [] [] (omega arith) (omega arith) in
    let C = closed M none B [] mb Q.2 refl refl in (
      sofar Q.0,
      run_on (sofar program_begun) (sofar R.1) (raw_functions 0 gs) ((main ∷ []) ∷ raws_lines 1 q.main) R.2
          ∙ run_next (sofar R.1) (main ∷ []) (raws_lines 1 q.main) (main_begun (heads gs) F) s₁ ∙ Q.1,
      closes_file Q.0 (state M none [] (functions_bytes gs ++ sized mb)) C
          ∙ ap (λ (n : ℕ). some (header n ++ (functions_bytes gs ++ sized mb))) (length_heads gs),
    )
