-- A listing has at most sixteen characters for each byte of its program: an indent of at most sixteen, a name of at most seven letters, words of at most
-- three, and every statement has an operand. So it has at most 65,536.
use mathlib.Core.Bool.{Bool, true, false, ◌&&◌}
use mathlib.Core.List.{List, [], ◌∷◌, ◌++◌, append_assoc, append-nil, map}
use mathlib.Core.Option.{some}
use mathlib.Core.Path.{◌≡◌, refl, sym, ap, subst, ◌∙◌}
use native.Mathlib.Omega.{arith}
use Prim.Native.Nat.{ℕ, zero, suc, ◌+◌, ◌*◌, ◌≤◌}
use lib.Dec.{ltb, leb}
use lib.ListN.{get_or, length, length-append}
use Rattle.answers.specs.Check.{ok}
use Rattle.rules.specs.declared.statements.Operand.{Operand}
use Rattle.rules.specs.declared.statements.Operand.TheVariants.{Slot, Location, Gate, Basis, Value, Callee, CalleeK, CalleeM, Nothing}
use Rattle.rules.specs.Basics.{all, chosen}
use Rattle.rules.specs.Syntax.{Function, Program}
use Rattle.rules.specs.Words.{Text, space, newline, behind, join, written, decimal}
use Rattle.rules.specs.Names.{gates, program, function, locations, arguments, main, else, at, with}
use Rattle.rules.specs.Table.{Row, row_of, name_of}
use Rattle.rules.specs.Program.{Scope, read_program}
use Rattle.rules.specs.Listing.{spoken, silent, Line, indented, listed, operands_in, program_lines}
use Rattle.rules.specs.Unlisting.{sized}
use Rattle.rules.proofs.Tests.{at_most}
use Rattle.trips.specs.Trips.{Short}
use Rattle.trips.proofs.Rows.{row_some, name_short}
use Rattle.trips.proofs.Reading.{listing_of}
use Rattle.trips.proofs.Offered.{digits}
use Rattle.trips.proofs.Raw.{length_sized, sized_length, Raw, plain, called, fork, loop, Raws, end, ◌then◌, raw_bytes, raws_bytes, said, raw_line}
use Rattle.trips.proofs.Raw.{raw_lines, raws_lines, Operands, operands_length, Good, good_plain, good_called, good_fork, good_loop, Goods, good_then}
use Rattle.trips.proofs.Raw.{RawFunction, RawProgram, head_of, heads, functions_bytes, program_bytes, raw_functions, raw_program_lines, GoodFunctions}
use Rattle.trips.proofs.Raw.{a_function, GoodProgram}
use Rattle.trips.proofs.Parsed.{reads}

-- the characters of a line, with its newline
abbrev weight : Line → ℕ
weight [] = 0
weight (w ∷ ws) = suc (length w + weight ws)

length_behind : (ws : List Text) → length (behind space ws) ≡ weight ws
length_behind [] = refl
length_behind (w ∷ ws) = omega (arith, length-append w (behind space ws), length_behind ws)

length_line : (w : Text) (ws : List Text) (t : Text) → length (join space (w ∷ ws) ++ (newline ∷ t)) ≡ weight (w ∷ ws) + length t
length_line w ws t = omega (arith, length-append (w ++ behind space ws) (newline ∷ t), length-append w (behind space ws), length_behind ws)

weight_append : (l m : Line) → weight (l ++ m) ≡ weight l + weight m
weight_append [] m = omega arith
weight_append (w ∷ l) m = let r : weight (l ++ m) ≡ weight l + weight m = weight_append l m in omega arith

weight_indented : (n : ℕ) (l : Line) → weight (indented n l) ≡ n + n + weight l
weight_indented zero l = omega arith
weight_indented (suc n) l = let r : weight (indented n l) ≡ n + n + weight l = weight_indented n l in omega arith

-- an indented line that has a word
length_indented : (n : ℕ) (w : Text) (ws : List Text) (t : Text)
    → length (join space (indented n (w ∷ ws)) ++ (newline ∷ t)) ≡ n + n + weight (w ∷ ws) + length t
length_indented zero w ws t = length_line w ws t ∙ (let z : weight (w ∷ ws) + length t ≡ 0 + 0 + weight (w ∷ ws) + length t = omega arith in z)
length_indented (suc n) w ws t = let r = weight_indented n (w ∷ ws) in length_line [] ([] ∷ indented n (w ∷ ws)) t ∙ omega arith

short_decimal : (n : ℕ) → length (decimal n) ≤ 3
short_decimal n = go (ltb n 10) (ltb n 100)
  where
    go : (a b : Bool) → length (digits n a b) ≤ 3
    go true b = omega arith
    go false true = omega arith
    go false false = omega arith

short_gate : (l : List Text) → all (λ w. leb (length w) 3) l ≡ true → (i : ℕ) → length (get_or l i []) ≤ 3
short_gate [] h zero = omega arith
short_gate [] h (suc i) = omega arith
short_gate (w ∷ l) h zero = go (leb (length w) 3) refl h
  where
    go : (b : Bool) → leb (length w) 3 ≡ b → (b && all (λ w. leb (length w) 3) l) ≡ true → length w ≤ 3
    go true e k = at_most (length w) 3 e
    go false e k = let z : ◌≡◌ {A = ℕ} 0 1 = cc in absurd (omega arith)
short_gate (w ∷ l) h (suc i) = go (leb (length w) 3) h (λ k. short_gate l k i)
  where
    go : (b : Bool) → (b && all (λ w. leb (length w) 3) l) ≡ true → (all (λ w. leb (length w) 3) l ≡ true → length (get_or l i []) ≤ 3)
        → length (get_or l i []) ≤ 3
    go true k rec = rec k
    go false k rec = let z : ◌≡◌ {A = ℕ} 0 1 = cc in absurd (omega arith)

short_spoken : (o : Operand) (x : ℕ) → length (spoken o x) ≤ 3
short_spoken Slot x = short_decimal x
short_spoken Location x = short_decimal x
short_spoken Gate x = short_gate gates refl x
short_spoken Basis x = short_gate gates refl x
short_spoken Value x = short_decimal x
short_spoken Callee x = short_decimal x
short_spoken CalleeK x = omega arith
short_spoken CalleeM x = omega arith
short_spoken Nothing x = omega arith

weight_said : (os : List Operand) (xs : List ℕ) → weight (said os xs) ≤ 4 * length xs
weight_said [] xs = omega arith
weight_said (o ∷ os) [] = omega arith
weight_said (o ∷ os) (x ∷ xs) = go (silent o) (weight_said os xs) (short_spoken o x)
  where
    go : (b : Bool) → weight (said os xs) ≤ 4 * length xs → length (spoken o x) ≤ 3
        → weight (chosen b (said os xs) (spoken o x ∷ said os xs)) ≤ 4 * suc (length xs)
    go true h k = omega arith
    go false h k = omega arith

weight_decimals : (xs : List ℕ) → weight (map decimal xs) ≤ 4 * length xs
weight_decimals [] = omega arith
weight_decimals (x ∷ xs) = let h = weight_decimals xs in let k = short_decimal x in omega arith

weight_listed : (w : Text) → length w ≤ 4 → (xs : List ℕ) → weight (listed w xs) ≤ 9 * length xs
weight_listed w l [] = omega arith
weight_listed w l (x ∷ xs) = let h = weight_decimals xs in let k = short_decimal x in omega arith

weight_row : (S : Scope) (b : ℕ) (r : Row) → row_of b ≡ some r → (xs : List ℕ) → Operands S r.operands xs
    → (weight (raw_line b xs) ≤ 8 + 4 * length xs) × (1 ≤ length xs)
weight_row S b r e xs o =
    let n : length (name_of b) ≤ 7 = name_short b r e in
    let w : weight (said (operands_in (row_of b)) xs) ≤ 4 * length xs = weight_said (operands_in (row_of b)) xs in
    let l : length xs ≡ length r.operands = operands_length S r.operands xs o in
    let m : 1 ≤ length r.operands = row_some b r e in
    (omega arith, omega arith)

mutual
  raw_short : (S : Scope) (d : ℕ) (r : Raw) → Good S d r → (n : ℕ) → n + d ≤ 8 → (t : List Line)
      → length (written (raw_lines n r ++ t)) ≤ 16 * length (raw_bytes r) + length (written t)
  raw_short S zero (fork b xs q u) given n l t = elim given [ ]
  raw_short S zero (loop b xs q) given n l t = elim given [ ]
  raw_short S d (plain b xs) (good_plain r f row m o) n l t =
      let w : (weight (raw_line b xs) ≤ 8 + 4 * length xs) × (1 ≤ length xs) = weight_row S b r row xs o in
      let e = length_indented n (name_of b) (said (operands_in (row_of b)) xs) (written t) in
      omega (arith, w.0, w.1)
  raw_short S d (called b xs ls ms) (good_called r row m o hl hm) n l t =
      let w : (weight (raw_line b xs) ≤ 8 + 4 * length xs) × (1 ≤ length xs) = weight_row S b r row xs o in
      let e = length_indented n (name_of b) (said (operands_in (row_of b)) xs ++ (listed at ls ++ listed with ms)) (written t) in
      let w₁ = weight_append (raw_line b xs) (listed at ls ++ listed with ms) in
      let w₂ : weight (listed at ls ++ listed with ms) ≡ weight (listed at ls) + weight (listed with ms) = weight_append (listed at ls) (listed with ms) in
      let w₃ : weight (listed at ls) ≤ 9 * length ls = weight_listed at (omega arith) ls in
      let w₄ : weight (listed with ms) ≤ 9 * length ms = weight_listed with (omega arith) ms in
      let l₁ : length (xs ++ (ls ++ ms)) ≡ length xs + length (ls ++ ms) = length-append xs (ls ++ ms) in
      let l₂ : length (ls ++ ms) ≡ length ls + length ms = length-append ls ms in
      omega (arith, w.0, w.1)
  raw_short S (suc d) (loop b xs q) (good_loop r row m o gq) n l t =
      let w : (weight (raw_line b xs) ≤ 8 + 4 * length xs) × (1 ≤ length xs) = weight_row S b r row xs o in
      let i : length (written (raws_lines (suc n) q ++ t)) ≤ 16 * length (raws_bytes q) + length (written t) = raws_short S d q gq (suc n) (omega arith) t in
      let e = length_indented n (name_of b) (said (operands_in (row_of b)) xs) (written (raws_lines (suc n) q ++ t)) in
      let l₁ : length (xs ++ sized (raws_bytes q)) ≡ length xs + suc (suc (length (raws_bytes q))) = length_sized xs (raws_bytes q) in
      omega (arith, w.0, w.1)
  raw_short S (suc d) (fork b xs q u) (good_fork r row m o gq gu) n l t =
      let w : (weight (raw_line b xs) ≤ 8 + 4 * length xs) × (1 ≤ length xs) = weight_row S b r row xs o in
      let j : length (written (raws_lines (suc n) u ++ t)) ≤ 16 * length (raws_bytes u) + length (written t) = raws_short S d u gu (suc n) (omega arith) t in
      let E : List Line = indented n (else ∷ []) ∷ (raws_lines (suc n) u ++ t) in
      let i = raws_short S d q gq (suc n) (omega arith) E in
      let f = length_indented n else [] (written (raws_lines (suc n) u ++ t)) in
      let e = length_indented n (name_of b) (said (operands_in (row_of b)) xs) (written (raws_lines (suc n) q ++ E)) in
      let l₁ = length-append xs (sized (raws_bytes q) ++ sized (raws_bytes u)) in
      let l₂ = length_sized (sized (raws_bytes q)) (raws_bytes u) in
      let a =
      ap (λ (z : List Line). indented n (raw_line b xs) ∷ z) (append_assoc (raws_lines (suc n) q) (indented n (else ∷ []) ∷ raws_lines (suc n) u) t) in
      let c = ap (λ (z : List Line). length (written z)) a in
      let k : length (written (indented n (raw_line b xs) ∷ (raws_lines (suc n) q ++ E))) ≤ 16 * length (raw_bytes (fork b xs q u)) + length (written t) =
      omega (arith, w.0, w.1) in
      subst (λ (z : ℕ). z ≤ 16 * length (raw_bytes (fork b xs q u)) + length (written t)) (sym c) k

  raws_short : (S : Scope) (d : ℕ) (rs : Raws) → Goods S d rs → (n : ℕ) → n + d ≤ 8 → (t : List Line)
      → length (written (raws_lines n rs ++ t)) ≤ 16 * length (raws_bytes rs) + length (written t)
  raws_short S d end g n l t = omega arith
  raws_short S d (r then rs) (good_then g gs) n l t =
      let i = raw_short S d r g n l (raws_lines n rs ++ t) in
      let j : length (written (raws_lines n rs ++ t)) ≤ 16 * length (raws_bytes rs) + length (written t) = raws_short S d rs gs n l t in
      let c = ap (λ (z : List Line). length (written z)) (append_assoc (raw_lines n r) (raws_lines n rs) t) in
      let e : length (raw_bytes r ++ raws_bytes rs) ≡ length (raw_bytes r) + length (raws_bytes rs) = length-append (raw_bytes r) (raws_bytes rs) in
      omega arith

functions_short : (gs : List RawFunction) (hs : List Function) → GoodFunctions hs gs → (i : ℕ) (t : List Line)
    → length (written (raw_functions i gs ++ t)) ≤ 16 * length (functions_bytes gs) + length (written t)
functions_short [] hs g i t = omega arith
functions_short (f ∷ gs) hs (a_function hk hm hl body rest) i t =
    let a = functions_short gs (hs ++ (head_of f.k f.m ∷ [])) rest (suc i) t in
    let b = raws_short (record { places = f.k; earlier = hs }) 7 f.body body 1 (omega arith) (raw_functions (suc i) gs ++ t) in
    let c = ap (λ (z : List Line). length (written z)) (append_assoc (raws_lines 1 f.body) (raw_functions (suc i) gs) t) in
    let e =
    length_line function (decimal i ∷ locations ∷ decimal f.k ∷ arguments ∷ decimal f.m ∷ [])
    (written ((raws_lines 1 f.body ++ raw_functions (suc i) gs) ++ t)) in
    let z = sized_length (raws_bytes f.body) (functions_bytes gs) in
    omega (arith, short_decimal i, short_decimal f.k, short_decimal f.m)

program_short : (q : RawProgram) → GoodProgram q → length (written (raw_program_lines q)) ≤ 16 * length (program_bytes q)
program_short q g =
    let M : List Line = (main ∷ []) ∷ raws_lines 1 q.main in
    let a = functions_short q.functions [] g.functions 0 M in
    let b = raws_short (record { places = 256; earlier = heads q.functions }) 7 q.main g.main 1 (omega arith) [] in
    let c = ap (λ (z : List Line). length (written z)) (append-nil (raws_lines 1 q.main)) in
    let d = length_line main [] (written (raws_lines 1 q.main)) in
    let e = length_line program (decimal 1 ∷ []) (written (raw_functions 0 q.functions ++ M)) in
    let f = length_sized (functions_bytes q.functions) (raws_bytes q.main) in
    omega arith

pub short : Short
short s t y h =
    let l : (p : Program) × (read_program s ≡ ok p) × (t ≡ written (program_lines s p)) = listing_of s t h in
    let r : (q : RawProgram) × GoodProgram q × (program_bytes q ≡ s) × (raw_program_lines q ≡ program_lines s l.0) = reads s l.0 y l.1 in
    let a : length (written (raw_program_lines r.0)) ≤ 16 * length (program_bytes r.0) = program_short r.0 r.1 in
    let b : length (program_bytes r.0) ≤ 4096 = r.1.short in
    let c : length t ≡ length (written (raw_program_lines r.0)) = ap length (l.2 ∙ ap written (sym r.3)) in
    omega arith
