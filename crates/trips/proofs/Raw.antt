-- Programs as raw trees: a statement is its byte and operand bytes, and its blocks. Their bytes and their lines; and the one law by which the operands of
-- any row are written and taken.
use mathlib.Core.Bool.{Bool, true, false}
use mathlib.Core.List.{List, [], ◌∷◌, ◌++◌, map}
use mathlib.Core.Option.{none, some}
use mathlib.Core.Path.{◌≡◌, refl, sym, ap, subst, ◌∙◌}
use native.Mathlib.Omega.{arith}
use Prim.Native.Nat.{ℕ, zero, suc, ◌+◌, ◌<◌, ◌≤◌}
use lib.ListN.{get_or, length, length-append, replicate}
use Rattle.answers.specs.Check.{ok}
use Rattle.rules.specs.declared.statements.Operand.{Operand}
use Rattle.rules.specs.declared.statements.Operand.TheVariants.{Slot, Location, Gate, Basis, Value, Callee, CalleeK, CalleeM, Nothing}
use Rattle.rules.specs.Basics.{chosen}
use Rattle.rules.specs.Syntax as syntax
use Rattle.rules.specs.Syntax.{Side, Op, Function, Program, block, done}
use Rattle.rules.specs.Words.{Text, decimal, place}
use Rattle.rules.specs.Names.{program, main, else, at, with}
use Rattle.rules.specs.Table.{simple, branches, loops, calls, Row, row_of, name_of}
use Rattle.rules.specs.Program.{Scope, read_program}
use Rattle.rules.specs.Listing.{head_line, spoken, silent, Line, indented, listed, operands_in, program_lines}
use Rattle.rules.specs.Grammar.{Grammar, ask, takes}
use Rattle.rules.specs.Unlisting.{count, words_for, State, fresh, file, header, sized, operand, others, operands, list}
use Rattle.rules.proofs.Basics.{length_up_to, get_d_up_to_zero}
use Rattle.trips.specs.Trips.{Bytes}
use Rattle.trips.proofs.Grammars.{none_not_some, word_same, place_found, takes_next, took}
use Rattle.trips.proofs.Reading.{run, Forth, Back}
use Rattle.trips.proofs.Offered.{place_numbered, apart_spoken}

mutual
  pub data Raw : Type 0 where
    plain : ℕ → List ℕ → Raw
    called : ℕ → List ℕ → List ℕ → List ℕ → Raw
    fork : ℕ → List ℕ → Raws → Raws → Raw
    loop : ℕ → List ℕ → Raws → Raw

  pub data Raws : Type 0 where
    end : Raws
    ◌then◌ : Raw → Raws → Raws

infixr 50 ◌then◌
abbrev mutual
  pub raw_bytes : Raw → List ℕ
  raw_bytes (plain b xs) = b ∷ xs
  raw_bytes (called b xs ls ms) = b ∷ (xs ++ (ls ++ ms))
  raw_bytes (fork b xs r q) = b ∷ (xs ++ (sized (raws_bytes r) ++ sized (raws_bytes q)))
  raw_bytes (loop b xs r) = b ∷ (xs ++ sized (raws_bytes r))

  pub raws_bytes : Raws → List ℕ
  raws_bytes end = []
  raws_bytes (r then rs) = raw_bytes r ++ raws_bytes rs

-- lengths where a block stands behind bytes, or in front of them
pub length_sized : (xs bs : List ℕ) → length (xs ++ sized bs) ≡ length xs + suc (suc (length bs))
length_sized xs bs = length-append xs (sized bs)

pub sized_length : (bs ys : List ℕ) → length (sized bs ++ ys) ≡ suc (suc (length bs)) + length ys
sized_length bs ys = length-append (sized bs) ys

-- operand bytes as words
abbrev pub said : List Operand → List ℕ → Line
said [] xs = []
said (o ∷ os) [] = []
said (o ∷ os) (x ∷ xs) = chosen (silent o) (said os xs) (spoken o x ∷ said os xs)

abbrev pub raw_line : ℕ → List ℕ → Line
raw_line b xs = name_of b ∷ said (operands_in (row_of b)) xs

abbrev mutual
  pub raw_lines : ℕ → Raw → List Line
  raw_lines n (plain b xs) = indented n (raw_line b xs) ∷ []
  raw_lines n (called b xs ls ms) = indented n (raw_line b xs ++ (listed at ls ++ listed with ms)) ∷ []
  raw_lines n (fork b xs r q) = indented n (raw_line b xs) ∷ (raws_lines (suc n) r ++ (indented n (else ∷ []) ∷ raws_lines (suc n) q))
  raw_lines n (loop b xs r) = indented n (raw_line b xs) ∷ raws_lines (suc n) r

  pub raws_lines : ℕ → Raws → List Line
  raws_lines n end = []
  raws_lines n (r then rs) = raw_lines n r ++ raws_lines n rs

-- an operand byte in a scope, where f is the first of its statement
abbrev pub Within : Scope → ℕ → Operand → ℕ → Type 0
Within S f Slot x = x < 32
Within S f Location x = x < S.places
Within S f Gate x = x < 4
Within S f Basis x = x < 2
Within S f Value x = x < 2
Within S f Callee x = x < length S.earlier
Within S f CalleeK x = (syntax.function S.earlier f).k ≡ x
Within S f CalleeM x = (syntax.function S.earlier f).m ≡ x
Within S f Nothing x = 0 ≡ x

abbrev pub Ranged : Scope → ℕ → List Operand → List ℕ → Type 0
Ranged S f [] [] = Unit {0}
Ranged S f [] (x ∷ xs) = ⊥
Ranged S f (o ∷ os) [] = ⊥
Ranged S f (o ∷ os) (x ∷ xs) = Within S f o x × Ranged S f os xs

-- the operands of a statement
abbrev pub Operands : Scope → List Operand → List ℕ → Type 0
Operands S [] [] = Unit {0}
Operands S [] (x ∷ xs) = ⊥
Operands S (o ∷ os) [] = ⊥
Operands S (o ∷ os) (x ∷ xs) = Within S 0 o x × Ranged S x os xs

pub ranged_length : (S : Scope) (f : ℕ) (os : List Operand) (xs : List ℕ) → Ranged S f os xs → length xs ≡ length os
ranged_length S f [] [] h = refl
ranged_length S f [] (x ∷ xs) h = absurd h
ranged_length S f (o ∷ os) [] h = absurd h
ranged_length S f (o ∷ os) (x ∷ xs) h = ap suc (ranged_length S f os xs h.1)

pub operands_length : (S : Scope) (os : List Operand) (xs : List ℕ) → Operands S os xs → length xs ≡ length os
operands_length S [] [] h = refl
operands_length S [] (x ∷ xs) h = absurd h
operands_length S (o ∷ os) [] h = absurd h
operands_length S (o ∷ os) (x ∷ xs) h = ap suc (ranged_length S x os xs h.1)

chosen_append : (b : Bool) (w : Text) (us vs : List Text) → chosen b us (w ∷ us) ++ vs ≡ chosen b (us ++ vs) (w ∷ (us ++ vs))
chosen_append true w us vs = refl
chosen_append false w us vs = refl

-- The law, for one operand that is written, for any operand, for operands in a row.
module _ {A : Type 0} (S : Scope) where
  asked : (o : Operand) (k : ℕ → Grammar A) (x : ℕ) → x < count S o → (ws : List Text)
      → takes (ask none (words_for S o) k) (spoken o x ∷ ws) ≡ takes (k x) ws
  asked o k x l ws = takes_next none (words_for S o) k (spoken o x) ws x (place_numbered (count S o) (spoken o) (apart_spoken S o) x l)

  abbrev Heard : ℕ → Operand → (ℕ → Grammar A) → List Text → A → Type 0
  Heard f o k ws a = (x : ℕ) × (vs : List Text) × (ws ≡ chosen (silent o) vs (spoken o x ∷ vs)) × Within S f o x × (takes (k x) vs ≡ some a)

  heard : (o : Operand) (k : ℕ → Grammar A) (ws : List Text) (a : A) → takes (ask none (words_for S o) k) ws ≡ some a
      → (x : ℕ) × (vs : List Text) × (ws ≡ spoken o x ∷ vs) × (x < count S o) × (takes (k x) vs ≡ some a)
  heard o k [] a h = none_not_some h
  heard o k (w ∷ ws) a h =
      let r : (i : ℕ) × (place w (words_for S o) ≡ some i) × (takes (k i) ws ≡ some a) = took none (words_for S o) k w ws a h in
      let f : (get_or (words_for S o) r.0 [] ≡ w) × (r.0 < length (words_for S o)) = place_found w (words_for S o) r.0 r.1 in
      let l : r.0 < count S o = subst (λ (n : ℕ). r.0 < n) (length_up_to 0 (count S o) (spoken o)) f.1 in
      (r.0, ws, ap (λ (v : Text). v ∷ ws) (sym f.0 ∙ get_d_up_to_zero (count S o) r.0 (spoken o) [] l), l, r.2)

  takes_operand : (f : ℕ) (o : Operand) (k : ℕ → Grammar A) (x : ℕ) → Within S f o x → (ws : List Text)
      → takes (operand S f o k) (chosen (silent o) ws (spoken o x ∷ ws)) ≡ takes (k x) ws
  takes_operand f Slot k x h ws = asked Slot k x h ws
  takes_operand f Location k x h ws = asked Location k x h ws
  takes_operand f Gate k x h ws = asked Gate k x h ws
  takes_operand f Basis k x h ws = asked Basis k x h ws
  takes_operand f Value k x h ws = asked Value k x h ws
  takes_operand f Callee k x h ws = asked Callee k x h ws
  takes_operand f CalleeK k x h ws = ap (λ (y : ℕ). takes (k y) ws) h
  takes_operand f CalleeM k x h ws = ap (λ (y : ℕ). takes (k y) ws) h
  takes_operand f Nothing k x h ws = ap (λ (y : ℕ). takes (k y) ws) h

  took_operand : (f : ℕ) (o : Operand) (k : ℕ → Grammar A) (ws : List Text) (a : A) → takes (operand S f o k) ws ≡ some a → Heard f o k ws a
  took_operand f Slot k ws a h = heard Slot k ws a h
  took_operand f Location k ws a h = heard Location k ws a h
  took_operand f Gate k ws a h = heard Gate k ws a h
  took_operand f Basis k ws a h = heard Basis k ws a h
  took_operand f Value k ws a h = heard Value k ws a h
  took_operand f Callee k ws a h = heard Callee k ws a h
  took_operand f CalleeK k ws a h = ((syntax.function S.earlier f).k, ws, refl, refl, h)
  took_operand f CalleeM k ws a h = ((syntax.function S.earlier f).m, ws, refl, refl, h)
  took_operand f Nothing k ws a h = (0, ws, refl, refl, h)

  takes_others : (f : ℕ) (os : List Operand) (k : List ℕ → Grammar A) (xs : List ℕ) → Ranged S f os xs → (ws : List Text)
      → takes (others S f os k) (said os xs ++ ws) ≡ takes (k xs) ws
  takes_others f [] k [] h ws = refl
  takes_others f [] k (x ∷ xs) h ws = absurd h
  takes_others f (o ∷ os) k [] h ws = absurd h
  takes_others f (o ∷ os) k (x ∷ xs) h ws =
      ap (takes (operand S f o λ b. others S f os λ bs. k (b ∷ bs))) (chosen_append (silent o) (spoken o x) (said os xs) ws)
      ∙ takes_operand f o (λ b. others S f os λ bs. k (b ∷ bs)) x h.0 (said os xs ++ ws) ∙ takes_others f os (λ bs. k (x ∷ bs)) xs h.1 ws

  abbrev HeardAll : ℕ → List Operand → (List ℕ → Grammar A) → List Text → A → Type 0
  HeardAll f os k ws a = (xs : List ℕ) × (vs : List Text) × (ws ≡ said os xs ++ vs) × Ranged S f os xs × (takes (k xs) vs ≡ some a)

  took_others : (f : ℕ) (os : List Operand) (k : List ℕ → Grammar A) (ws : List Text) (a : A) → takes (others S f os k) ws ≡ some a
      → HeardAll f os k ws a
  took_others f [] k ws a h = ([], ws, refl, tt, h)
  took_others f (o ∷ os) k ws a h =
      let r : Heard f o (λ b. others S f os λ bs. k (b ∷ bs)) ws a = took_operand f o (λ b. others S f os λ bs. k (b ∷ bs)) ws a h in
      let q : HeardAll f os (λ bs. k (r.0 ∷ bs)) r.1 a = took_others f os (λ bs. k (r.0 ∷ bs)) r.1 a r.4 in (
        r.0 ∷ q.0,
        q.1,
        r.2 ∙ ap (λ (v : List Text). chosen (silent o) v (spoken o r.0 ∷ v)) q.2
            ∙ sym (chosen_append (silent o) (spoken o r.0) (said os q.0) q.1),
        (r.3, q.3),
        q.4,
      )

  pub takes_operands : (os : List Operand) (k : List ℕ → Grammar A) (xs : List ℕ) → Operands S os xs → (ws : List Text)
      → takes (operands S os k) (said os xs ++ ws) ≡ takes (k xs) ws
  takes_operands [] k [] h ws = refl
  takes_operands [] k (x ∷ xs) h ws = absurd h
  takes_operands (o ∷ os) k [] h ws = absurd h
  takes_operands (o ∷ os) k (x ∷ xs) h ws =
      ap (takes (operand S 0 o λ b. others S b os λ bs. k (b ∷ bs))) (chosen_append (silent o) (spoken o x) (said os xs) ws)
      ∙ takes_operand 0 o (λ b. others S b os λ bs. k (b ∷ bs)) x h.0 (said os xs ++ ws) ∙ takes_others x os (λ bs. k (x ∷ bs)) xs h.1 ws

  abbrev Said : List Operand → (List ℕ → Grammar A) → List Text → A → Type 0
  Said os k ws a = (xs : List ℕ) × (vs : List Text) × (ws ≡ said os xs ++ vs) × Operands S os xs × (takes (k xs) vs ≡ some a)

  pub took_operands : (os : List Operand) (k : List ℕ → Grammar A) (ws : List Text) (a : A) → takes (operands S os k) ws ≡ some a → Said os k ws a
  took_operands [] k ws a h = ([], ws, refl, tt, h)
  took_operands (o ∷ os) k ws a h =
      let r : Heard 0 o (λ b. others S b os λ bs. k (b ∷ bs)) ws a = took_operand 0 o (λ b. others S b os λ bs. k (b ∷ bs)) ws a h in
      let q : HeardAll r.0 os (λ bs. k (r.0 ∷ bs)) r.1 a = took_others r.0 os (λ bs. k (r.0 ∷ bs)) r.1 a r.4 in (
        r.0 ∷ q.0,
        q.1,
        r.2 ∙ ap (λ (v : List Text). chosen (silent o) v (spoken o r.0 ∷ v)) q.2
            ∙ sym (chosen_append (silent o) (spoken o r.0) (said os q.0) q.1),
        (r.3, q.3),
        q.4,
      )

-- operands of one kind that is written in decimal
said_alike : (S : Scope) (f : ℕ) (o : Operand) → silent o ≡ false → ((x : ℕ) → spoken o x ≡ decimal x) → (n : ℕ) (xs : List ℕ)
    → Ranged S f (replicate n o) xs → said (replicate n o) xs ≡ map decimal xs
said_alike S f o e d zero [] h = refl
said_alike S f o e d zero (x ∷ xs) h = absurd h
said_alike S f o e d (suc n) [] h = absurd h
said_alike S f o e d (suc n) (x ∷ xs) h =
    ap (λ (b : Bool). chosen b (said (replicate n o) xs) (spoken o x ∷ said (replicate n o) xs)) e
    ∙ ap (λ (w : Text). w ∷ said (replicate n o) xs) (d x) ∙ ap (λ (r : List Text). decimal x ∷ r) (said_alike S f o e d n xs h.1)

module _ {A : Type 0} (S : Scope) (w : Text) (o : Operand) (e : silent o ≡ false) (d : (x : ℕ) → spoken o x ≡ decimal x) where
  pub takes_list : (n : ℕ) (k : List ℕ → Grammar A) (xs : List ℕ) → Ranged S 0 (replicate n o) xs → (ws : List Text)
      → takes (list S w o n k) (listed w xs ++ ws) ≡ takes (k xs) ws
  takes_list zero k [] h ws = refl
  takes_list zero k (x ∷ xs) h ws = absurd h
  takes_list (suc n) k [] h ws = absurd h
  takes_list (suc n) k (x ∷ xs) h ws =
      takes_next none (w ∷ []) (λ i. others S 0 (replicate (suc n) o) k) w (map decimal (x ∷ xs) ++ ws) 0
      (ap (λ (b : Bool). elim b [ true ↦ some 0 | false ↦ none ]) (word_same w))
      ∙ ap (λ (l : List Text). takes (others S 0 (replicate (suc n) o) k) (l ++ ws)) (sym (said_alike S 0 o e d (suc n) (x ∷ xs) h))
      ∙ takes_others S 0 (replicate (suc n) o) k (x ∷ xs) h ws

  abbrev Listed : ℕ → (List ℕ → Grammar A) → List Text → A → Type 0
  Listed n k ws a = (xs : List ℕ) × (vs : List Text) × (ws ≡ listed w xs ++ vs) × Ranged S 0 (replicate n o) xs × (takes (k xs) vs ≡ some a)

  pub took_list : (n : ℕ) (k : List ℕ → Grammar A) (ws : List Text) (a : A) → takes (list S w o n k) ws ≡ some a → Listed n k ws a
  took_list zero k ws a h = ([], ws, refl, tt, h)
  took_list (suc n) k [] a h = none_not_some h
  took_list (suc n) k (v ∷ ws) a h =
      let r = took none (w ∷ []) (λ i. others S 0 (replicate (suc n) o) k) v ws a h in
      let f : (get_or (w ∷ []) r.0 [] ≡ v) × (r.0 < 1) = place_found v (w ∷ []) r.0 r.1 in
      let z : 0 ≡ r.0 = omega (arith, f.1) in
      let q : HeardAll S 0 (replicate (suc n) o) k ws a = took_others S 0 (replicate (suc n) o) k ws a r.2 in
      go q.0 q.1 q.2 q.3 q.4 (ap (λ (i : ℕ). get_or (w ∷ []) i []) z ∙ f.0)
    where
      go : (xs : List ℕ) (vs : List Text) → ws ≡ said (replicate (suc n) o) xs ++ vs → Ranged S 0 (replicate (suc n) o) xs
          → takes (k xs) vs ≡ some a → w ≡ v → Listed (suc n) k (v ∷ ws) a
      go [] vs p q t g = absurd q
      go (x ∷ xs) vs p q t g = (
        x ∷ xs,
        vs,
        ap (λ (u : Text). u ∷ ws) (sym g)
            ∙ ap (λ (l : List Text). w ∷ l) (p ∙ ap (λ (l : List Text). l ++ vs) (said_alike S 0 o e d (suc n) (x ∷ xs) q)),
        q,
        t,
      )

-- Good trees in a scope, with so many depths left for the blocks inside
mutual
  pub data Good (S : Scope) : ℕ → Raw → Type 0 where
    good_plain : {d b : ℕ} {xs : List ℕ} (r : Row) (f : (s : Side) → (ℕ → ℕ) → Op s) → row_of b ≡ some r → r.meaning ≡ simple f
        → Operands S r.operands xs → Good S d (plain b xs)
    good_called : {d b : ℕ} {xs ls ms : List ℕ} (r : Row) → row_of b ≡ some r → r.meaning ≡ calls → Operands S r.operands xs
        → Ranged S 0 (replicate (get_or xs 1 0) Location) ls
        → Ranged S 0 (replicate (get_or xs 2 0) Slot) ms → Good S d (called b xs ls ms)
    good_fork : {d b : ℕ} {xs : List ℕ} {q t : Raws} (r : Row) → row_of b ≡ some r → r.meaning ≡ branches → Operands S r.operands xs
        → Goods S d q → Goods S d t → Good S (suc d) (fork b xs q t)
    good_loop : {d b : ℕ} {xs : List ℕ} {q : Raws} (r : Row) → row_of b ≡ some r → r.meaning ≡ loops → Operands S r.operands xs → Goods S d q
        → Good S (suc d) (loop b xs q)

  pub data Goods (S : Scope) : ℕ → Raws → Type 0 where
    good_end : {d : ℕ} → Goods S d end
    good_then : {d : ℕ} {r : Raw} {rs : Raws} → Good S d r → Goods S d rs → Goods S d (r then rs)

-- Programs.
pub record RawFunction : Type 0 where
  pub k : ℕ
  pub m : ℕ
  pub body : Raws

pub record RawProgram : Type 0 where
  pub functions : List RawFunction
  pub main : Raws

abbrev pub head_of : ℕ → ℕ → Function
head_of k m = record { k = k; m = m; body = block 0 done }

abbrev pub heads : List RawFunction → List Function
heads [] = []
heads (f ∷ fs) = head_of f.k f.m ∷ heads fs

abbrev pub functions_bytes : List RawFunction → List ℕ
functions_bytes [] = []
functions_bytes (f ∷ fs) = (f.k ∷ f.m ∷ sized (raws_bytes f.body)) ++ functions_bytes fs

abbrev pub program_bytes : RawProgram → List ℕ
program_bytes p = header (length p.functions) ++ (functions_bytes p.functions ++ sized (raws_bytes p.main))

abbrev pub raw_functions : ℕ → List RawFunction → List Line
raw_functions i [] = []
raw_functions i (f ∷ fs) = head_line i f.k f.m ∷ (raws_lines 1 f.body ++ raw_functions (suc i) fs)

abbrev pub raw_program_lines : RawProgram → List Line
raw_program_lines p = (program ∷ decimal 1 ∷ []) ∷ (raw_functions 0 p.functions ++ ((main ∷ []) ∷ raws_lines 1 p.main))

-- functions after those whose heads are fs
pub data GoodFunctions : List Function → List RawFunction → Type 0 where
  no_functions : {fs : List Function} → GoodFunctions fs []
  a_function : {fs : List Function} {f : RawFunction} {gs : List RawFunction} → f.k ≤ 16 → f.m ≤ 8 → f.m ≤ f.k
      → Goods (record { places = f.k; earlier = fs }) 7 f.body
      → GoodFunctions (fs ++ (head_of f.k f.m ∷ [])) gs → GoodFunctions fs (f ∷ gs)

pub record GoodProgram (p : RawProgram) : Type 0 where
  pub few : length p.functions ≤ 15
  pub functions : GoodFunctions [] p.functions
  pub main : Goods (record { places = 256; earlier = heads p.functions }) 7 p.main
  pub short : length (program_bytes p) ≤ 4096

-- The four bridges between readable files, raw trees and the reader's states.
abbrev pub Reads : Type 0
Reads =
    (s : List ℕ) (p : Program) → Bytes s → read_program s ≡ ok p
    → (q : RawProgram) × GoodProgram q × (program_bytes q ≡ s) × (raw_program_lines q ≡ program_lines s p)

abbrev pub ReadsBack : Type 0
ReadsBack =
    (q : RawProgram) → GoodProgram q → (p : Program) × (read_program (program_bytes q) ≡ ok p) × (program_lines (program_bytes q) p ≡ raw_program_lines q)
    × Bytes (program_bytes q)

abbrev pub Runs : Type 0
Runs = (q : RawProgram) → GoodProgram q → (σ : State) × (run fresh (raw_program_lines q) ≡ some σ) × (file σ ≡ some (program_bytes q))

abbrev pub RunsBack : Type 0
RunsBack = (ls : List Line) (σ : State) → run fresh ls ≡ some σ
    → (q : RawProgram) × (more : List Line) × GoodProgram q × (raw_program_lines q ≡ ls ++ more)
    × ((z : List ℕ) → file σ ≡ some z → (z ≡ program_bytes q) × (more ≡ []))

pub forth : Reads → Runs → Forth
forth reads runs s p y h =
    let r : (q : RawProgram) × GoodProgram q × (program_bytes q ≡ s) × (raw_program_lines q ≡ program_lines s p) = reads s p y h in
    let f : (σ : State) × (run fresh (raw_program_lines r.0) ≡ some σ) × (file σ ≡ some (program_bytes r.0)) = runs r.0 r.1 in
    (f.0, ap (run fresh) (sym r.3) ∙ f.1, f.2 ∙ ap some r.2)

pub back : ReadsBack → RunsBack → Back
back reads runs ls σ h =
    let b = runs ls σ h in
    let r = reads b.0 b.2 in
    (program_bytes b.0, r.0, b.1, r.1, r.2 ∙ b.3, b.4, r.3)
