-- A place in a program: the open blocks with what stands before them, and the reader's state and the lines there.
use mathlib.Core.Bool.{true, false}
use mathlib.Core.List.{List, [], ◌∷◌, ◌++◌, append_assoc, append-nil}
use mathlib.Core.Option.{Option, none, some}
use mathlib.Core.Path.{◌≡◌, refl, sym, ap, ◌∙◌}
use native.Mathlib.Nat.{zero-add}
use native.Mathlib.Omega.{arith}
use Prim.Native.Nat.{ℕ, suc, ◌+◌, ◌<◌, ◌≤◌}
use lib.ListN.{length}
use Rattle.rules.specs.Syntax.{Function}
use Rattle.rules.specs.Words.{decimal}
use Rattle.rules.specs.Names.{program, main, else}
use Rattle.rules.specs.Table.{branches, loops, Row, row_of}
use Rattle.rules.specs.Program.{Scope}
use Rattle.rules.specs.Listing.{head_line, Line, indented}
use Rattle.rules.specs.Grammar.{Grammar}
use Rattle.rules.specs.Unlisting.{Opened, Sofar, sized, lines_after}
use Rattle.trips.proofs.Offered.{else_line}
use Rattle.trips.proofs.Raw.{fork, loop, Raws, end, raws_bytes, raw_line, raws_lines, Operands, Goods, RawFunction, head_of, heads, functions_bytes}
use Rattle.trips.proofs.Raw.{raw_functions, GoodFunctions}
use Rattle.trips.proofs.Running.{state}
use Rattle.trips.proofs.More.{snoc, snoc_bytes, snoc_lines, functions_bytes_snoc, functions_lines_snoc}

-- A place in a program: the open blocks, with what stands before them.
pub data Ctx : Type 0 where
  in_function : List RawFunction → ℕ → ℕ → Ctx
  in_main_lem : List RawFunction → Ctx
  in_loop : Ctx → Raws → ℕ → List ℕ → Ctx
  in_first : Ctx → Raws → ℕ → List ℕ → Ctx
  in_second : Ctx → Raws → ℕ → List ℕ → Raws → Ctx

abbrev pub scope_of : Ctx → Scope
scope_of (in_function fs k m) = record { places = k; earlier = heads fs }
scope_of (in_main_lem fs) = record { places = 256; earlier = heads fs }
scope_of (in_loop c rs b xs) = scope_of c
scope_of (in_first c rs b xs) = scope_of c
scope_of (in_second c rs b xs q) = scope_of c

abbrev pub after_of : Ctx → Option (List Function)
after_of (in_function fs k m) = some (heads fs ++ (head_of k m ∷ []))
after_of (in_main_lem fs) = none
after_of (in_loop c rs b xs) = after_of c
after_of (in_first c rs b xs) = after_of c
after_of (in_second c rs b xs q) = after_of c

abbrev pub top_of : Ctx → Opened
top_of (in_function fs k m) = record { before = functions_bytes fs ++ (k ∷ m ∷ []); due = false }
top_of (in_main_lem fs) = record { before = functions_bytes fs; due = false }
top_of (in_loop c rs b xs) = record { before = raws_bytes rs ++ (b ∷ xs); due = false }
top_of (in_first c rs b xs) = record { before = raws_bytes rs ++ (b ∷ xs); due = true }
top_of (in_second c rs b xs q) = record { before = (raws_bytes rs ++ (b ∷ xs)) ++ sized (raws_bytes q); due = false }

abbrev pub outer_of : Ctx → List Opened
outer_of (in_function fs k m) = []
outer_of (in_main_lem fs) = []
outer_of (in_loop c rs b xs) = top_of c ∷ outer_of c
outer_of (in_first c rs b xs) = top_of c ∷ outer_of c
outer_of (in_second c rs b xs q) = top_of c ∷ outer_of c

abbrev pub depth_of : Ctx → ℕ
depth_of c = suc (length (outer_of c))

abbrev pub state_in : Ctx → List ℕ → Sofar
state_in c bytes = state (scope_of c) (after_of c) (top_of c ∷ outer_of c) bytes

abbrev pub state_of : Ctx → Raws → Sofar
state_of c rs = state_in c (raws_bytes rs)

abbrev pub first_lines : List RawFunction → List Line
first_lines fs = (program ∷ decimal 1 ∷ []) ∷ raw_functions 0 fs

abbrev pub ctx_lines : Ctx → List Line
ctx_lines (in_function fs k m) = first_lines fs ++ (head_line (length fs) k m ∷ [])
ctx_lines (in_main_lem fs) = first_lines fs ++ ((main ∷ []) ∷ [])
ctx_lines (in_loop c rs b xs) = (ctx_lines c ++ raws_lines (depth_of c) rs) ++ (indented (depth_of c) (raw_line b xs) ∷ [])
ctx_lines (in_first c rs b xs) = (ctx_lines c ++ raws_lines (depth_of c) rs) ++ (indented (depth_of c) (raw_line b xs) ∷ [])
ctx_lines (in_second c rs b xs q) =
    (ctx_lines c ++ raws_lines (depth_of c) rs)
    ++ (indented (depth_of c) (raw_line b xs) ∷ (raws_lines (suc (depth_of c)) q ++ (indented (depth_of c) (else ∷ []) ∷ [])))

-- the lines that may follow in c, once the block inside has ended; the else of a first block
abbrev pub after_in : Ctx → List ℕ → List (Grammar Sofar)
after_in c bytes = lines_after (scope_of c) (after_of c) (top_of c ∷ outer_of c) bytes

abbrev pub else_in : Ctx → Raws → ℕ → List ℕ → Raws → Grammar Sofar
else_in c qs b xs rs = else_line (scope_of c) (after_of c) (top_of (in_first c qs b xs)) (top_of c ∷ outer_of c) (raws_bytes rs)

abbrev pub lines_of : Ctx → Raws → List Line
lines_of c rs = ctx_lines c ++ raws_lines (depth_of c) rs

pub data GoodCtx : ℕ → Ctx → Type 0 where
  good_function : {fs : List RawFunction} {k m : ℕ} → GoodFunctions [] fs → length fs < 15 → k ≤ 16 → m ≤ 8 → m ≤ k
      → GoodCtx 7 (in_function fs k m)
  good_main : {fs : List RawFunction} → GoodFunctions [] fs → length fs ≤ 15 → GoodCtx 7 (in_main_lem fs)
  good_in_loop : {d b : ℕ} {c : Ctx} {rs : Raws} {xs : List ℕ} → GoodCtx (suc d) c → Goods (scope_of c) (suc d) rs → (r : Row) → row_of b ≡ some r
      → r.meaning ≡ loops → Operands (scope_of c) r.operands xs → GoodCtx d (in_loop c rs b xs)
  good_in_first : {d b : ℕ} {c : Ctx} {rs : Raws} {xs : List ℕ} → GoodCtx (suc d) c → Goods (scope_of c) (suc d) rs → (r : Row) → row_of b ≡ some r
      → r.meaning ≡ branches → Operands (scope_of c) r.operands xs → GoodCtx d (in_first c rs b xs)
  good_in_second : {d b : ℕ} {c : Ctx} {rs q : Raws} {xs : List ℕ} → GoodCtx (suc d) c → Goods (scope_of c) (suc d) rs → (r : Row)
      → row_of b ≡ some r → r.meaning ≡ branches → Operands (scope_of c) r.operands xs
      → Goods (scope_of c) d q → GoodCtx d (in_second c rs b xs q)

pub depths : (c : Ctx) (d : ℕ) → GoodCtx d c → length (outer_of c) + d ≡ 7
depths (in_function fs k m) d (good_function g h i j l) = refl
depths (in_main_lem fs) d (good_main g h) = refl
depths (in_loop c rs b xs) d (good_in_loop g h r e f i) = let z : length (outer_of c) + suc d ≡ 7 = depths c (suc d) g in omega arith
depths (in_first c rs b xs) d (good_in_first g h r e f i) = let z : length (outer_of c) + suc d ≡ 7 = depths c (suc d) g in omega arith
depths (in_second c rs b xs q) d (good_in_second g h r e f i j) = let z : length (outer_of c) + suc d ≡ 7 = depths c (suc d) g in omega arith

pub loop_bytes : (rs : Raws) (b : ℕ) (xs : List ℕ) (q : Raws) → (raws_bytes rs ++ (b ∷ xs)) ++ sized (raws_bytes q) ≡ raws_bytes (snoc rs (loop b xs q))
loop_bytes rs b xs q = append_assoc (raws_bytes rs) (b ∷ xs) (sized (raws_bytes q)) ∙ sym (snoc_bytes rs (loop b xs q))

pub fork_bytes : (rs : Raws) (b : ℕ) (xs : List ℕ) (q t : Raws)
    → ((raws_bytes rs ++ (b ∷ xs)) ++ sized (raws_bytes q)) ++ sized (raws_bytes t) ≡ raws_bytes (snoc rs (fork b xs q t))
fork_bytes rs b xs q t =
    append_assoc (raws_bytes rs ++ (b ∷ xs)) (sized (raws_bytes q)) (sized (raws_bytes t))
    ∙ append_assoc (raws_bytes rs) (b ∷ xs) (sized (raws_bytes q) ++ sized (raws_bytes t)) ∙ sym (snoc_bytes rs (fork b xs q t))

pub loop_lines : (c : Ctx) (rs : Raws) (b : ℕ) (xs : List ℕ) (q : Raws) → lines_of c (snoc rs (loop b xs q)) ≡ lines_of (in_loop c rs b xs) q
loop_lines c rs b xs q =
    let l : Line = indented (depth_of c) (raw_line b xs) in
    ap (λ (z : List Line). ctx_lines c ++ z) (snoc_lines (depth_of c) rs (loop b xs q))
    ∙ sym (append_assoc (ctx_lines c) (raws_lines (depth_of c) rs) (l ∷ raws_lines (suc (depth_of c)) q))
    ∙ sym (append_assoc (ctx_lines c ++ raws_lines (depth_of c) rs) (l ∷ []) (raws_lines (suc (depth_of c)) q))

pub fork_lines : (c : Ctx) (rs : Raws) (b : ℕ) (xs : List ℕ) (q t : Raws) → lines_of c (snoc rs (fork b xs q t)) ≡ lines_of (in_second c rs b xs q) t
fork_lines c rs b xs q t =
    let l : Line = indented (depth_of c) (raw_line b xs) in
    let m : Line = indented (depth_of c) (else ∷ []) in
    let Q : List Line = raws_lines (suc (depth_of c)) q in
    let U : List Line = raws_lines (suc (depth_of c)) t in
    ap (λ (z : List Line). ctx_lines c ++ z) (snoc_lines (depth_of c) rs (fork b xs q t))
    ∙ sym (append_assoc (ctx_lines c) (raws_lines (depth_of c) rs) (l ∷ (Q ++ (m ∷ U))))
    ∙ ap (λ (z : List Line). (ctx_lines c ++ raws_lines (depth_of c) rs) ++ (l ∷ z)) (sym (append_assoc Q (m ∷ []) U))
    ∙ sym (append_assoc (ctx_lines c ++ raws_lines (depth_of c) rs) (l ∷ (Q ++ (m ∷ []))) U)

pub first_lines_lem : (c : Ctx) (rs : Raws) (b : ℕ) (xs : List ℕ) (q : Raws)
    → lines_of (in_second c rs b xs q) end ≡ lines_of (in_first c rs b xs) q ++ (indented (depth_of c) (else ∷ []) ∷ [])
first_lines_lem c rs b xs q =
    let l : Line = indented (depth_of c) (raw_line b xs) in
    let m : Line = indented (depth_of c) (else ∷ []) in
    let Q : List Line = raws_lines (suc (depth_of c)) q in
    append-nil (ctx_lines (in_second c rs b xs q)) ∙ sym (append_assoc (ctx_lines c ++ raws_lines (depth_of c) rs) (l ∷ Q) (m ∷ []))
    ∙ ap (λ (z : List Line). z ++ (m ∷ [])) (sym (append_assoc (ctx_lines c ++ raws_lines (depth_of c) rs) (l ∷ []) Q))

-- the functions with one that has ended
abbrev pub with_body : List RawFunction → ℕ → ℕ → Raws → List RawFunction
with_body fs k m rs = fs ++ (record { k = k; m = m; body = rs } ∷ [])

pub body_lines : (fs : List RawFunction) (k m : ℕ) (rs : Raws) → first_lines (with_body fs k m rs) ≡ lines_of (in_function fs k m) rs
body_lines fs k m rs =
    ap (λ (z : List Line). (program ∷ decimal 1 ∷ []) ∷ z)
    (functions_lines_snoc 0 fs (record { k = k; m = m; body = rs })
    ∙ ap (λ (i : ℕ). raw_functions 0 fs ++ (head_line i k m ∷ raws_lines 1 rs)) (zero-add (length fs)))
    ∙ sym (append_assoc (first_lines fs) (head_line (length fs) k m ∷ []) (raws_lines 1 rs))

pub body_bytes : (fs : List RawFunction) (k m : ℕ) (rs : Raws)
    → (functions_bytes fs ++ (k ∷ m ∷ [])) ++ sized (raws_bytes rs) ≡ functions_bytes (with_body fs k m rs)
body_bytes fs k m rs =
    append_assoc (functions_bytes fs) (k ∷ m ∷ []) (sized (raws_bytes rs)) ∙ sym (functions_bytes_snoc fs (record { k = k; m = m; body = rs }))
