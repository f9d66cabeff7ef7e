-- Lines that were followed stand for a place in a good program: line by line, by the grammar that took the line and the place where it stood.
use mathlib.Core.Bool.{Bool, true, false, not}
use mathlib.Core.List.{List, [], ◌∷◌, ◌++◌, append_assoc, append-nil}
use mathlib.Core.Logic.{◌⊎◌, inl, inr}
use mathlib.Core.Option.{none, some}
use mathlib.Core.Path.{◌≡◌, refl, sym, ap, subst, ◌∙◌}
use native.Mathlib.Omega.{arith}
use Prim.Native.Nat.{ℕ, zero, suc, ◌+◌, ◌<◌, ◌≤◌}
use lib.Dec.{ltb, leb, nleb→lt}
use lib.ListN.{get_or, length, length-append, length-replicate, replicate}
use Rattle.rules.specs.declared.statements.Operand.TheVariants.{Slot, Location}
use Rattle.rules.specs.Basics.{up_to}
use Rattle.rules.specs.Syntax.{Function}
use Rattle.rules.specs.Words.{Text, decimal}
use Rattle.rules.specs.Names.{function, locations, arguments, main, else, at, with}
use Rattle.rules.specs.Table.{Meaning, simple, branches, loops, calls, Row, row_of, size}
use Rattle.rules.specs.Listing.{head_line, Line, indented, listed}
use Rattle.rules.specs.Grammar.{Grammar, stop, ask, word, takes, takes_one}
use Rattle.rules.specs.Unlisting.{Sofar, State, sofar, sized, least, deeper, added, opened, operands, list, made, blocks_of, statement_line, indent}
use Rattle.rules.specs.Unlisting.{function_line, main_line, top_lines, lines, function_begun, main_begun}
use Rattle.rules.proofs.Tests.{eq→T, at_most, below}
use Rattle.trips.proofs.Grammars.{none_not_some}
use Rattle.trips.proofs.Reading.{run, ran}
use Rattle.trips.proofs.Offered.{top_with}
use Rattle.trips.proofs.Raw.{length_sized, Raw, plain, called, fork, loop, Raws, end, raw_bytes, raws_bytes, said, raw_line, raw_lines, raws_lines}
use Rattle.trips.proofs.Raw.{Operands, ranged_length, took_list, Good, good_plain, good_called, good_fork, good_loop, Goods, good_end, RawFunction}
use Rattle.trips.proofs.Raw.{head_of, heads, functions_bytes, GoodFunctions}
use Rattle.trips.proofs.Running.{size_xs, length_heads}
use Rattle.trips.proofs.Took.{Stated, stated, took_one, took_word, took_indent, took_number, took_stop, took_room, took_deeper}
use Rattle.trips.proofs.More.{snoc, snoc_bytes, snoc_lines, snoc_good, heads_snoc, functions_good_snoc}
use Rattle.trips.proofs.Places.{Ctx, in_function, in_main_lem, in_loop, in_first, in_second, scope_of, top_of, outer_of, depth_of, state_in, state_of}
use Rattle.trips.proofs.Places.{first_lines, ctx_lines, after_in, else_in, lines_of, GoodCtx, good_function, good_main, good_in_loop, good_in_first}
use Rattle.trips.proofs.Places.{good_in_second, depths, loop_bytes, fork_bytes, loop_lines, fork_lines, first_lines_lem, with_body, body_lines, body_bytes}

-- What stands for the lines L.
abbrev pub Next : List Line → Sofar → Type 0
Next L p = (c : Ctx) × (d : ℕ) × (rs : Raws) × GoodCtx d c × Goods (scope_of c) d rs × (p ≡ state_of c rs) × (lines_of c rs ≡ L) × (least p ≤ 4096)

-- a tree of one line more in the innermost block
grown : (c : Ctx) (d : ℕ) (rs : Raws) → GoodCtx d c → Goods (scope_of c) d rs → (r : Raw) → Good (scope_of c) d r → (l : Line)
    → raw_lines (depth_of c) r ≡ l ∷ [] → least (state_of c rs) + length (raw_bytes r) ≤ 4096
    → Next (lines_of c rs ++ (l ∷ [])) (added (state_of c rs) (raw_bytes r))
grown c d rs g gs r h l e f =
    let le : length (raws_bytes rs ++ raw_bytes r) ≡ length (raws_bytes rs) + length (raw_bytes r) = length-append (raws_bytes rs) (raw_bytes r) in (
      c,
      d,
      snoc rs r,
      g,
      snoc_good (scope_of c) d rs r gs h,
      ap (state_in c) (sym (snoc_bytes rs r)),
      ap (λ (z : List Line). ctx_lines c ++ z) (snoc_lines (depth_of c) rs r ∙ ap (λ (z : List Line). raws_lines (depth_of c) rs ++ z) e)
          ∙ sym (append_assoc (ctx_lines c) (raws_lines (depth_of c) rs) (l ∷ [])),
      omega arith,
    )

statement_next : (c : Ctx) (d : ℕ) (rs : Raws) → GoodCtx d c → Goods (scope_of c) d rs → (l : Line) (p' : Sofar)
    → takes (indent (depth_of c) (statement_line (state_of c rs))) l ≡ some p' → Next (lines_of c rs ++ (l ∷ [])) p'
statement_next c d rs g gs l p' h =
    let I = took_indent (depth_of c) (statement_line (state_of c rs)) l p' h in
    let s : Stated (state_of c rs) I.0 p' = stated (state_of c rs) I.0 p' I.2 in
    subst (λ (z : Line). Next (lines_of c rs ++ (z ∷ [])) p') (sym (I.1 ∙ ap (indented (depth_of c)) s.5))
    (go d g gs s.0 s.1 s.2 s.3 s.4 s.6 s.1.meaning refl s.7 s.8 s.9)
  where
    go : (d : ℕ) → GoodCtx d c → Goods (scope_of c) d rs → (b : ℕ) (r : Row) (xs : List ℕ) (vs : List Text) → row_of b ≡ some r
        → Operands (scope_of c) r.operands xs → (m : Meaning) → r.meaning ≡ m
        → least (state_of c rs) + (size r + blocks_of m) ≤ 4096
        → takes (deeper (state_of c rs) (blocks_of m) (operands (scope_of c) r.operands λ xs. made (state_of c rs) m (b ∷ xs)))
        (said r.operands xs ++ vs) ≡ some p'
        → takes (made (state_of c rs) m (b ∷ xs)) vs ≡ some p' → Next (lines_of c rs ++ (indented (depth_of c) (raw_line b xs ++ vs) ∷ [])) p'
    go d g gs b r xs vs row o (simple f) e fit dp k =
        let t : (vs ≡ []) × (added (state_of c rs) (b ∷ xs) ≡ p') = took_stop (added (state_of c rs) (b ∷ xs)) vs p' k in
        let z : size r ≡ suc (length xs) = size_xs (scope_of c) r xs o in
        let w : raw_line b xs ≡ raw_line b xs ++ vs = sym (append-nil (raw_line b xs)) ∙ ap (λ (u : List Text). raw_line b xs ++ u) (sym t.0) in
        subst (λ (q : Sofar). Next (lines_of c rs ++ (indented (depth_of c) (raw_line b xs ++ vs) ∷ [])) q) t.1
        (grown c d rs g gs (plain b xs) (good_plain r f row e o) (indented (depth_of c) (raw_line b xs ++ vs))
        (ap (λ (u : Line). indented (depth_of c) u ∷ []) w) (omega arith))
    go d g gs b r xs vs row o calls e fit dp k =
        let K : ℕ = get_or xs 1 0 in
        let M : ℕ = get_or xs 2 0 in
        let g₂ : List ℕ → List ℕ → Grammar Sofar = λ ls ms. stop (some (added (state_of c rs) ((b ∷ xs) ++ (ls ++ ms)))) in
        let g₁ : List ℕ → Grammar Sofar = λ ls. list (scope_of c) with Slot M (g₂ ls) in
        let R = took_room (state_of c rs) (suc (length xs) + get_or xs 1 0 + get_or xs 2 0) (list (scope_of c) at Location K g₁) vs p' k in
        let A = took_list (scope_of c) at Location refl (λ x. refl) K g₁ vs p' R.1 in
        let W = took_list (scope_of c) with Slot refl (λ x. refl) M (g₂ A.0) A.1 p' A.4 in
        let t = took_stop (added (state_of c rs) ((b ∷ xs) ++ (A.0 ++ W.0))) W.1 p' W.4 in
        let v =
        A.2 ∙ ap (λ (u : List Text). listed at A.0 ++ u)
        (W.2 ∙ ap (λ (u : List Text). listed with W.0 ++ u) t.0 ∙ append-nil (listed with W.0)) in
        let la : length A.0 ≡ length (replicate K Location) = ranged_length (scope_of c) 0 (replicate K Location) A.0 A.3 in
        let lw : length W.0 ≡ length (replicate M Slot) = ranged_length (scope_of c) 0 (replicate M Slot) W.0 W.3 in
        let la' : length (replicate K Location) ≡ get_or xs 1 0 = length-replicate K Location in
        let lw' : length (replicate M Slot) ≡ get_or xs 2 0 = length-replicate M Slot in
        let lx : length (xs ++ (A.0 ++ W.0)) ≡ length xs + length (A.0 ++ W.0) = length-append xs (A.0 ++ W.0) in
        let ly : length (A.0 ++ W.0) ≡ length A.0 + length W.0 = length-append A.0 W.0 in
        let lr : least (state_of c rs) + (suc (length xs) + get_or xs 1 0 + get_or xs 2 0) ≤ 4096 = R.0 in
        subst (λ (q : Sofar). Next (lines_of c rs ++ (indented (depth_of c) (raw_line b xs ++ vs) ∷ [])) q) t.1
        (grown c d rs g gs (called b xs A.0 W.0) (good_called r row e o A.3 W.3) (indented (depth_of c) (raw_line b xs ++ vs))
        (ap (λ (u : List Text). indented (depth_of c) (raw_line b xs ++ u) ∷ []) (sym v)) (omega arith))
    go d g gs b r xs vs row o loops e fit dp k =
        let t : (vs ≡ []) × (opened (state_of c rs) false (b ∷ xs) ≡ p') = took_stop (opened (state_of c rs) false (b ∷ xs)) vs p' k in
        let z : size r ≡ suc (length xs) = size_xs (scope_of c) r xs o in
        let D =
        took_deeper (state_of c rs) 1 (operands (scope_of c) r.operands λ xs. made (state_of c rs) loops (b ∷ xs)) (said r.operands xs ++ vs) p' dp in
        let w : raw_line b xs ≡ raw_line b xs ++ vs = sym (append-nil (raw_line b xs)) ∙ ap (λ (u : List Text). raw_line b xs ++ u) (sym t.0) in
        let lb : length (raws_bytes rs ++ (b ∷ xs)) ≡ length (raws_bytes rs) + suc (length xs) = length-append (raws_bytes rs) (b ∷ xs) in
        subst (λ (q : Sofar). Next (lines_of c rs ++ (indented (depth_of c) (raw_line b xs ++ vs) ∷ [])) q) t.1 (at_depth d g gs D.0 (omega arith) w)
      where
        at_depth : (d : ℕ) → GoodCtx d c → Goods (scope_of c) d rs → length (top_of c ∷ outer_of c) < 8
            → least (opened (state_of c rs) false (b ∷ xs)) ≤ 4096 → raw_line b xs ≡ raw_line b xs ++ vs
            → Next (lines_of c rs ++ (indented (depth_of c) (raw_line b xs ++ vs) ∷ [])) (opened (state_of c rs) false (b ∷ xs))
        at_depth zero g gs l f w = let q : length (outer_of c) + 0 ≡ 7 = depths c 0 g in absurd (omega arith)
        at_depth (suc d) g gs l f w = (
          in_loop c rs b xs,
          d,
          end,
          good_in_loop g gs r row e o,
          good_end,
          refl,
          append-nil (ctx_lines (in_loop c rs b xs)) ∙ ap (λ (u : Line). lines_of c rs ++ (indented (depth_of c) u ∷ [])) w,
          f,
        )
    go d g gs b r xs vs row o branches e fit dp k =
        let t : (vs ≡ []) × (opened (state_of c rs) true (b ∷ xs) ≡ p') = took_stop (opened (state_of c rs) true (b ∷ xs)) vs p' k in
        let z : size r ≡ suc (length xs) = size_xs (scope_of c) r xs o in
        let D =
        took_deeper (state_of c rs) 3 (operands (scope_of c) r.operands λ xs. made (state_of c rs) branches (b ∷ xs))
        (said r.operands xs ++ vs) p' dp in
        let w : raw_line b xs ≡ raw_line b xs ++ vs = sym (append-nil (raw_line b xs)) ∙ ap (λ (u : List Text). raw_line b xs ++ u) (sym t.0) in
        let lb : length (raws_bytes rs ++ (b ∷ xs)) ≡ length (raws_bytes rs) + suc (length xs) = length-append (raws_bytes rs) (b ∷ xs) in
        subst (λ (q : Sofar). Next (lines_of c rs ++ (indented (depth_of c) (raw_line b xs ++ vs) ∷ [])) q) t.1 (at_depth d g gs D.0 (omega arith) w)
      where
        at_depth : (d : ℕ) → GoodCtx d c → Goods (scope_of c) d rs → length (top_of c ∷ outer_of c) < 8
            → least (opened (state_of c rs) true (b ∷ xs)) ≤ 4096 → raw_line b xs ≡ raw_line b xs ++ vs
            → Next (lines_of c rs ++ (indented (depth_of c) (raw_line b xs ++ vs) ∷ [])) (opened (state_of c rs) true (b ∷ xs))
        at_depth zero g gs l f w = let q : length (outer_of c) + 0 ≡ 7 = depths c 0 g in absurd (omega arith)
        at_depth (suc d) g gs l f w = (
          in_first c rs b xs,
          d,
          end,
          good_in_first g gs r row e o,
          good_end,
          refl,
          append-nil (ctx_lines (in_first c rs b xs)) ∙ ap (λ (u : Line). lines_of c rs ++ (indented (depth_of c) u ∷ [])) w,
          f,
        )

-- a line outside functions and main
at_most_8 : (k m : ℕ) → m < suc (elim (leb k 8) [ true ↦ k | false ↦ 8 ]) → (m ≤ 8) × (m ≤ k)
at_most_8 k m h = go (leb k 8) refl h
  where
    go : (b : Bool) → leb k 8 ≡ b → m < suc (elim b [ true ↦ k | false ↦ 8 ]) → (m ≤ 8) × (m ≤ k)
    go true e l = let z : k ≤ 8 = at_most k 8 e in (omega arith, omega arith)
    go false e l = let z : 8 < k = nleb→lt k 8 (eq→T (not (leb k 8)) (ap not e)) in (omega arith, omega arith)

function_next : (fs : List RawFunction) → GoodFunctions [] fs → length fs < 15 → 12 + length (functions_bytes fs) ≤ 4096 → (l : Line) (p' : Sofar)
    → takes (function_line (heads fs) (functions_bytes fs)) l ≡ some p' → Next (first_lines fs ++ (l ∷ [])) p'
function_next fs g n f l p' h =
    let hs : List Function = heads fs in
    let F : List ℕ = functions_bytes fs in
    let M : ℕ → ℕ = λ k. suc (elim (leb k 8) [ true ↦ k | false ↦ 8 ]) in
    let g₃ : ℕ → Grammar Sofar = λ k. ask none (up_to 0 (M k) decimal) λ m. stop (some (function_begun hs F k m)) in
    let g₂ : Grammar Sofar = ask none (up_to 0 17 decimal) λ k. word arguments (g₃ k) in
    let a = took_word function (word (decimal (length hs)) (word locations g₂)) l p' h in
    let b = took_word (decimal (length hs)) (word locations g₂) a.0 p' a.2 in
    let c : (vs : List Text) × (b.0 ≡ locations ∷ vs) × (takes g₂ vs ≡ some p') = took_word locations g₂ b.0 p' b.2 in
    let d = took_number 17 (λ k. word arguments (g₃ k)) c.0 p' c.2 in
    let e : (vs : List Text) × (d.1 ≡ arguments ∷ vs) × (takes (g₃ d.0) vs ≡ some p') = took_word arguments (g₃ d.0) d.1 p' d.4 in
    let i = took_number (M d.0) (λ m. stop (some (function_begun hs F d.0 m))) e.0 p' e.2 in
    let j = took_stop (function_begun hs F d.0 i.0) i.1 p' i.4 in
    let m8 : (i.0 ≤ 8) × (i.0 ≤ d.0) = at_most_8 d.0 i.0 i.3 in
    let k16 : d.0 ≤ 16 = omega (arith, d.3) in
    let line = a.1 ∙ ap (λ (z : List Text). function ∷ z) (b.1 ∙ ap (λ (z : ℕ). decimal z ∷ b.0) (length_heads fs)
    ∙ ap (λ (z : List Text). decimal (length fs) ∷ z)
    (c.1 ∙ ap (λ (z : List Text). locations ∷ z)
    (d.2 ∙ ap (λ (z : List Text). decimal d.0 ∷ z)
    (e.1 ∙ ap (λ (z : List Text). arguments ∷ z) (i.2 ∙ ap (λ (z : List Text). decimal i.0 ∷ z) j.0))))) in
    let lf = length-append F (d.0 ∷ i.0 ∷ []) in
    let fit : least (function_begun hs F d.0 i.0) ≤ 4096 = omega arith in (
      in_function fs d.0 i.0,
      7,
      end,
      good_function g n k16 m8.0 m8.1,
      good_end,
      sym j.1,
      append-nil (first_lines fs ++ (head_line (length fs) d.0 i.0 ∷ [])) ∙ ap (λ (z : Line). first_lines fs ++ (z ∷ [])) (sym line),
      subst (λ (q : Sofar). least q ≤ 4096) j.1 fit,
    )

main_next : (fs : List RawFunction) → GoodFunctions [] fs → length fs ≤ 15 → 8 + length (functions_bytes fs) ≤ 4096 → (l : Line) (p' : Sofar)
    → takes (main_line (heads fs) (functions_bytes fs)) l ≡ some p' → Next (first_lines fs ++ (l ∷ [])) p'
main_next fs g n f l p' h =
    let a = took_word main (stop (some (main_begun (heads fs) (functions_bytes fs)))) l p' h in
    let j : (a.0 ≡ []) × (main_begun (heads fs) (functions_bytes fs) ≡ p') = took_stop (main_begun (heads fs) (functions_bytes fs)) a.0 p' a.2 in
    let line : l ≡ main ∷ [] = a.1 ∙ ap (λ (z : List Text). main ∷ z) j.0 in
    let fit : least (main_begun (heads fs) (functions_bytes fs)) ≤ 4096 = omega arith in (
      in_main_lem fs,
      7,
      end,
      good_main g n,
      good_end,
      sym j.1,
      append-nil (first_lines fs ++ ((main ∷ []) ∷ [])) ∙ ap (λ (z : Line). first_lines fs ++ (z ∷ [])) (sym line),
      subst (λ (q : Sofar). least q ≤ 4096) j.1 fit,
    )

pub top_next : (fs : List RawFunction) → GoodFunctions [] fs → length fs ≤ 15 → 8 + length (functions_bytes fs) ≤ 4096 → (l : Line) (p' : Sofar)
    → takes_one (top_lines (some (heads fs)) (functions_bytes fs)) l ≡ some p' → Next (first_lines fs ++ (l ∷ [])) p'
top_next fs g n f l p' h = go (leb (12 + length (functions_bytes fs)) 4096) refl (ltb (length (heads fs)) 15) refl h
  where
    mains : takes_one (main_line (heads fs) (functions_bytes fs) ∷ []) l ≡ some p' → Next (first_lines fs ++ (l ∷ [])) p'
    mains k = at (took_one (main_line (heads fs) (functions_bytes fs)) [] l p' k)
      where
        at : (takes (main_line (heads fs) (functions_bytes fs)) l ≡ some p') ⊎ (takes_one [] l ≡ some p') → Next (first_lines fs ++ (l ∷ [])) p'
        at (inl t) = main_next fs g n f l p' t
        at (inr t) = none_not_some t

    either : length fs < 15 → 12 + length (functions_bytes fs) ≤ 4096
        → (takes (function_line (heads fs) (functions_bytes fs)) l ≡ some p')
        ⊎ (takes_one (main_line (heads fs) (functions_bytes fs) ∷ []) l ≡ some p') → Next (first_lines fs ++ (l ∷ [])) p'
    either u v (inl t) = function_next fs g u v l p' t
    either u v (inr t) = mains t

    go : (a : Bool) → leb (12 + length (functions_bytes fs)) 4096 ≡ a → (b : Bool) → ltb (length (heads fs)) 15 ≡ b
        → takes_one (top_with (heads fs) (functions_bytes fs) a b) l ≡ some p'
        → Next (first_lines fs ++ (l ∷ [])) p'
    go true a true b k =
        let u : length (heads fs) < 15 = below (length (heads fs)) 15 b in
        let v = at_most (12 + length (functions_bytes fs)) 4096 a in
        either (omega (arith, length_heads fs)) v
        (took_one (function_line (heads fs) (functions_bytes fs)) (main_line (heads fs) (functions_bytes fs) ∷ []) l p' k)
    go true a false b k = mains k
    go false a b e k = mains k

any_next : (c : Ctx) (d : ℕ) (rs : Raws) → GoodCtx d c → Goods (scope_of c) d rs → least (state_of c rs) ≤ 4096 → (l : Line) (p' : Sofar)
    → takes_one (lines (sofar (state_of c rs))) l ≡ some p' → Next (lines_of c rs ++ (l ∷ [])) p'
any_next (in_function fs k m) d rs (good_function g n i j h) gs f l p' t =
    go (took_one (indent 1 (statement_line (state_of (in_function fs k m) rs)))
    (top_lines (some (heads fs ++ (head_of k m ∷ []))) ((functions_bytes fs ++ (k ∷ m ∷ [])) ++ sized (raws_bytes rs))) l p' t)
  where
    go : (takes (indent 1 (statement_line (state_of (in_function fs k m) rs))) l ≡ some p')
        ⊎ (takes_one (top_lines (some (heads fs ++ (head_of k m ∷ []))) ((functions_bytes fs ++ (k ∷ m ∷ [])) ++ sized (raws_bytes rs))) l ≡ some p')
        → Next (lines_of (in_function fs k m) rs ++ (l ∷ [])) p'
    go (inl u) = statement_next (in_function fs k m) 7 rs (good_function g n i j h) gs l p' u
    go (inr u) =
        let lb = length_sized (functions_bytes fs ++ (k ∷ m ∷ [])) (raws_bytes rs) in
        let lw : length (with_body fs k m rs) ≡ length fs + 1 = length-append fs (record { k = k; m = m; body = rs } ∷ []) in
        let lf = ap length (sym (body_bytes fs k m rs)) in
        subst (λ (z : List Line). Next (z ++ (l ∷ [])) p') (body_lines fs k m rs)
        (top_next (with_body fs k m rs) (functions_good_snoc [] fs (record { k = k; m = m; body = rs }) g i j h gs) (omega arith) (omega arith) l p'
        (ap (λ (z : List ℕ). takes_one (top_lines (some (heads (with_body fs k m rs))) z) l) (sym (body_bytes fs k m rs))
        ∙ ap (λ (z : List Function). takes_one (top_lines (some z) ((functions_bytes fs ++ (k ∷ m ∷ [])) ++ sized (raws_bytes rs))) l)
        (heads_snoc fs (record { k = k; m = m; body = rs })) ∙ u))
any_next (in_main_lem fs) d rs (good_main g n) gs f l p' t = go (took_one (indent 1 (statement_line (state_of (in_main_lem fs) rs))) [] l p' t)
  where
    go : (takes (indent 1 (statement_line (state_of (in_main_lem fs) rs))) l ≡ some p') ⊎ (takes_one [] l ≡ some p')
        → Next (lines_of (in_main_lem fs) rs ++ (l ∷ [])) p'
    go (inl u) = statement_next (in_main_lem fs) 7 rs (good_main g n) gs l p' u
    go (inr u) = none_not_some u
any_next (in_loop c qs b xs) d rs (good_in_loop g hs r row e o) gs f l p' t =
    go (took_one (indent (suc (depth_of c)) (statement_line (state_of (in_loop c qs b xs) rs)))
    (after_in c ((raws_bytes qs ++ (b ∷ xs)) ++ sized (raws_bytes rs))) l p' t)
    (λ fit u. any_next c (suc d) (snoc qs (loop b xs rs)) g (snoc_good (scope_of c) (suc d) qs (loop b xs rs) hs (good_loop r row e o gs)) fit l p' u)
  where
    go : (takes (indent (suc (depth_of c)) (statement_line (state_of (in_loop c qs b xs) rs))) l ≡ some p')
        ⊎ (takes_one (after_in c ((raws_bytes qs ++ (b ∷ xs)) ++ sized (raws_bytes rs))) l ≡ some p')
        → (least (state_of c (snoc qs (loop b xs rs))) ≤ 4096 → takes_one (lines (sofar (state_of c (snoc qs (loop b xs rs))))) l ≡ some p'
        → Next (lines_of c (snoc qs (loop b xs rs)) ++ (l ∷ [])) p')
        → Next (lines_of (in_loop c qs b xs) rs ++ (l ∷ [])) p'
    go (inl u) rec = statement_next (in_loop c qs b xs) d rs (good_in_loop g hs r row e o) gs l p' u
    go (inr u) rec =
        let lb = length_sized (raws_bytes qs ++ (b ∷ xs)) (raws_bytes rs) in
        let lf = ap length (loop_bytes qs b xs rs) in
        subst (λ (z : List Line). Next (z ++ (l ∷ [])) p') (loop_lines c qs b xs rs)
        (rec (omega arith) (ap (λ (z : List ℕ). takes_one (after_in c z) l) (sym (loop_bytes qs b xs rs)) ∙ u))
any_next (in_first c qs b xs) d rs (good_in_first g hs r row e o) gs f l p' t =
    go (took_one (indent (suc (depth_of c)) (statement_line (state_of (in_first c qs b xs) rs))) (indent (depth_of c) (else_in c qs b xs rs) ∷ []) l p' t)
  where
    elses : takes (indent (depth_of c) (else_in c qs b xs rs)) l ≡ some p' → Next (lines_of (in_first c qs b xs) rs ++ (l ∷ [])) p'
    elses u =
        let q : Sofar = state_of (in_second c qs b xs rs) end in
        let a = took_indent (depth_of c) (else_in c qs b xs rs) l p' u in
        let w = took_word else (stop (some (state_of (in_second c qs b xs rs) end))) a.0 p' a.2 in
        let j : (w.0 ≡ []) × (state_of (in_second c qs b xs rs) end ≡ p') = took_stop (state_of (in_second c qs b xs rs) end) w.0 p' w.2 in
        let line : l ≡ indented (depth_of c) (else ∷ []) = a.1 ∙ ap (indented (depth_of c)) (w.1 ∙ ap (λ (z : List Text). else ∷ z) j.0) in
        let lb = length_sized (raws_bytes qs ++ (b ∷ xs)) (raws_bytes rs) in
        let fit : least (state_of (in_second c qs b xs rs) end) ≤ 4096 = omega arith in (
          in_second c qs b xs rs,
          d,
          end,
          good_in_second g hs r row e o gs,
          good_end,
          sym j.1,
          first_lines_lem c qs b xs rs ∙ ap (λ (z : Line). lines_of (in_first c qs b xs) rs ++ (z ∷ [])) (sym line),
          subst (λ (q : Sofar). least q ≤ 4096) j.1 fit,
        )

    only : (takes (indent (depth_of c) (else_in c qs b xs rs)) l ≡ some p') ⊎ (takes_one [] l ≡ some p')
        → Next (lines_of (in_first c qs b xs) rs ++ (l ∷ [])) p'
    only (inl u) = elses u
    only (inr u) = none_not_some u

    go : (takes (indent (suc (depth_of c)) (statement_line (state_of (in_first c qs b xs) rs))) l ≡ some p')
        ⊎ (takes_one (indent (depth_of c) (else_in c qs b xs rs) ∷ []) l ≡ some p') → Next (lines_of (in_first c qs b xs) rs ++ (l ∷ [])) p'
    go (inl u) = statement_next (in_first c qs b xs) d rs (good_in_first g hs r row e o) gs l p' u
    go (inr u) = only (took_one (indent (depth_of c) (else_in c qs b xs rs)) [] l p' u)
any_next (in_second c qs b xs q) d rs (good_in_second g hs r row e o gq) gs f l p' t =
    go (took_one (indent (suc (depth_of c)) (statement_line (state_of (in_second c qs b xs q) rs)))
    (after_in c (((raws_bytes qs ++ (b ∷ xs)) ++ sized (raws_bytes q)) ++ sized (raws_bytes rs))) l p' t)
    (λ fit u. any_next c (suc d) (snoc qs (fork b xs q rs)) g (snoc_good (scope_of c) (suc d) qs (fork b xs q rs) hs (good_fork r row e o gq gs)) fit l p' u)
  where
    go : (takes (indent (suc (depth_of c)) (statement_line (state_of (in_second c qs b xs q) rs))) l ≡ some p')
        ⊎ (takes_one (after_in c (((raws_bytes qs ++ (b ∷ xs)) ++ sized (raws_bytes q)) ++ sized (raws_bytes rs))) l ≡ some p')
        → (least (state_of c (snoc qs (fork b xs q rs))) ≤ 4096 → takes_one (lines (sofar (state_of c (snoc qs (fork b xs q rs))))) l ≡ some p'
        → Next (lines_of c (snoc qs (fork b xs q rs)) ++ (l ∷ [])) p')
        → Next (lines_of (in_second c qs b xs q) rs ++ (l ∷ [])) p'
    go (inl u) rec = statement_next (in_second c qs b xs q) d rs (good_in_second g hs r row e o gq) gs l p' u
    go (inr u) rec =
        let lb = length_sized ((raws_bytes qs ++ (b ∷ xs)) ++ sized (raws_bytes q)) (raws_bytes rs) in
        let lf = ap length (fork_bytes qs b xs q rs) in
        subst (λ (z : List Line). Next (z ++ (l ∷ [])) p') (fork_lines c qs b xs q rs)
        (rec (omega arith) (ap (λ (z : List ℕ). takes_one (after_in c z) l) (sym (fork_bytes qs b xs q rs)) ∙ u))

-- all lines
pub all_next : (ls : List Line) (c : Ctx) (d : ℕ) (rs : Raws) → GoodCtx d c → Goods (scope_of c) d rs → (p : Sofar) → p ≡ state_of c rs
    → least p ≤ 4096 → (σ : State) → run (sofar p) ls ≡ some σ
    → (q : Sofar) × (σ ≡ sofar q) × Next (lines_of c rs ++ ls) q
all_next [] c d rs g gs p e f σ h = (p, (let z : some (sofar p) ≡ some σ = h in cc), (c, d, rs, g, gs, e, sym (append-nil (lines_of c rs)), f))
all_next (l ∷ ls) c d rs g gs p e f σ h =
    let r : (q : Sofar) × (takes_one (lines (sofar p)) l ≡ some q) × (run (sofar q) ls ≡ some σ) = ran (sofar p) σ l ls h in
    let n = any_next c d rs g gs (subst (λ (q : Sofar). least q ≤ 4096) e f) l r.0 (ap (λ (q : Sofar). takes_one (lines (sofar q)) l) (sym e) ∙ r.1) in
    let t = all_next ls n.0 n.1 n.2 n.3 n.4 r.0 n.5 n.7 σ r.2 in
    (t.0, t.1, subst (λ (z : List Line). Next z t.0) (ap (λ (z : List Line). z ++ ls) n.6 ∙ append_assoc (lines_of c rs) (l ∷ []) ls) t.2)
