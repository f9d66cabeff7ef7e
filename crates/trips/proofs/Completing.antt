-- A place in a good program can be completed to a good program: due elses with nothing behind them, and main; the room for them is in `least`. So lines
-- that were followed begin the lines of one.
use mathlib.Core.List.{List, [], ◌∷◌, ◌++◌, append_assoc, append-nil}
use mathlib.Core.Logic.{◌⊎◌, inl, inr}
use mathlib.Core.Option.{Option, none, some}
use mathlib.Core.Path.{◌≡◌, refl, sym, ap, subst, ◌∙◌}
use native.Mathlib.Omega.{arith}
use Prim.Native.Nat.{ℕ, suc, ◌+◌, ◌≤◌}
use lib.ListN.{length, length-append}
use Rattle.rules.specs.Syntax.{Function}
use Rattle.rules.specs.Words.{Text, decimal}
use Rattle.rules.specs.Names.{program, main, else}
use Rattle.rules.specs.Listing.{Line, indented}
use Rattle.rules.specs.Grammar.{stop, word, takes, takes_one}
use Rattle.rules.specs.Unlisting.{Sofar, State, fresh, sofar, sized, least, lines, file, header, program_begun}
use Rattle.trips.proofs.Grammars.{none_not_some}
use Rattle.trips.proofs.Reading.{run, ran}
use Rattle.trips.proofs.Raw.{length_sized, fork, loop, Raws, end, raws_bytes, raws_lines, good_fork, good_loop, Goods, good_end, RawProgram, heads}
use Rattle.trips.proofs.Raw.{functions_bytes, program_bytes, raw_program_lines, no_functions, GoodProgram, RunsBack}
use Rattle.trips.proofs.Running.{state, same, closed, closes_file, length_heads}
use Rattle.trips.proofs.Took.{took_one, took_word, took_stop}
use Rattle.trips.proofs.More.{snoc, snoc_good, functions_good_snoc}
use Rattle.trips.proofs.Places.{Ctx, in_function, in_main_lem, in_loop, in_first, in_second, scope_of, after_of, top_of, outer_of, depth_of, state_in, state_of}
use Rattle.trips.proofs.Places.{first_lines, lines_of, GoodCtx, good_function, good_main, good_in_loop, good_in_first, good_in_second, loop_bytes}
use Rattle.trips.proofs.Places.{fork_bytes, loop_lines, fork_lines, first_lines_lem, with_body, body_lines, body_bytes}
use Rattle.trips.proofs.Following.{Next, top_next, all_next}

-- Completing: due elses with nothing behind them, and main.
abbrev Completed : Sofar → List Line → Type 0
Completed p L =
    (q : RawProgram) × (more : List Line) × GoodProgram q × (raw_program_lines q ≡ L ++ more)
    × ((z : List ℕ) → file (sofar p) ≡ some z → (z ≡ program_bytes q) × (more ≡ []))

complete : (c : Ctx) (d : ℕ) (rs : Raws) → GoodCtx d c → Goods (scope_of c) d rs → least (state_of c rs) ≤ 4096
    → Completed (state_of c rs) (lines_of c rs)
complete (in_function fs k m) d rs (good_function g n i j h) gs f =
    let q : RawProgram = record { functions = with_body fs k m rs; main = end } in
    let lb = length_sized (functions_bytes fs ++ (k ∷ m ∷ [])) (raws_bytes rs) in
    let lf = ap length (sym (body_bytes fs k m rs)) in
    let lp = length_sized (functions_bytes (with_body fs k m rs)) [] in
    let lw : length (with_body fs k m rs) ≡ length fs + 1 = length-append fs (record { k = k; m = m; body = rs } ∷ []) in (
      q,
      (main ∷ []) ∷ [],
      record { few = omega arith; functions = functions_good_snoc [] fs (record { k = k; m = m; body = rs }) g i j h gs; main = good_end; short = omega arith },
      ap (λ (z : List Line). z ++ ((main ∷ []) ∷ [])) (body_lines fs k m rs),
      λ z e. none_not_some e,
    )
complete (in_main_lem fs) d rs (good_main g n) gs f =
    let q : RawProgram = record { functions = fs; main = rs } in
    let lp = length_sized (functions_bytes fs) (raws_bytes rs) in
    let Z : ℕ → List ℕ = λ n. header n ++ (functions_bytes fs ++ sized (raws_bytes rs)) in (
      q,
      [],
      record { few = n; functions = g; main = gs; short = omega arith },
      ap (λ (z : List Line). z) (sym (append_assoc (first_lines fs) ((main ∷ []) ∷ []) (raws_lines 1 rs))) ∙ sym (append-nil (lines_of (in_main_lem fs) rs)),
      λ z e. (sym (let u : some (Z (length (heads fs))) ≡ some z = e in let v : Z (length (heads fs)) ≡ z = cc in v) ∙ ap Z (length_heads fs), refl),
    )
complete (in_loop c qs b xs) d rs (good_in_loop g hs r row e o) gs f =
    let lb = length_sized (raws_bytes qs ++ (b ∷ xs)) (raws_bytes rs) in
    let lf = ap length (loop_bytes qs b xs rs) in
    let R = complete c (suc d) (snoc qs (loop b xs rs)) g (snoc_good (scope_of c) (suc d) qs (loop b xs rs) hs (good_loop r row e o gs)) (omega arith) in
    let F = closes_file (state_of (in_loop c qs b xs) rs) (state_of c (snoc qs (loop b xs rs)))
    (closed (scope_of c) (after_of c) (top_of (in_loop c qs b xs)) (top_of c ∷ outer_of c) (raws_bytes rs) same refl
    (ap (state_in c) (sym (loop_bytes qs b xs rs)))) in
    (R.0, R.1, R.2, R.3 ∙ ap (λ (z : List Line). z ++ R.1) (loop_lines c qs b xs rs), λ z u. R.4 z (sym F ∙ u))
complete (in_first c qs b xs) d rs (good_in_first g hs r row e o) gs f =
    let lb = length_sized ((raws_bytes qs ++ (b ∷ xs)) ++ sized (raws_bytes rs)) [] in
    let lc = length_sized (raws_bytes qs ++ (b ∷ xs)) (raws_bytes rs) in
    let lf = ap length (fork_bytes qs b xs rs end) in
    let R =
    complete c (suc d) (snoc qs (fork b xs rs end)) g (snoc_good (scope_of c) (suc d) qs (fork b xs rs end) hs (good_fork r row e o gs good_end))
    (omega arith) in (
      R.0,
      indented (depth_of c) (else ∷ []) ∷ R.1,
      R.2,
      R.3 ∙ ap (λ (z : List Line). z ++ R.1) (fork_lines c qs b xs rs end ∙ first_lines_lem c qs b xs rs)
          ∙ append_assoc (lines_of (in_first c qs b xs) rs) (indented (depth_of c) (else ∷ []) ∷ []) R.1,
      λ z u. no_file (after_of c) z u,
    )
  where
    no_file : {X : Type 0} (a : Option (List Function)) (z : List ℕ)
        → file (sofar (state (scope_of c) a (top_of (in_first c qs b xs) ∷ (top_of c ∷ outer_of c)) (raws_bytes rs))) ≡ some z → X
    no_file none z u = none_not_some u
    no_file (some fs) z u = none_not_some u
complete (in_second c qs b xs q) d rs (good_in_second g hs r row e o gq) gs f =
    let lb = length_sized ((raws_bytes qs ++ (b ∷ xs)) ++ sized (raws_bytes q)) (raws_bytes rs) in
    let lf = ap length (fork_bytes qs b xs q rs) in
    let R = complete c (suc d) (snoc qs (fork b xs q rs)) g (snoc_good (scope_of c) (suc d) qs (fork b xs q rs) hs (good_fork r row e o gq gs)) (omega arith) in
    let F = closes_file (state_of (in_second c qs b xs q) rs) (state_of c (snoc qs (fork b xs q rs)))
    (closed (scope_of c) (after_of c) (top_of (in_second c qs b xs q)) (top_of c ∷ outer_of c) (raws_bytes rs) same refl
    (ap (state_in c) (sym (fork_bytes qs b xs q rs)))) in
    (R.0, R.1, R.2, R.3 ∙ ap (λ (z : List Line). z ++ R.1) (fork_lines c qs b xs q rs), λ z u. R.4 z (sym F ∙ u))

-- the empty program completes what is before the first function
empty_good : GoodProgram (record { functions = []; main = end })
empty_good = record { few = omega arith; functions = no_functions; main = good_end; short = omega arith }

abbrev Backed : List Line → State → Type 0
Backed ls σ =
    (q : RawProgram) × (more : List Line) × GoodProgram q × (raw_program_lines q ≡ ls ++ more)
    × ((z : List ℕ) → file σ ≡ some z → (z ≡ program_bytes q) × (more ≡ []))

backed : (L : List Line) (q : Sofar) (σ : State) → σ ≡ sofar q → Next L q → Backed L σ
backed L q σ e n =
    let c = complete n.0 n.1 n.2 n.3 n.4 (subst (λ (p : Sofar). least p ≤ 4096) n.5 n.7) in (
      c.0,
      c.1,
      c.2,
      c.3 ∙ ap (λ (z : List Line). z ++ c.1) n.6,
      λ z u. c.4 z (ap (λ (p : Sofar). file (sofar p)) (sym n.5) ∙ ap file (sym e) ∙ u),
    )

from_start : (ls : List Line) (σ : State) → run (sofar program_begun) ls ≡ some σ → Backed ((program ∷ decimal 1 ∷ []) ∷ ls) σ
from_start [] σ h =
    let e : some (sofar program_begun) ≡ some σ = h in
    let v : sofar program_begun ≡ σ = cc in
    (record { functions = []; main = end }, (main ∷ []) ∷ [], empty_good, refl, λ z u. none_not_some (ap file v ∙ u))
from_start (l ∷ ls) σ h =
    let r : (p : Sofar) × (takes_one (lines (sofar program_begun)) l ≡ some p) × (run (sofar p) ls ≡ some σ) = ran (sofar program_begun) σ l ls h in
    let n : Next ((program ∷ decimal 1 ∷ []) ∷ l ∷ []) r.0 = top_next [] no_functions (omega arith) (omega arith) l r.0 r.1 in
    let t = all_next ls n.0 n.1 n.2 n.3 n.4 r.0 n.5 n.7 σ r.2 in
    backed ((program ∷ decimal 1 ∷ []) ∷ l ∷ ls) t.0 σ t.1
    (subst (λ (z : List Line). Next z t.0) (ap (λ (z : List Line). z ++ ls) n.6) t.2)

pub runs_back : RunsBack
runs_back [] σ h =
    let e : some fresh ≡ some σ = h in
    let v : fresh ≡ σ = cc in
    (record { functions = []; main = end }, (program ∷ decimal 1 ∷ []) ∷ (main ∷ []) ∷ [], empty_good, refl, λ z u. none_not_some (ap file v ∙ u))
runs_back (l ∷ ls) σ h =
    let r : (p : Sofar) × (takes_one (lines fresh) l ≡ some p) × (run (sofar p) ls ≡ some σ) = ran fresh σ l ls h in
    go r.0 r.2 (took_one (word program (word (decimal 1) (stop (some program_begun)))) [] l r.0 r.1)
  where
    go : (p : Sofar) → run (sofar p) ls ≡ some σ
        → (takes (word program (word (decimal 1) (stop (some program_begun)))) l ≡ some p) ⊎ (takes_one [] l ≡ some p) → Backed (l ∷ ls) σ
    go p k (inl t) =
        let a = took_word program (word (decimal 1) (stop (some program_begun))) l p t in
        let b = took_word (decimal 1) (stop (some program_begun)) a.0 p a.2 in
        let c : (b.0 ≡ []) × (program_begun ≡ p) = took_stop program_begun b.0 p b.2 in
        let e = sym (a.1 ∙ ap (λ (z : List Text). program ∷ z) (b.1 ∙ ap (λ (z : List Text). decimal 1 ∷ z) c.0)) in
        subst (λ (z : Line). Backed (z ∷ ls) σ) e (from_start ls σ (ap (λ (q : Sofar). run (sofar q) ls) c.1 ∙ k))
    go p k (inr t) = none_not_some t
