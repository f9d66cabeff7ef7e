-- A whole program: its table says where every body stands, and main's place where main does. The functions are put one after the other, each its head
-- and its body, then main.
use Rattle.std.proofs.Common.{true, List, [], ◌∷◌, ◌++◌, ◌≡◌, ℕ, suc, refl, sym, ap, subst, ◌∙◌}
use Rattle.std.proofs.Common.{◌+◌, ◌<◌, ◌≤◌, length, drop, drop-cons, drop_of_length-le, add-one, arith}
use Rattle.std.proofs.lemmas.Bool.{false≢true}
use Rattle.answers.specs.Check.{Check, ok, refused, ◌>>=◌}
use Rattle.rules.specs.Syntax.{device, parameter, Function, function, block, done, Program}
use Rattle.rules.specs.Words.{Text, written, decimal}
use Rattle.rules.specs.Names.{program, main}
use Rattle.rules.specs.Program.{read_program}
use Rattle.rules.specs.Listing.{Line, head_line, block_lines, functions_lines, program_lines, listing}
use Rattle.program.specs.In.{ProgramIn, BlockIn, scope_of, main_scope}
use Rattle.program.specs.Heads.{entry}
use Rattle.program.specs.Reading.{accepts, tree, Reading}
use Rattle.program.specs.declared.functions.Head.{Head}
use Rattle.program.specs.declared.functions.FunctionTable.{FunctionTable}
use Rattle.program.proofs.In.{program_in}
use Rattle.listing.specs.declared.writer.Writer.{Writer}
use Rattle.listing.specs.Puts.{Puts}
use Rattle.listing.specs.Blocks.{BlockHere, BlockPut}
use Rattle.listing.specs.Whole.{functions_text}
use Rattle.listing.proofs.Putting.{puts_as, puts_then, Left, left_start, left_next, left_none}
use Rattle.listing.proofs.LineLaws.{written_append}

module _ {s : List ℕ} {t : FunctionTable} {m : ℕ} (h : Reading s t m) where
  pub reads : read_program s ≡ ok (tree s)
  reads = go (read_program s) h.reads
    where
      go : (m : Check Program) → accepts m ≡ true → m ≡ ok (elim m [ ok p ↦ p | refused r ↦ record { functions = []; main = block 0 done } ])
      go (ok p) e = refl
      go (refused r) e = absurd (false≢true e)

  stands : ProgramIn s (tree s)
  stands = program_in s (tree s) reads

  -- the body of a function, where the table says
  body_in : (g : ℕ) → g < t.count → (q : ℕ) × BlockIn s (scope_of (tree s).functions g) 8 (entry t g).body (function (tree s).functions g).body q
  body_in g l =
      let fs : List Function = (tree s).functions in
      let k : g < length fs = omega (arith, h.tabled.heads.count) in
      let b = stands.body g k in
      (b.0, subst (λ (i : ℕ). BlockIn s (scope_of fs g) 8 i (function fs g).body b.0) (sym (h.tabled.heads.bodies g k)) b.1)

  pub function_here : (g : ℕ) → g < t.count → BlockHere s 1 (entry t g).body
  function_here g l = record {
    side = parameter;
    scope = scope_of (tree s).functions g;
    depths = 8;
    tree = (function (tree s).functions g).body;
    past = (body_in g l).0;
    stands = (body_in g l).1;
    shallow = omega arith;
    size = stands.size;
  }

  main_in : BlockIn s (main_scope (tree s).functions) 8 m (tree s).main (length s)
  main_in =
      subst (λ (i : ℕ). BlockIn s (main_scope (tree s).functions) 8 i (tree s).main (length s)) (sym h.tabled.main_at_lem) stands.main

  pub main_here : BlockHere s 1 m
  main_here = record {
    side = device;
    scope = main_scope (tree s).functions;
    depths = 8;
    tree = (tree s).main;
    past = length s;
    stands = main_in;
    shallow = omega arith;
    size = stands.size;
  }

-- the functions from number g on
abbrev pub functions_from : List ℕ → List Function → ℕ → Text
functions_from s fs g = written (functions_lines s g (drop g fs))

-- the head of number g as the table has it
abbrev pub head_of : ℕ → Head → Text
head_of g head = written (head_line g head.locations head.arguments ∷ [])

module _ (s : List ℕ) (fs : List Function) (g : ℕ) where
  abbrev body : List Line
  body = block_lines s 1 (function fs g).body

  abbrev later : List Line
  later = functions_lines s (suc g) (drop (suc g) fs)

  head_first : g < length fs → functions_from s fs g ≡ written (head_line g (function fs g).k (function fs g).m ∷ []) ++ written (body ++ later)
  head_first l =
      ap (λ (q : List Function). written (functions_lines s g q)) (drop-cons fs g (record { k = 0; m = 0; body = block 0 done }) l)
      ∙ written_append (head_line g (function fs g).k (function fs g).m ∷ []) (body ++ later)

  body_next : written (body ++ later) ≡ written body ++ functions_from s fs (g + 1)
  body_next = written_append body later ∙ ap (λ (k : ℕ). written body ++ written (functions_lines s k (drop k fs))) (sym (add-one g))

-- the functions from number g on are left to be put
pub record FunctionsLeft (s : List ℕ) (a b : Writer) (g : ℕ) : Type 0 where
  pub left : Left a (functions_text s) b (functions_from s (tree s).functions g)

module _ {s : List ℕ} {a : Writer} where
  pub functions_start : FunctionsLeft s a a 0
  unfolding functions_text
  functions_start = record { left = left_start refl }

  pub functions_step : {t : FunctionTable} {b c d : Writer} {m r : ℕ} (g : ℕ) → Reading s t m → g < t.count → FunctionsLeft s a b g
      → Puts b (head_of g (entry t g)) c → BlockPut s 1 (entry t g).body c r d → FunctionsLeft s a d (g + 1)
  functions_step {t = t} {c = c} {d = d} g h o f u v =
      let k = head_first s fs g (omega (arith, h.tabled.heads.count)) in
      record { left = left_next (left_next f.left k (puts_as head u)) (body_next s fs g) own }
    where
      fs : List Function
      fs = (tree s).functions

      head : head_of g (entry t g) ≡ written (head_line g (function fs g).k (function fs g).m ∷ [])
      head =
          ap (λ (x : ℕ). written (head_line g x (entry t g).arguments ∷ [])) (h.tabled.heads.ks g)
          ∙ ap (λ (x : ℕ). written (head_line g (function fs g).k x ∷ [])) (h.tabled.heads.ms g)

      own : Puts c (written (body s fs g)) d
      own = let b = body_in h g o in (v.block parameter (scope_of fs g) 8 (function fs g).body b.0 b.1).1

  pub functions_all : {b : Writer} {t : FunctionTable} {m : ℕ} (g : ℕ) → Reading s t m → t.count ≤ g → FunctionsLeft s a b g
      → Puts a (functions_text s) b
  functions_all g h o f =
      let n : length (tree s).functions ≤ g = omega (arith, h.tabled.heads.count) in
      left_none f.left (ap (λ (q : List Function). written (functions_lines s g q)) (drop_of_length-le (tree s).functions n))

-- a program that was read has this listing
pub listing_is : {s : List ℕ} {t : FunctionTable} {m : ℕ} → Reading s t m → listing s ≡ ok (written (program_lines s (tree s)))
unfolding ◌>>=◌
listing_is {s} h = ap (λ (x : Check Program). x >>= λ q. ok (written (program_lines s q))) (reads h)

-- the first line, the functions, main's line and main
pub program_puts : {s : List ℕ} {o₀ o₁ o₂ o₃ o₄ : Writer} {t : FunctionTable} {m r : ℕ} → Reading s t m
    → Puts o₀ (written ((program ∷ decimal 1 ∷ []) ∷ [])) o₁ → Puts o₁ (functions_text s) o₂
    → Puts o₂ (written ((main ∷ []) ∷ [])) o₃ → BlockPut s 1 m o₃ r o₄ → (text : Text) → listing s ≡ ok text → Puts o₀ text o₄
unfolding functions_text
program_puts {s} h a b c d text e =
    let body = (d.block device (main_scope fs) 8 (tree s).main (length s) (main_in h)).1 in
    puts_as (lines ∙ same) (puts_then a (puts_then b (puts_then c body)))
  where
    fs : List Function
    fs = (tree s).functions

    same : written (program_lines s (tree s)) ≡ text
    same = let f = listing_is h in cc

    lines : written ((program ∷ decimal 1 ∷ []) ∷ [])
        ++ (written (functions_lines s 0 fs) ++ (written ((main ∷ []) ∷ []) ++ written (block_lines s 1 (tree s).main)))
        ≡ written (program_lines s (tree s))
    lines =
        let first : Line = program ∷ decimal 1 ∷ [] in
        let own = functions_lines s 0 fs in
        let last = block_lines s 1 (tree s).main in
        ap (λ (t : Text). written (first ∷ []) ++ (written own ++ t)) (sym (written_append ((main ∷ []) ∷ []) last))
        ∙ ap (λ (t : Text). written (first ∷ []) ++ t) (sym (written_append own ((main ∷ []) ∷ last)))
        ∙ sym (written_append (first ∷ []) (own ++ ((main ∷ []) ∷ last)))
