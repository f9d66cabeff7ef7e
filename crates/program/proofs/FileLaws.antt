-- Laws of a whole file: its header, its functions and main, the file and its name. One law for each way that the code returns, by the
-- definition's checks in their order.
use mathlib.Core.Bool.{true, false}
use mathlib.Core.List.{List, []}
use mathlib.Core.Path.{◌≡◌, refl, sym, ap, subst, ◌∙◌}
use Prim.Native.Nat.{ℕ, ◌<◌, ◌≤◌}
use borrow.Author.Tests.{lt-leb, le-leb, eq-eqb, ne_eqb, leb-true}
use lib.Dec.{leb, eqb}
use lib.ListN.{length}
use Rattle.std.specs.Prelude.{Result, Ok, Err}
use Rattle.answers.specs.declared.Refusal.{Refusal}
use Rattle.answers.specs.Said.{said}
use Rattle.answers.specs.Check.{Check, ok, refused, refusal, ◌>>=◌, ◌>>◌, need}
use Rattle.answers.proofs.Laws.{Holds, holds_then, holds_need, holds_at, by, ok_not_refused}
use Rattle.rules.specs.declared.program.ProgramHeader.{ProgramHeader}
use Rattle.rules.specs.Basics.{byte, word, has_mark}
use Rattle.rules.specs.Syntax.{device, Function, Program, Block}
use Rattle.rules.specs.Program.{Scope, Read, program_header, read_block, functions_at, read_program}
use Rattle.program.specs.declared.functions.FunctionTable.{FunctionTable}
use Rattle.program.specs.declared.functions.Functions.{Functions}
use Rattle.program.specs.declared.Parts.{Parts}
use Rattle.program.specs.In.{offset_of}
use Rattle.program.specs.Reading.{accepts, tree, Reading}
use Rattle.program.specs.Reader.{block_past, Heads, Tabled, FunctionsAs, head_of, main_at, body_at, ReadAs}
use Rattle.program.proofs.PastLaws.{next_ok, next_refused}
use Rattle.program.proofs.FunctionLaws.{block_offset}

module _ (s : List ℕ) where
  pub head_short : length s < 8 → head_of s ≡ refused (refusal 1 0)
  unfolding head_of ◌>>◌
  head_short h = rw (lt-leb 8 (length s) h)

  module _ (a : 8 ≤ length s) where
    pub head_long : 4096 < length s → head_of s ≡ refused (refusal 4 0)
    unfolding head_of ◌>>◌
    head_long h = rw (le-leb 8 (length s) a, lt-leb (length s) 4096 h)

    module _ (b : length s ≤ 4096) where
      pub head_mark : has_mark s 0x53 ≡ false → head_of s ≡ refused (refusal 2 0)
      unfolding head_of ◌>>◌
      head_mark h = rw (le-leb 8 (length s) a, le-leb (length s) 4096 b, h)

      module _ (m : has_mark s 0x53 ≡ true) where
        pub head_version : (word s 3 ≡ 1 → ⊥) → head_of s ≡ refused (refusal 3 3)
        unfolding head_of ◌>>◌
        head_version h = rw (le-leb 8 (length s) a, le-leb (length s) 4096 b, m, ne_eqb (word s 3) 1 h)

        pub head_made : word s 3 ≡ 1 → head_of s ≡ program_header (byte s 5)
        unfolding head_of ◌>>◌
        head_made h = rw (le-leb 8 (length s) a, le-leb (length s) 4096 b, m, eq-eqb (word s 3) 1 h)

  -- what a header that reads says
  pub record Headed (h : ProgramHeader) : Type 0 where
    pub long : 8 ≤ length s
    pub short : length s ≤ 4096
    pub few : h.functions ≤ 15

  pub headed : (h : ProgramHeader) → head_of s ≡ ok h → Headed h
  unfolding head_of
  headed h e = holds_at all e
    where
      all : Holds Headed (head_of s)
      all =
          holds_then (holds_need (leb 8 (length s)) 1 0) λ u a.
          holds_then (holds_need (leb (length s) 4096) 4 0) λ u b.
          holds_then (holds_need (has_mark s 0x53) 2 0) λ u m.
          holds_then (holds_need (eqb (word s 3) 1) 3 3) λ u v.
          holds_then (holds_need (leb (byte s 5) 15) 4 5) λ u f.
          by (record { long = leb-true _ _ a; short = leb-true _ _ b; few = leb-true _ _ f })

abbrev forget : {A : Type 0} → Check A → Check (Unit {0})
forget (ok a) = ok tt
forget (refused r) = refused r

-- a read that refuses says nothing of a table
pub read_refused : (m : Check Program) (r : Result Parts Refusal) (x : Refusal) → m ≡ refused x → said r ≡ refused x → ReadAs m r
unfolding ◌>>◌
read_refused m (Ok t) x e a = ok_not_refused a
read_refused m (Err y) x e a = record { answers = ap (λ (c : Check Parts). forget c) a ∙ rw e; tables = λ p f. tt }

-- Main.
module _ (s : List ℕ) (i : ℕ) (fs : List Function) where
  abbrev S : Scope
  S = record { places = 256; earlier = fs }

  -- what follows main's block
  abbrev ended : Read (Block device) → Check Program
  ended b = need (eqb b.next (length s)) 8 b.next >> ok (record { functions = fs; main = b.it })

  pub main_refused : (x : Refusal) → block_past s device S 8 i (length s) ≡ refused x → main_at s i fs ≡ refused x
  unfolding main_at block_past ◌>>=◌
  main_refused x e = ap (λ (b : Check (Read (Block device))). b >>= ended) (next_refused (read_block s device S 8 i (length s)) x e)

  -- main's block is read up to q
  pub record MainRead (q : ℕ) : Type 0 where
    pub main : Block device
    pub at : offset_of main ≡ i
    pub reads : main_at s i fs ≡ ended (record { it = main; next = q })

  main_read : (q : ℕ) → block_past s device S 8 i (length s) ≡ ok q → MainRead q
  unfolding main_at block_past ◌>>=◌
  main_read q e = let (b, eb, en) = next_ok (read_block s device S 8 i (length s)) q e in record {
    main = b.it;
    at = holds_at (block_offset s device S 8 i (length s)) eb;
    reads = ap (λ (b : Check (Read (Block device))). b >>= ended) eb ∙ ap (λ (p : ℕ). ended (record { it = b.it; next = p })) en;
  }

  pub main_more : (q : ℕ) → block_past s device S 8 i (length s) ≡ ok q → (q ≡ length s → ⊥) → main_at s i fs ≡ refused (refusal 8 q)
  unfolding ◌>>◌
  main_more q e n = (main_read q e).reads ∙ rw (ne_eqb q (length s) n)

  pub main_made : (t : FunctionTable) → Heads fs t → (q : ℕ) → block_past s device S 8 i (length s) ≡ ok q → q ≡ length s
      → ReadAs (main_at s i fs) (Ok (record { functions = t; main = i }))
  unfolding ◌>>◌
  main_made t h q e l = let m = main_read q e in go m.main m.at (m.reads ∙ rw (eq-eqb q (length s) l))
    where
      go : (b : Block device) → offset_of b ≡ i → main_at s i fs ≡ ok (record { functions = fs; main = b })
          → ReadAs (main_at s i fs) (Ok (record { functions = t; main = i }))
      go b o f = record { answers = rw f; tables = λ p g. tabled p (sym g ∙ f) }
        where
          tabled : (p : Program) → ok p ≡ ok (record { functions = fs; main = b }) → Tabled p t i
          tabled p g = let w : p ≡ record { functions = fs; main = b } = cc in rw w (record { heads = h; main_at_lem = sym o })

-- The functions, then main.
module _ (s : List ℕ) (n : ℕ) where
  pub body_refused : (x : Refusal) → FunctionsAs (functions_at s n 6 []) (Err x) → body_at s n ≡ refused x
  unfolding body_at ◌>>=◌
  body_refused x h = rw (next_refused (functions_at s n 6 []) x (sym h.answers))

  pub body_made : (f : Functions) (r : Result Parts Refusal) → FunctionsAs (functions_at s n 6 []) (Ok f)
      → ((fs : List Function) → Heads fs f.table → ReadAs (main_at s f.next fs) r) → ReadAs (body_at s n) r
  unfolding body_at ◌>>=◌
  body_made f r h g = let (fs, ef, en) = next_ok (functions_at s n 6 []) f.next (sym h.answers) in go fs ef en (h.tables fs ef)
    where
      go : (fs : Read (List Function)) → functions_at s n 6 [] ≡ ok fs → fs.next ≡ f.next → Heads fs.it f.table → ReadAs (body_at s n) r
      go fs ef en hs = rw (ef, en) (g fs.it hs)

-- The file: its header, then its bodies.
after_five : {A B : Type 0} (a b c d : Check (Unit {0})) (e : Check A) (f : A → Check B)
    → (a >> (b >> (c >> (d >> (e >>= f))))) ≡ ((a >> (b >> (c >> (d >> e)))) >>= f)
unfolding ◌>>=◌ ◌>>◌
after_five (ok u) (ok v) (ok w) (ok x) e f = refl
after_five (ok u) (ok v) (ok w) (refused x) e f = refl
after_five (ok u) (ok v) (refused x) d e f = refl
after_five (ok u) (refused x) c d e f = refl
after_five (refused x) b c d e f = refl

by_head : (s : List ℕ) → read_program s ≡ (head_of s >>= λ h. body_at s h.functions)
unfolding head_of body_at main_at
by_head s =
    after_five (need (leb 8 (length s)) 1 0) (need (leb (length s) 4096) 4 0) (need (has_mark s 0x53) 2 0) (need (eqb (word s 3) 1) 3 3)
    (program_header (byte s 5)) (λ h. body_at s h.functions)

module _ (s : List ℕ) where
  pub file_refused : (x : Refusal) → head_of s ≡ refused x → read_program s ≡ refused x
  unfolding ◌>>=◌
  file_refused x e = by_head s ∙ rw e

  pub file_made : (h : ProgramHeader) (r : Result Parts Refusal) → head_of s ≡ ok h → ReadAs (body_at s h.functions) r
      → ReadAs (read_program s) r
  unfolding ◌>>=◌
  file_made h r e b =
      let q : read_program s ≡ body_at s h.functions = by_head s ∙ rw e in
      subst (λ (m : Check Program). ReadAs m r) (sym q) b

-- The file read: in one fact, and what an answer says of the definition.
module _ (s : List ℕ) where
  pub read_whole : (t : Parts) → ReadAs (read_program s) (Ok t) → Reading s t.functions t.main
  unfolding ◌>>◌
  read_whole t h = go (read_program s) refl h
    where
      go : (m : Check Program) → read_program s ≡ m → ReadAs m (Ok t) → Reading s t.functions t.main
      go (ok p) e h = record { reads = ap accepts e; tabled = tabled p e (h.tables p refl) }
        where
          tabled : (p : Program) → read_program s ≡ ok p → Tabled p t.functions t.main → Tabled (tree s) t.functions t.main
          tabled p e T = rw (tree, e) T
      go (refused x) e h = ok_not_refused h.answers
