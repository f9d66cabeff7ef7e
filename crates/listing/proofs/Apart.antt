-- A statement by what the writer does with it: an operation, an if, a while or a call; and where its parts stand.
use Rattle.std.proofs.Common.{List, ◌≡◌, ◌≢◌, ℕ, sym, ap, subst, ◌∙◌, ◌+◌, ◌<◌, ◌≤◌, length, arith}
use mathlib.Core.Bool.{◌||◌}
use lib.Dec.{T, eqb, ltb}
use Rattle.rules.specs.Basics.{byte, word}
use Rattle.rules.specs.Syntax.{Side, Op, Statement, op, if, while, call, Block}
use Rattle.rules.specs.Table.{size_of}
use Rattle.rules.specs.Program.{Scope}
use Rattle.program.specs.In.{BlockIn, StatementIn, call_places, call_slots}
use Rattle.program.specs.In.{View, is_init, is_magic, is_free, is_gate, is_measure, is_merge, is_new, is_get, is_set, is_if, is_while, is_call, is_bool}
use Rattle.program.proofs.In.{block_in, statement_view, statement_byte}
use Rattle.listing.specs.declared.writer.Writer.{Writer}
use Rattle.listing.specs.Blocks.{BlockHere, StatementHere, BlockPut, StatementPut}

pub data Apart {d : Side} (s : List ℕ) (S : Scope) (depths i : ℕ) : Statement d → ℕ → Type 0 where
  operation : {a : Op d} {q : ℕ} → byte s i ≢ 10 → byte s i ≢ 11 → byte s i ≢ 12 → q ≡ i + size_of (byte s i) → q ≤ length s
      → Apart s S depths i (op i a) q
  branches : {y : ℕ} {b c : Block d} {p q : ℕ} → byte s i ≡ 10 → i + 2 ≤ length s → BlockIn s S depths (i + 2) b p → BlockIn s S depths p c q
      → Apart s S depths i (if i y b c) q
  loops : {r : ℕ} {b : Block d} {q : ℕ} → byte s i ≡ 11 → i + 2 ≤ length s → BlockIn s S depths (i + 2) b q → Apart s S depths i (while i r b) q
  calls : {f : ℕ} → byte s i ≡ 12 → i + 4 + byte s (i + 2) + byte s (i + 3) ≤ length s
      → Apart s S depths i (call i f (call_places s i) (call_slots s i)) (i + 4 + byte s (i + 2) + byte s (i + 3))

-- the bytes of operations
abbrev IsOperation : ℕ → Type 0
IsOperation b = T (ltb b 10 || eqb b 13)

module _ {d : Side} {s : List ℕ} {S : Scope} {depths i : ℕ} where
  -- an operation with byte b, of that size
  plain : {a : Op d} (b : ℕ) → byte s i ≡ b → IsOperation b → i + size_of b ≤ length s → Apart s S depths i (op i a) (i + size_of b)
  plain b e o l =
      operation
      (λ w. subst IsOperation (sym e ∙ w) o)
      (λ w. subst IsOperation (sym e ∙ w) o)
      (λ w. subst IsOperation (sym e ∙ w) o)
      (ap (λ (k : ℕ). i + size_of k) (sym e))
      l

  apart_by : {t : Statement d} {q : ℕ} → View s S depths i t q → Apart s S depths i t q
  apart_by (is_init e l a b) = plain 1 e tt l
  apart_by (is_magic e l a b) = plain 2 e tt l
  apart_by (is_free e l a) = plain 3 e tt l
  apart_by (is_gate e l a b) = plain 4 e tt l
  apart_by (is_measure e l a b c) = plain 5 e tt l
  apart_by (is_merge e l a b c f g) = plain 6 e tt l
  apart_by (is_new e l a b) = plain 7 e tt l
  apart_by (is_get e l a b) = plain 8 e tt l
  apart_by (is_set e l a b) = plain 9 e tt l
  apart_by (is_if e l a b c) = branches e l b c
  apart_by (is_while e l a b) = loops e l b
  apart_by (is_call e l a b c f g) = calls e l
  apart_by (is_bool e l a b) = plain 13 e tt l

  pub apart : {t : Statement d} {q : ℕ} → StatementIn s S depths i t q → Apart s S depths i t q
  apart h = apart_by (statement_view h)

  -- the fixed part of a statement lies in the file
  fixed_inside : {t : Statement d} {q : ℕ} → Apart s S depths i t q → i + size_of (byte s i) ≤ length s
  fixed_inside (operation a b c e l) = omega arith
  fixed_inside (branches e l b c) = rw (ap size_of e) l
  fixed_inside (loops e l b) = rw (ap size_of e) l
  fixed_inside (calls e l) = rw (ap size_of e) (omega arith)

-- what stands at a place, for a call of the writer there
here : {d : Side} {s : List ℕ} {S : Scope} {depths i q : ℕ} {x : Block d} (n : ℕ) → length s ≤ 4096 → n + depths ≤ 8 → BlockIn s S depths i x q
    → BlockHere s (n + 1) i
here {d} {s} {S} {depths} {q = q} {x = x} n z k b = record {
  side = d;
  scope = S;
  depths = depths;
  tree = x;
  past = q;
  stands = b;
  shallow = omega arith;
  size = z;
}

module _ {s : List ℕ} {n i : ℕ} where
  pub block_fits : BlockHere s n i → i + 2 + word s i ≤ length s
  block_fits h = omega (arith, (block_in h.stands).4, (block_in h.stands).5)

  pub statement_fits : StatementHere s n i → (0 < byte s i) × (byte s i < 14) × (i + size_of (byte s i) ≤ length s)
  statement_fits h = ((statement_byte h.stands).0, (statement_byte h.stands).1, fixed_inside (apart h.stands))

  pub inside : StatementHere s n i → i < length s
  inside h = omega (arith, (statement_byte h.stands).2, (statement_byte h.stands).3)

  -- the statement is not empty
  pub goes_on : {a b : Writer} {r : ℕ} → StatementHere s n i → StatementPut s n i a r b → i < r
  goes_on h p = omega (arith, (statement_byte h.stands).2, (p.statement h.side h.scope h.depths h.tree h.past h.stands).0)

  pub call_fits : StatementHere s n i → byte s i ≡ 12 → i + 4 + byte s (i + 2) + byte s (i + 3) ≤ length s
  call_fits h e = go (apart h.stands)
    where
      go : {d : Side} {S : Scope} {depths : ℕ} {t : Statement d} {q : ℕ} → Apart s S depths i t q → i + 4 + byte s (i + 2) + byte s (i + 3) ≤ length s
      go (operation x y w f l) = absurd (w e)
      go (branches f l b c) = absurd (omega arith)
      go (loops f l b) = absurd (omega arith)
      go (calls f l) = l

  -- the block of a while, and the first of an if
  pub while_here : StatementHere s n i → byte s i ≡ 11 → BlockHere s (n + 1) (i + 2)
  while_here h e = go h.shallow (apart h.stands)
    where
      go : {d : Side} {S : Scope} {depths : ℕ} {t : Statement d} {q : ℕ} → n + depths ≤ 8 → Apart s S depths i t q → BlockHere s (n + 1) (i + 2)
      go k (operation x y w f l) = absurd (y e)
      go k (branches f l b c) = absurd (omega arith)
      go k (loops f l b) = here n h.size k b
      go k (calls f l) = absurd (omega arith)

  pub if_here : StatementHere s n i → byte s i ≡ 10 → BlockHere s (n + 1) (i + 2)
  if_here h e = go h.shallow (apart h.stands)
    where
      go : {d : Side} {S : Scope} {depths : ℕ} {t : Statement d} {q : ℕ} → n + depths ≤ 8 → Apart s S depths i t q → BlockHere s (n + 1) (i + 2)
      go k (operation x y w f l) = absurd (x e)
      go k (branches f l b c) = here n h.size k b
      go k (loops f l b) = absurd (omega arith)
      go k (calls f l) = absurd (omega arith)

  -- the second of an if, after the first
  pub else_here : {a b : Writer} {r : ℕ} → StatementHere s n i → byte s i ≡ 10 → BlockPut s (n + 1) (i + 2) a r b → BlockHere s (n + 1) r
  else_here {r = r} h e m = go h.shallow (apart h.stands)
    where
      go : {d : Side} {S : Scope} {depths : ℕ} {t : Statement d} {q : ℕ} → n + depths ≤ 8 → Apart s S depths i t q → BlockHere s (n + 1) r
      go k (operation x y w f l) = absurd (x e)
      go {d} {S} {depths} k (branches {b = x} {c = y} {q = q} f l b c) =
          here n h.size k (subst (λ (j : ℕ). BlockIn s S depths j y q) (sym (m.block d S depths x _ b).0) c)
      go k (loops f l b) = absurd (omega arith)
      go k (calls f l) = absurd (omega arith)
