-- Parts of a read program taken apart, the number that bounds their callees going along: what a block's statements are, and what a statement is by its
-- byte. The laws of the program's own records give each part; the scope is one for a block and all that is in it, so the bound is too.
use mathlib.Core.Bool.{◌||◌}
use mathlib.Core.List.{List}
use mathlib.Core.Logic.{◌≢◌}
use mathlib.Core.Path.{◌≡◌, refl, sym, ap, subst, ◌∙◌}
use native.Mathlib.Omega.{arith}
use Prim.Native.Nat.{ℕ, ◌+◌, ◌<◌, ◌≤◌}
use lib.Dec.{T, eqb, ltb}
use lib.ListN.{length}
use Rattle.rules.specs.Basics.{byte, word}
use Rattle.rules.specs.Syntax.{Side, Statement, Statements, done, ◌⨾◌, Block, block}
use Rattle.rules.specs.Table.{size_of}
use Rattle.rules.specs.Program.{Scope}
use Rattle.theory.specs.Counts.{statement_size, block_size}
use Rattle.program.specs.In.{BlockIn, View}
use Rattle.program.specs.In.{is_init, is_magic, is_free, is_gate, is_measure, is_merge, is_new, is_get, is_set, is_if, is_while, is_call, is_bool}
use Rattle.program.proofs.In.{block_in, statements_end, statements_next, statement_view, statement_byte}
use Rattle.counting.specs.Below.{StatementBelow, BlockBelow, StatementsBelow}
use Rattle.counting.specs.Found.{own_count}

module _ {d : Side} {s : List ℕ} {g at : ℕ} where
  pub block_apart : {q : ℕ} {x : Block d} → BlockBelow s g at x q
      → (ts : Statements d) × (x ≡ block at ts) × (q ≡ at + 2 + word s at) × (q ≤ length s) × StatementsBelow s g (at + 2) q ts
  block_apart h =
      let b = block_in h.stands in
      (b.0, b.2, b.4, b.5, record { scope = h.scope; depths = b.1; callees = h.callees; stands = b.6 })

  pub next_apart : {end : ℕ} {ts : Statements d} → StatementsBelow s g at end ts → at < end
      → (t : Statement d) × (q : ℕ) × (rest : Statements d) × (ts ≡ (t ⨾ rest)) × StatementBelow s g at t q × StatementsBelow s g q end rest
  next_apart h l =
      let n = statements_next h.stands l in (
        n.0,
        n.1,
        n.2,
        n.3,
        record { scope = h.scope; depths = h.depths; callees = h.callees; stands = n.4 },
        record { scope = h.scope; depths = h.depths; callees = h.callees; stands = n.5 },
      )

  pub end_apart : {end : ℕ} {ts : Statements d} → StatementsBelow s g at end ts → end ≤ at → (at ≡ end) × (ts ≡ done)
  end_apart {end} h l = let e : at ≡ end = omega (arith, h.stands.starts) in (e, statements_end h.stands e)

  pub byte_apart : {q : ℕ} {t : Statement d} → StatementBelow s g at t q → (0 < byte s at) × (byte s at < 14) × (at < q) × (q ≤ length s)
  byte_apart h = statement_byte h.stands

-- a statement by what the count does with it
module _ {d : Side} (s : List ℕ) (g at : ℕ) (t : Statement d) (q : ℕ) where
  abbrev Sized : ((ℕ → ℕ) → ℕ) → Type 0
  Sized n = (φ : ℕ → ℕ) → statement_size φ t ≡ n φ

  abbrev pub Operation : Type 0
  Operation = (q ≡ at + size_of (byte s at)) × Sized (λ φ. own_count (byte s at))

  abbrev pub Branches : Type 0
  Branches =
      (b : Block d) × (c : Block d) × (p : ℕ) × BlockBelow s g (at + 2) b p × BlockBelow s g p c q
      × Sized (λ φ. 1 + block_size φ b + block_size φ c)

  abbrev pub Loop : Type 0
  Loop = (b : Block d) × BlockBelow s g (at + 2) b q × Sized (λ φ. 1 + block_size φ b)

  abbrev pub Calls : Type 0
  Calls = (byte s (at + 1) < g) × (q ≡ at + 4 + byte s (at + 2) + byte s (at + 3)) × Sized (λ φ. φ (byte s (at + 1)))

  data Parts : Type 0 where
    operation : byte s at ≢ 10 → byte s at ≢ 11 → byte s at ≢ 12 → Operation → Parts
    branches : byte s at ≡ 10 → Branches → Parts
    loops : byte s at ≡ 11 → Loop → Parts
    calls : byte s at ≡ 12 → Calls → Parts

-- the bytes of operations
abbrev IsOperation : ℕ → Type 0
IsOperation b = T (ltb b 10 || eqb b 13)

module _ {d : Side} {s : List ℕ} {g at : ℕ} where
  -- an operation with byte b, of that size and that count
  plain : {t : Statement d} {q : ℕ} (b n : ℕ) → byte s at ≡ b → IsOperation b → q ≡ at + size_of b → n ≡ own_count b
      → Sized s g at t q (λ φ. n) → Parts s g at t q
  plain b n e o f c h =
      operation
      (λ w. subst IsOperation (sym e ∙ w) o)
      (λ w. subst IsOperation (sym e ∙ w) o)
      (λ w. subst IsOperation (sym e ∙ w) o)
      (f ∙ ap (λ (k : ℕ). at + size_of k) (sym e), λ φ. h φ ∙ c ∙ ap own_count (sym e))

  parts_of : {t : Statement d} {q : ℕ} (S : Scope) (depths : ℕ) → length S.earlier ≤ g → View s S depths at t q → Parts s g at t q
  parts_of S n l (is_init e a b c) = plain 1 1 e tt refl refl λ φ. refl
  parts_of S n l (is_magic e a b c) = plain 2 1 e tt refl refl λ φ. refl
  parts_of S n l (is_free e a b) = plain 3 1 e tt refl refl λ φ. refl
  parts_of S n l (is_gate e a b c) = plain 4 0 e tt refl refl λ φ. refl
  parts_of S n l (is_measure e a b c f) = plain 5 0 e tt refl refl λ φ. refl
  parts_of S n l (is_merge e a b c f h i) = plain 6 1 e tt refl refl λ φ. refl
  parts_of S n l (is_new e a b c) = plain 7 0 e tt refl refl λ φ. refl
  parts_of S n l (is_get e a b c) = plain 8 0 e tt refl refl λ φ. refl
  parts_of S n l (is_set e a b c) = plain 9 0 e tt refl refl λ φ. refl
  parts_of S n l (is_if {b = b} {c = c} {p = p} e a y v w) = branches e (b, c, p, below v, below w, λ φ. refl)
    where
      below : {at q : ℕ} {x : Block d} → BlockIn s S n at x q → BlockBelow s g at x q
      below v = record { scope = S; depths = n; callees = l; stands = v }
  parts_of S n l (is_while {b = b} e a y v) = loops e (b, record { scope = S; depths = n; callees = l; stands = v }, λ φ. refl)
  parts_of S n l (is_call e a f k m i j) = calls e (omega (arith, f, l), refl, λ φ. refl)
  parts_of S n l (is_bool e a b c) = plain 13 0 e tt refl refl λ φ. refl

  module _ {t : Statement d} {q : ℕ} (h : StatementBelow s g at t q) where
    parts : Parts s g at t q
    parts = parts_of h.scope h.depths h.callees (statement_view h.stands)

    pub if_apart : byte s at ≡ 10 → Branches s g at t q
    if_apart e = go parts
      where
        go : Parts s g at t q → Branches s g at t q
        go (operation x y z k) = absurd (x e)
        go (branches f k) = k
        go (loops f k) = absurd (omega (arith, e, f))
        go (calls f k) = absurd (omega (arith, e, f))

    pub while_apart : byte s at ≡ 11 → Loop s g at t q
    while_apart e = go parts
      where
        go : Parts s g at t q → Loop s g at t q
        go (operation x y z k) = absurd (y e)
        go (branches f k) = absurd (omega (arith, e, f))
        go (loops f k) = k
        go (calls f k) = absurd (omega (arith, e, f))

    pub call_apart : byte s at ≡ 12 → Calls s g at t q
    call_apart e = go parts
      where
        go : Parts s g at t q → Calls s g at t q
        go (operation x y z k) = absurd (z e)
        go (branches f k) = absurd (omega (arith, e, f))
        go (loops f k) = absurd (omega (arith, e, f))
        go (calls f k) = k

    pub op_apart : byte s at ≢ 10 → byte s at ≢ 11 → byte s at ≢ 12 → Operation s g at t q
    op_apart x y z = go parts
      where
        go : Parts s g at t q → Operation s g at t q
        go (operation x' y' z' k) = k
        go (branches f k) = absurd (x f)
        go (loops f k) = absurd (y f)
        go (calls f k) = absurd (z f)
