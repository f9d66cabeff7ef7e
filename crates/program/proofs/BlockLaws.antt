-- Laws of a block, one for each way that the code returns: the definition's checks in their order, computed by the code's tests. And of the
-- statements left, which go along with the code's loop: each statement leaves fewer, so the count is enough for the bytes left.
use mathlib.Core.Bool.{Bool, true, false}
use mathlib.Core.List.{List}
use mathlib.Core.Path.{◌≡◌, refl, ap, ◌∙◌}
use native.Mathlib.Omega.{arith}
use Prim.Native.Nat.{ℕ, zero, suc, ◌+◌, ◌-◌, ◌<◌, ◌≤◌}
use borrow.Author.Tests.{lt-ltb, le-ltb, lt-leb, le-leb}
use lib.Dec.{leb}
use Rattle.answers.specs.declared.Refusal.{Refusal}
use Rattle.answers.specs.Check.{Check, ok, refused, refusal, ◌>>=◌, ◌>>◌}
use Rattle.rules.specs.Basics.{word}
use Rattle.rules.specs.Syntax.{Side, Statements, done, ◌⨾◌, Block, block}
use Rattle.rules.specs.Program.{Scope, Read, statement, statements, read_block}
use Rattle.program.specs.Reader.{next_of, block_past, statement_past}
use Rattle.program.proofs.PastLaws.{next_ok, next_refused}

-- the statements from i to the block's end e, of which there are at most so many: the position after them
unfoldable pub rest_past : List ℕ → Side → Scope → ℕ → ℕ → ℕ → ℕ → Check ℕ
rest_past s d S depths more i e = statements s d S (read_block s d S depths) more i e >> ok e

module _ (s : List ℕ) (d : Side) (S : Scope) (i limit : ℕ) where
  pub block_short : (depths : ℕ) → limit < i + 2 → block_past s d S depths i limit ≡ refused (refusal 8 i)
  unfolding block_past next_of ◌>>=◌ ◌>>◌
  block_short zero h = rw (lt-leb (i + 2) limit h)
  block_short (suc depths) h = rw (lt-leb (i + 2) limit h)

  module _ (h : i + 2 ≤ limit) where
    pub block_deep : (depths : ℕ) → depths ≡ 0 → block_past s d S depths i limit ≡ refused (refusal 4 i)
    unfolding block_past next_of ◌>>=◌ ◌>>◌
    block_deep depths e = rw (e, le-leb (i + 2) limit h)

    module _ (len : ℕ) (el : len ≡ word s i) where
      pub block_long : (depths : ℕ) → (depths ≡ 0 → ⊥) → limit < i + 2 + len → block_past s d S depths i limit ≡ refused (refusal 8 i)
      unfolding block_past next_of ◌>>=◌ ◌>>◌
      block_long zero n l = absurd (n refl)
      block_long (suc depths) n l =
          let z : leb (i + 2 + word s i) limit ≡ false = lt-leb (i + 2 + word s i) limit (omega arith) in
          rw (le-leb (i + 2) limit h, z)

      pub block_enter : (depths : ℕ) → (depths ≡ 0 → ⊥) → i + 2 + len ≤ limit
          → block_past s d S depths i limit ≡ rest_past s d S (depths - 1) len (i + 2) (i + 2 + len)
      unfolding block_past rest_past next_of ◌>>=◌ ◌>>◌
      block_enter zero n l = absurd (n refl)
      block_enter (suc depths) n l =
          let z : leb (i + 2 + word s i) limit ≡ true = le-leb (i + 2 + word s i) limit (omega arith) in
          let m : suc depths - 1 ≡ depths = omega arith in
          rw (le-leb (i + 2) limit h, z, m, el) (go (statements s d S (read_block s d S depths) (word s i) (i + 2) (i + 2 + word s i)))
        where
          go : (m : Check (Statements d))
              → next_of {A = Block d} (m >>= λ b. ok (record { it = block i b; next = i + 2 + word s i })) ≡ (m >> ok (i + 2 + word s i))
          go (ok b) = refl
          go (refused x) = refl

module _ (s : List ℕ) (d : Side) (S : Scope) (depths : ℕ) where
  abbrev inner : ℕ → ℕ → Check (Read (Block d))
  inner = read_block s d S depths

  -- whether there is a statement left, by the test
  abbrev choice : ℕ → ℕ → ℕ → Bool → Check (Statements d)
  choice more i e b = elim b [
    | false ↦ ok done
    | true ↦ statement s d S inner i e >>= λ t. statements s d S inner more t.next e >>= λ rest. ok (t.it ⨾ rest)
  ]

  pub rest_end : (more i e : ℕ) → i ≤ e → e ≤ i → rest_past s d S depths more i e ≡ ok e
  unfolding rest_past ◌>>◌
  rest_end zero i e h l = refl
  rest_end (suc more) i e h l = ap (λ (b : Bool). choice more i e b >> ok e) (le-ltb i e l)

  module _ (more i e : ℕ) (h : i < e) (l : e - i ≤ more) where
    pub rest_more : (q : ℕ) → statement_past s d S depths i e ≡ ok q → rest_past s d S depths more i e ≡ rest_past s d S depths (more - 1) q e
    unfolding rest_past statement_past ◌>>=◌ ◌>>◌
    rest_more q f = go more l
      where
        again : (m : Check (Statements d)) (g : Statements d → Statements d) → ((m >>= λ x. ok (g x)) >> ok e) ≡ (m >> ok e)
        again (ok x) g = refl
        again (refused y) g = refl

        go : (more : ℕ) → e - i ≤ more → rest_past s d S depths more i e ≡ rest_past s d S depths (more - 1) q e
        go zero l = absurd (omega arith)
        go (suc more) l =
            let (t, et, en) = next_ok (statement s d S inner i e) q f in
            let m : suc more - 1 ≡ more = omega arith in
            ap (λ (b : Bool). choice more i e b >> ok e) (lt-ltb i e h) ∙ rw (et, en, m) (again (statements s d S inner more q e) _)

    pub rest_refused : (x : Refusal) → statement_past s d S depths i e ≡ refused x → rest_past s d S depths more i e ≡ refused x
    unfolding rest_past statement_past ◌>>=◌ ◌>>◌
    rest_refused x f = go more l
      where
        go : (more : ℕ) → e - i ≤ more → rest_past s d S depths more i e ≡ refused x
        go zero l = absurd (omega arith)
        go (suc more) l = ap (λ (b : Bool). choice more i e b >> ok e) (lt-ltb i e h) ∙ rw (next_refused (statement s d S inner i e) x f)
