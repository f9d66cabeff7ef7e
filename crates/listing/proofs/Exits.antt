-- What each way out of a statement gives. Its lines are its own, then those of its blocks, with the else between those of an if.
use Rattle.std.proofs.Common.{List, [], ◌∷◌, ◌++◌, map, ◌≡◌, ◌≢◌, ◌⊎◌, ℕ, zero, suc, refl, sym, ap, subst, ◌∙◌, ◌+◌, add-one, arith}
use Rattle.rules.specs.declared.statements.Kind.{Kind}
use Rattle.rules.specs.declared.statements.Kind.TheVariants.{Init, Magic, Free, Gate, Measure, Merge, Ref, Get, Set, Bool}
use Rattle.rules.specs.Basics.{up_to, byte}
use Rattle.rules.specs.Syntax.{Side, Place, Statement, Block}
use Rattle.rules.specs.Table.{size_of}
use Rattle.rules.specs.Program.{Scope}
use Rattle.rules.specs.Words.{Text, written}
use Rattle.rules.specs.Names.{else, at, with}
use Rattle.rules.specs.Kinds.{byte_of}
use Rattle.rules.specs.Listing.{Line, indented, listed, fixed_line, statement_lines, block_lines}
use Rattle.program.specs.In.{BlockIn, call_slots}
use Rattle.listing.specs.declared.writer.Writer.{Writer}
use Rattle.listing.specs.Puts.{Puts}
use Rattle.listing.specs.Lines.{call_line}
use Rattle.listing.specs.Blocks.{BlockPut, StatementPut}
use Rattle.listing.proofs.Putting.{puts_as, puts_then}
use Rattle.listing.proofs.LineLaws.{written_append}
use Rattle.listing.proofs.Apart.{Apart, operation, branches, loops, calls, apart}

-- the numbers of a call's places
places_are : (d : Side) (s : List ℕ) (i k : ℕ) → map (λ (l : Place d). l.no) (up_to i k λ j. record { no = byte s j }) ≡ up_to i k (byte s)
places_are d s i zero = refl
places_are d s i (suc k) = ap (λ (l : List ℕ). byte s i ∷ l) (places_are d s (suc i) k)

-- the kinds of operations
pub operation_byte : (k : Kind) (b : ℕ) → byte_of k ≡ b
    → (k ≡ Init) ⊎ ((k ≡ Magic) ⊎ ((k ≡ Free) ⊎ ((k ≡ Gate) ⊎ ((k ≡ Measure) ⊎ ((k ≡ Merge) ⊎ ((k ≡ Ref) ⊎ ((k ≡ Get) ⊎ ((k ≡ Set) ⊎ (k ≡ Bool)))))))))
    → (b ≢ 10) × (b ≢ 11) × (b ≢ 12)
operation_byte k b e h = (λ f. grind arith, λ f. grind arith, λ f. grind arith)

module _ (s : List ℕ) (n i : ℕ) where
  abbrev own : Line
  own = indented n (fixed_line s i)

  -- a line before others
  line_then : (l : Line) (ls : List Line) → written (l ∷ []) ++ written ls ≡ written (l ∷ ls)
  line_then l ls = sym (written_append (l ∷ []) ls)

  module _ {a b : Writer} where
    pub op_exit : (r : ℕ) → (byte s i ≢ 10) × (byte s i ≢ 11) × (byte s i ≢ 12) → r ≡ i + size_of (byte s i) → Puts a (written (own ∷ [])) b
        → StatementPut s n i a r b
    op_exit r x f h = record { statement = λ d S depths t q k. go (apart k) }
      where
        go : {d : Side} {S : Scope} {depths : ℕ} {t : Statement d} {q : ℕ} → Apart s S depths i t q → (r ≡ q) × Puts a (written (statement_lines s n t)) b
        go (operation y z w g l) = (omega arith, h)
        go (branches g l u v) = absurd (x.0 g)
        go (loops g l u) = absurd (x.1 g)
        go (calls g l) = absurd (x.2 g)

    pub call_exit : (r : ℕ) → byte s i ≡ 12 → r ≡ i + 4 + byte s (i + 2) + byte s (i + 3) → Puts a (call_line s n i) b
        → StatementPut s n i a r b
    call_exit r f g h = record { statement = λ d S depths t q k. go (apart k) }
      where
        go : {d : Side} {S : Scope} {depths : ℕ} {t : Statement d} {q : ℕ} → Apart s S depths i t q → (r ≡ q) × Puts a (written (statement_lines s n t)) b
        go (operation x y w u l) = absurd (w f)
        go (branches u l v w) = absurd (omega arith)
        go (loops u l v) = absurd (omega arith)
        go {d = d} (calls u l) =
            let line : List ℕ → Text = λ ls. written (indented n (fixed_line s i ++ (listed at ls ++ listed with (call_slots s i))) ∷ []) in
            (g, puts_as (ap line (sym (places_are d s (i + 4) (byte s (i + 2))))) h)

  -- a block one deeper than n
  deeper : {j : ℕ} {a b : Writer} {r : ℕ} → BlockPut s (n + 1) j a r b → BlockPut s (suc n) j a r b
  deeper {j} {a} {b} {r} h = subst (λ (m : ℕ). BlockPut s m j a r b) (add-one n) h

  module _ {o₀ o₁ o₂ : Writer} {r : ℕ} where
    pub while_exit : byte s i ≡ 11 → Puts o₀ (written (own ∷ [])) o₁ → BlockPut s (n + 1) (i + 2) o₁ r o₂ → StatementPut s n i o₀ r o₂
    while_exit f h k = record { statement = λ d S depths t q m. go (apart m) }
      where
        go : {d : Side} {S : Scope} {depths : ℕ} {t : Statement d} {q : ℕ} → Apart s S depths i t q → (r ≡ q) × Puts o₀ (written (statement_lines s n t)) o₂
        go (operation x y w u m) = absurd (y f)
        go (branches u m v w) = absurd (omega arith)
        go (loops {b = b} u m v) =
            let z = (deeper k).block _ _ _ b _ v in
            (z.0, puts_as (line_then own (block_lines s (suc n) b)) (puts_then h z.1))
        go (calls u m) = absurd (omega arith)

    module _ {o₃ o₄ : Writer} {q : ℕ} where
      pub if_exit : byte s i ≡ 10 → Puts o₀ (written (own ∷ [])) o₁ → BlockPut s (n + 1) (i + 2) o₁ r o₂
          → Puts o₂ (written (indented n (else ∷ []) ∷ [])) o₃ → BlockPut s (n + 1) r o₃ q o₄ → StatementPut s n i o₀ q o₄
      if_exit f h k o j = record { statement = λ d S depths t p m. go (apart m) }
        where
          lines : {d : Side} (b c : Block d) → written (own ∷ [])
              ++ (written (block_lines s (suc n) b) ++ (written (indented n (else ∷ []) ∷ []) ++ written (block_lines s (suc n) c)))
              ≡ written (own ∷ (block_lines s (suc n) b ++ (indented n (else ∷ []) ∷ block_lines s (suc n) c)))
          lines b c =
              let other = indented n (else ∷ []) in
              let x = block_lines s (suc n) b in
              let y = block_lines s (suc n) c in
              ap (λ (t : Text). written (own ∷ []) ++ (written x ++ t)) (line_then other y)
              ∙ ap (λ (t : Text). written (own ∷ []) ++ t) (sym (written_append x (other ∷ y)))
              ∙ line_then own (x ++ (other ∷ y))

          go : {d : Side} {S : Scope} {depths : ℕ} {t : Statement d} {p : ℕ} → Apart s S depths i t p
              → (q ≡ p) × Puts o₀ (written (statement_lines s n t)) o₄
          go (operation x y w u m) = absurd (x f)
          go {S = S} {depths = depths} (branches {b = b} {c = c} {q = p} u m v w) =
              let y = (deeper k).block _ _ _ b _ v in
              let z = (deeper j).block _ _ _ c _ (subst (λ (a : ℕ). BlockIn s S depths a c p) (sym y.0) w) in
              (z.0, puts_as (lines b c) (puts_then h (puts_then y.1 (puts_then o z.1))))
          go (loops u m v) = absurd (omega arith)
          go (calls u m) = absurd (omega arith)
