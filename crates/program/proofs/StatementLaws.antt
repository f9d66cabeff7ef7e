-- Laws of a statement, one for each way that the code returns. A statement whose byte has a row is its fixed part, then what the row's meaning says
-- of the position after it: so its position is that of its fixed part, its last block or its list.
use mathlib.Core.Bool.{Bool, true, false}
use mathlib.Core.List.{List, [], ◌++◌, append-nil}
use mathlib.Core.Logic.{◌⊎◌}
use mathlib.Core.Option.{none, some}
use mathlib.Core.Path.{◌≡◌, refl, sym, ap, ◌∙◌}
use native.Mathlib.Omega.{arith}
use Prim.Native.Nat.{ℕ, zero, suc, ◌+◌, ◌<◌}
use lib.Dec.{leb}
use lib.ListN.{replicate}
use Rattle.std.specs.Prelude.{Result}
use Rattle.answers.specs.declared.Refusal.{Refusal}
use Rattle.answers.specs.Check.{Check, ok, refused, refusal, ◌>>=◌, ◌>>◌, need}
use Rattle.answers.proofs.Laws.{bind_under}
use Rattle.rules.specs.declared.statements.Operand.TheVariants.{Slot, Location}
use Rattle.rules.specs.Basics.{byte}
use Rattle.rules.specs.Syntax.{Side, Op, Block}
use Rattle.rules.specs.declared.statements.Kind.{Kind}
use Rattle.rules.specs.declared.statements.Kind.TheVariants.{Init, Magic, Free, Gate, Measure, Merge, Ref, Get, Set, If, While, Call, Bool as Constant}
use Rattle.rules.specs.Kinds.{byte_of}
use Rattle.rules.specs.Table.{Meaning, simple, branches, loops, calls, Row, row_of, size, size_of}
use Rattle.rules.specs.Program.{Scope, Read, operands, meant, statement, read_block}
use Rattle.program.specs.Reader.{next_of, Between, block_past, statement_past, fixed_part, BehindFixed, below, call_list}
use Rattle.program.proofs.PastLaws.{between_wider, next_ok, next_refused, next_map}
use Rattle.program.proofs.RowLaws.{row_known, row_simple, row_none, size_row}
use Rattle.program.proofs.OperandLaws.{operands_below, below_at}

-- a value after two checks
after_both : {B : Type 0} (m n : Check (Unit {0})) (p : ℕ) (f : ℕ → Check B) → (m >> (n >> f p)) ≡ ((m >> (n >> ok p)) >>= f)
unfolding ◌>>=◌ ◌>>◌
after_both (ok u) (ok v) p f = refl
after_both (ok u) (refused x) p f = refl
after_both (refused x) n p f = refl

both_ok : (m n : Check (Unit {0})) (p q : ℕ) → (m >> (n >> ok p)) ≡ ok q → q ≡ p
unfolding ◌>>◌
both_ok (ok u) (ok v) p q e = cc
both_ok (ok u) (refused x) p q e = let z : ◌≡◌ {A = ℕ} 0 1 = cc in absurd (omega arith)
both_ok (refused x) n p q e = let z : ◌≡◌ {A = ℕ} 0 1 = cc in absurd (omega arith)

after_lists : {A : Type 0} (i : ℕ) (x : A) (p : ℕ) (b : Bool) (m n : Check ℕ)
    → next_of (need b 8 i >> ((m >>= λ a. n >>= λ c. ok (tt {0})) >> ok (record { it = x; next = p }))) ≡ (need b 8 i >> (m >>= λ a. n >>= λ c. ok p))
unfolding next_of ◌>>=◌ ◌>>◌
after_lists i x p true (ok a) (ok c) = refl
after_lists i x p true (ok a) (refused y) = refl
after_lists i x p true (refused y) n = refl
after_lists i x p false m n = refl

-- the kinds of operations: they have no block and no list
pub no_inner : {k : Kind}
    → (k ≡ Init) ⊎ ((k ≡ Magic) ⊎ ((k ≡ Free) ⊎ ((k ≡ Gate) ⊎ ((k ≡ Measure) ⊎ ((k ≡ Merge) ⊎ ((k ≡ Ref) ⊎ ((k ≡ Get) ⊎ ((k ≡ Set) ⊎ (k ≡ Constant)))))))))
    → (k ≡ If → ⊥) × (k ≡ While → ⊥) × (k ≡ Call → ⊥)
no_inner h = (λ f. grind arith, λ f. grind arith, λ f. grind arith)

module _ (s : List ℕ) (d : Side) (S : Scope) (depths i e : ℕ) where
  abbrev inner : ℕ → ℕ → Check (Read (Block d))
  inner = read_block s d S depths

  unknown : row_of (byte s i) ≡ none → statement_past s d S depths i e ≡ refused (refusal 9 i)
  unfolding statement_past next_of ◌>>=◌
  unknown h = rw h

  pub st_none : (0 < byte s i → 13 < byte s i) → statement_past s d S depths i e ≡ refused (refusal 9 i)
  st_none h = go (byte s i) refl
    where
      go : (b : ℕ) → byte s i ≡ b → statement_past s d S depths i e ≡ refused (refusal 9 i)
      go zero eb = unknown (ap row_of eb)
      go (suc b) eb = unknown (row_none (byte s i) (h (omega arith)))

  module _ {r : Row} (er : row_of (byte s i) ≡ some r) where
    by_row : statement s d S inner i e ≡ (fixed_part s S i e >>= λ p. meant s d S inner r.meaning i p e)
    unfolding fixed_part ◌>>=◌
    by_row = rw er (after_both (need (leb (i + size r) e) 8 i) (operands s S i 1 r.operands) (i + size r) (λ p. meant s d S inner r.meaning i p e))

    fixed_at : (p : ℕ) → fixed_part s S i e ≡ ok p → p ≡ i + size r
    unfolding fixed_part ◌>>=◌
    fixed_at p h = both_ok (need (leb (i + size r) e) 8 i) (operands s S i 1 r.operands) (i + size r) p (rw er at h)

    -- what follows a fixed part that is read
    by_meaning : (m : Meaning) (p : ℕ) → r.meaning ≡ m → fixed_part s S i e ≡ ok p → statement s d S inner i e ≡ meant s d S inner m i p e
    unfolding ◌>>=◌
    by_meaning m p em h = by_row ∙ rw (h, em)

    simple_past : (f : (s : Side) → (ℕ → ℕ) → Op s) → r.meaning ≡ simple f → statement_past s d S depths i e ≡ fixed_part s S i e
    unfolding statement_past next_of ◌>>=◌
    simple_past f em = ap next_of by_row ∙ rw em (go (fixed_part s S i e))
      where
        go : (m : Check ℕ) → next_of (m >>= λ p. meant s d S inner (simple f) i p e) ≡ m
        go (ok p) = refl
        go (refused x) = refl

  pub st_refused : (x : Refusal) → 0 < byte s i → byte s i < 14 → fixed_part s S i e ≡ refused x → statement_past s d S depths i e ≡ refused x
  unfolding statement_past next_of ◌>>=◌
  st_refused x a b h = let (r, er) = row_known (byte s i) a b in ap next_of (by_row er) ∙ rw h

  st_simple : 0 < byte s i → byte s i < 10 → statement_past s d S depths i e ≡ fixed_part s S i e
  st_simple a b = let (r, f, er, em) = row_simple (byte s i) a b in simple_past er f em

  st_bool : byte s i ≡ 13 → statement_past s d S depths i e ≡ fixed_part s S i e
  st_bool h = simple_past (ap row_of h) _ refl

  -- a kind that has no block and no list
  pub st_operation : (k : Kind) → byte_of k ≡ byte s i → (k ≡ If → ⊥) → (k ≡ While → ⊥) → (k ≡ Call → ⊥)
      → statement_past s d S depths i e ≡ fixed_part s S i e
  st_operation Init b f g h = st_simple (omega (arith, b)) (omega (arith, b))
  st_operation Magic b f g h = st_simple (omega (arith, b)) (omega (arith, b))
  st_operation Free b f g h = st_simple (omega (arith, b)) (omega (arith, b))
  st_operation Gate b f g h = st_simple (omega (arith, b)) (omega (arith, b))
  st_operation Measure b f g h = st_simple (omega (arith, b)) (omega (arith, b))
  st_operation Merge b f g h = st_simple (omega (arith, b)) (omega (arith, b))
  st_operation Ref b f g h = st_simple (omega (arith, b)) (omega (arith, b))
  st_operation Get b f g h = st_simple (omega (arith, b)) (omega (arith, b))
  st_operation Set b f g h = st_simple (omega (arith, b)) (omega (arith, b))
  st_operation If b f g h = absurd (f refl)
  st_operation While b f g h = absurd (g refl)
  st_operation Call b f g h = absurd (h refl)
  st_operation Constant b f g h = st_bool (sym b)

  pub st_while : (p : ℕ) → byte s i ≡ 11 → fixed_part s S i e ≡ ok p → statement_past s d S depths i e ≡ block_past s d S depths p e
  unfolding statement_past block_past
  st_while p h f = ap next_of (by_meaning (ap row_of h) loops p refl f) ∙ next_map (inner p e) _

  pub st_if : (p q : ℕ) → byte s i ≡ 10 → fixed_part s S i e ≡ ok p → block_past s d S depths p e ≡ ok q
      → statement_past s d S depths i e ≡ block_past s d S depths q e
  unfolding statement_past block_past ◌>>=◌
  st_if p q h f g =
      let (b, eb, en) = next_ok (inner p e) q g in
      ap next_of (by_meaning (ap row_of h) branches p refl f) ∙ rw (eb, en) (next_map (inner q e) _)

  pub st_if_refused : (p : ℕ) (x : Refusal) → byte s i ≡ 10 → fixed_part s S i e ≡ ok p → block_past s d S depths p e ≡ refused x
      → statement_past s d S depths i e ≡ refused x
  unfolding statement_past block_past next_of ◌>>=◌
  st_if_refused p x h f g = ap next_of (by_meaning (ap row_of h) branches p refl f) ∙ rw (next_refused (inner p e) x g)

  -- a call's list by its bytes: k places, then m slots
  abbrev read_places : ℕ → Check ℕ
  read_places k = below s S.places (i + 4) k

  abbrev read_slots : ℕ → ℕ → Check ℕ
  read_slots k m = below s 32 (i + (4 + k)) m

  listed : (k m : ℕ) → operands s S i 4 (replicate k Location ++ replicate m Slot) ≡ (read_places k >>= λ p. read_slots k m >>= λ q. ok tt)
  listed k m =
      operands_below s S i Location S.places (λ f b. refl) k 4 (i + 4) (replicate m Slot) refl ∙ bind_under (read_places k) (λ p. slots)
    where
      slots : operands s S i (4 + k) (replicate m Slot) ≡ (read_slots k m >>= λ q. ok tt)
      slots =
          ap (operands s S i (4 + k)) (sym (append-nil (replicate m Slot)))
          ∙ operands_below s S i Slot 32 (λ f b. refl) m (4 + k) (i + (4 + k)) [] refl

  -- going along both lists gives the position after them
  both_lists : (k m : ℕ) → (read_places k >>= λ p. read_slots k m >>= λ q. ok (i + 4 + k + m)) ≡ (read_places k >>= λ p. below s 32 p m)
  unfolding ◌>>=◌
  both_lists k m = first (read_places k) refl
    where
      second : (c : Check ℕ) → read_slots k m ≡ c → (c >>= λ q. ok (i + 4 + k + m)) ≡ c
      second (ok q) e = ap ok (sym (omega (arith, below_at s 32 (i + (4 + k)) m q e)))
      second (refused x) e = refl

      first : (c : Check ℕ) → read_places k ≡ c → (c >>= λ p. read_slots k m >>= λ q. ok (i + 4 + k + m)) ≡ (c >>= λ p. below s 32 p m)
      first (ok p) e =
          let w : p ≡ i + (4 + k) = omega (arith, below_at s S.places (i + 4) k p e) in
          second (read_slots k m) refl ∙ ap (λ (n : ℕ). below s 32 n m) (sym w)
      first (refused x) e = refl

  -- the call's meaning goes along its list
  call_past : (p : ℕ) → p ≡ i + 4 → next_of (meant s d S inner calls i p e) ≡ call_list s S.places i e
  unfolding call_list next_of ◌>>=◌ ◌>>◌
  call_past p ep =
      let k : ℕ = byte s (i + 2) in
      let m : ℕ = byte s (i + 3) in
      rw (ep, listed k m, ← both_lists k m) (after_lists i _ (i + 4 + k + m) (leb (i + 4 + k + m) e) (read_places k) (read_slots k m))

  pub st_call : (p places : ℕ) → byte s i ≡ 12 → fixed_part s S i e ≡ ok p → S.places ≡ places
      → statement_past s d S depths i e ≡ call_list s places i e
  unfolding statement_past
  st_call p places h f g = ap next_of (by_meaning (ap row_of h) calls p refl f) ∙ call_past p (fixed_at (ap row_of h) p f) ∙ rw g

-- where the answer for a fixed part lies
module _ (s : List ℕ) (i e : ℕ) (r : Result ℕ Refusal) (h : BehindFixed s i e r) where
  pub fixed_between : 0 < byte s i → byte s i < 14 → Between (i + 1) e r
  fixed_between a l =
      let (q, eq) = row_known (byte s i) a l in
      between_wider (i + size_of (byte s i)) e (i + 1) e r (omega (arith, size_row (byte s i) eq)) (omega arith) h
