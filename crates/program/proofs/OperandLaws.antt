-- Laws of operands, one for each way that the code returns. A row of operands is in range where each of them is, and refused at the first that is
-- not, by induction on the row; the fixed part of a statement is such a row, and so is a call's list, whose kinds are two limits.
use mathlib.Core.Bool.{Bool, true, false}
use mathlib.Core.List.{List, [], ◌∷◌, ◌++◌}
use mathlib.Core.Option.{some}
use mathlib.Core.Path.{◌≡◌, refl, sym, ap, ◌∙◌}
use native.Mathlib.Nat.{add-zero, not-suc-le-zero}
use native.Mathlib.Omega.{arith}
use Prim.Native.Nat.{ℕ, zero, suc, ◌+◌, ◌-◌, ◌<◌, ◌≤◌}
use borrow.Author.Count.{below_more as below-one-more}
use borrow.Author.Tests.{lt-ltb, le-ltb, lt-leb, le-leb}
use lib.Dec.{ltb, leb}
use lib.ListN.{get_or, length, replicate}
use Rattle.answers.specs.declared.Refusal.{Refusal}
use Rattle.answers.specs.Check.{ok, refused, refusal, ◌>>=◌, ◌>>◌, need}
use Rattle.rules.specs.declared.statements.Operand.{Operand}
use Rattle.rules.specs.declared.statements.Operand.TheVariants.{Nothing}
use Rattle.rules.specs.Basics.{byte}
use Rattle.rules.specs.Table.{Row, row_of, size, size_of, operand_at}
use Rattle.rules.specs.Program.{Scope, in_range, operands}
use Rattle.program.specs.Reader.{fixed_part, below, call_list}
use Rattle.program.proofs.RowLaws.{row_known, size_row, operand_row}

module _ (s : List ℕ) (S : Scope) (i : ℕ) where
  -- operand number m, of kind o, is in range
  abbrev Good : Operand → ℕ → Type 0
  Good o m = in_range S (byte s (i + 1)) o (byte s (i + m)) ≡ true

  -- the operands of statement byte b before number n are in range
  unfoldable pub Goods : ℕ → ℕ → Type 0
  Goods b n = (k : ℕ) → k < n → 1 ≤ k → Good (operand_at b k) k

  pub goods_none : (b : ℕ) → Goods b 1
  unfolding Goods
  goods_none b k h l = absurd (omega arith)

  pub goods_more : (b n : ℕ) (kind : Operand) (flag : Bool) → Goods b n → kind ≡ operand_at b n
      → flag ≡ in_range S (byte s (i + 1)) kind (byte s (i + n)) → flag ≡ true → Goods b (n + 1)
  unfolding Goods
  goods_more b n kind flag all ek ef e = below-one-more (λ k. 1 ≤ k → Good (operand_at b k) k) n all (λ l. rw (← ek, ← ef) e)

  pub operands_ok : (n : ℕ) (os : List Operand) → ((j m : ℕ) → j < length os → m ≡ n + j → Good (get_or os j Nothing) m)
      → operands s S i n os ≡ ok tt
  unfolding ◌>>◌
  operands_ok n [] g = refl
  operands_ok n (o ∷ os) g =
      let h : Good o n = g 0 n (omega arith) (omega arith) in
      rw h (operands_ok (suc n) os (λ j m l e. g (suc j) m (omega arith) (omega arith)))

  pub operands_bad : (n : ℕ) (os : List Operand) (j m : ℕ) → j < length os → m ≡ n + j
      → ((k l : ℕ) → k < j → l ≡ n + k → Good (get_or os k Nothing) l)
      → in_range S (byte s (i + 1)) (get_or os j Nothing) (byte s (i + m)) ≡ false → operands s S i n os ≡ refused (refusal 10 (i + m))
  unfolding ◌>>◌
  operands_bad n [] j m h e g f = absurd (not-suc-le-zero h)
  operands_bad n (o ∷ os) zero m h e g f =
      let q : m ≡ n = omega arith in
      let b : in_range S (byte s (i + 1)) o (byte s (i + n)) ≡ false = rw q at f in
      rw (b, q)
  operands_bad n (o ∷ os) (suc j) m h e g f =
      let b : Good o n = g 0 n (omega arith) (omega arith) in
      rw b (operands_bad (suc n) os j m (omega arith) (omega arith) (λ k l a q. g (suc k) l (omega arith) (omega arith)) f)

-- the fixed part of the statement at i, whose byte has a row
module _ (s : List ℕ) (S : Scope) (i e : ℕ) (p : 0 < byte s i) (h : byte s i < 14) where
  pub fixed_short : e < i + size_of (byte s i) → fixed_part s S i e ≡ refused (refusal 8 i)
  unfolding fixed_part ◌>>=◌ ◌>>◌
  fixed_short l =
      let (r, er) = row_known (byte s i) p h in
      let z : leb (i + size r) e ≡ false = lt-leb (i + size r) e (omega (arith, size_row (byte s i) er)) in
      rw (er, z)

  module _ (l : i + size_of (byte s i) ≤ e) where
    -- operand m is the first out of range
    pub fixed_bad : (m : ℕ) (kind : Operand) (flag : Bool) → 1 ≤ m → m < size_of (byte s i) → Goods s S i (byte s i) m
        → kind ≡ operand_at (byte s i) m → flag ≡ in_range S (byte s (i + 1)) kind (byte s (i + m)) → flag ≡ false
        → fixed_part s S i e ≡ refused (refusal 10 (i + m))
    unfolding fixed_part Goods ◌>>=◌ ◌>>◌
    fixed_bad zero kind flag a b g ek ef f = absurd (omega arith)
    fixed_bad (suc m) kind flag a b g ek ef f =
        let (r, er) = row_known (byte s i) p h in
        let z : leb (i + size r) e ≡ true = le-leb (i + size r) e (omega (arith, size_row (byte s i) er)) in
        let eo : kind ≡ get_or r.operands m Nothing = ek ∙ operand_row (byte s i) er m in
        let n : m < length r.operands = omega (arith, size_row (byte s i) er) in
        let q = operands_bad s S i 1 r.operands m (suc m) n (omega arith) (good r er) (rw (← eo, ← ef) f) in
        rw (er, z, q)
      where
        good : (r : Row) → row_of (byte s i) ≡ some r → (k n : ℕ) → k < m → n ≡ 1 + k → Good s S i (get_or r.operands k Nothing) n
        good r er k n u v =
            let w : n ≡ suc k = omega arith in
            rw (w, ← operand_row (byte s i) er k) (g (suc k) (omega arith) (omega arith))

    -- all operands are in range
    pub fixed_good : (n : ℕ) → size_of (byte s i) ≤ n → Goods s S i (byte s i) n → fixed_part s S i e ≡ ok (i + size_of (byte s i))
    unfolding fixed_part Goods ◌>>=◌ ◌>>◌
    fixed_good n a g =
        let (r, er) = row_known (byte s i) p h in
        let z : leb (i + size r) e ≡ true = le-leb (i + size r) e (omega (arith, size_row (byte s i) er)) in
        let q : operands s S i 1 r.operands ≡ ok tt = operands_ok s S i 1 r.operands (good r er) in
        rw (er, z, q) (ap (λ (k : ℕ). ok (i + k)) (sym (size_row (byte s i) er)))
      where
        good : (r : Row) → row_of (byte s i) ≡ some r → (k m : ℕ) → k < length r.operands → m ≡ 1 + k
            → Good s S i (get_or r.operands k Nothing) m
        good r er k m u v =
            let w : m ≡ suc k = omega arith in
            rw (w, ← operand_row (byte s i) er k) (g (suc k) (omega (arith, size_row (byte s i) er)) (omega arith))

-- bytes below a limit, from p up to `to`
module _ (s : List ℕ) (limit p to : ℕ) where
  pub below_end : p ≤ to → to ≤ p → below s limit p (to - p) ≡ ok to
  unfolding below
  below_end h l = let z : to - p ≡ 0 = omega arith in let q : p ≡ to = omega arith in rw (z, q)

  pub below_bad : p < to → limit ≤ byte s p → below s limit p (to - p) ≡ refused (refusal 10 p)
  unfolding below ◌>>◌
  below_bad h l = let z : to - p ≡ suc (to - p - 1) = omega arith in rw (z, le-ltb (byte s p) limit l)

  pub below_more : p < to → byte s p < limit → below s limit p (to - p) ≡ below s limit (p + 1) (to - (p + 1))
  unfolding below ◌>>◌
  below_more h l =
      let z : to - p ≡ suc (to - (p + 1)) = omega arith in
      rw (z, below) (rw (lt-ltb (byte s p) limit l) refl)

-- the position after bytes below a limit
pub below_at : (s : List ℕ) (limit p n q : ℕ) → below s limit p n ≡ ok q → q ≡ p + n
unfolding below ◌>>◌
below_at s limit p zero q e = let w : p ≡ q = cc in omega arith
below_at s limit p (suc n) q e = go (ltb (byte s p) limit) e (below_at s limit (p + 1) n q)
  where
    go : (b : Bool) → (need b 10 p >> below s limit (p + 1) n) ≡ ok q → (below s limit (p + 1) n ≡ ok q → q ≡ p + 1 + n) → q ≡ p + suc n
    go true e rest = let w : q ≡ p + 1 + n = rest e in omega arith
    go false e rest = let z : ◌≡◌ {A = ℕ} 0 1 = cc in absurd (omega arith)

-- operands of one kind, whose range is a limit, before others
module _ (s : List ℕ) (S : Scope) (i : ℕ) (o : Operand) (limit : ℕ) (h : (f b : ℕ) → in_range S f o b ≡ ltb b limit) where
  pub operands_below : (k n p : ℕ) (os : List Operand) → p ≡ i + n
      → operands s S i n (replicate k o ++ os) ≡ (below s limit p k >>= λ q. operands s S i (n + k) os)
  unfolding below ◌>>=◌ ◌>>◌
  operands_below zero n p os e = rw add-zero
  operands_below (suc k) n p os e =
      rw (e, h (byte s (i + 1)) (byte s (i + n))) (go (ltb (byte s (i + n)) limit) (operands_below k (suc n) (i + n + 1) os (omega arith)))
    where
      go : (b : Bool) → operands s S i (suc n) (replicate k o ++ os) ≡ (below s limit (i + n + 1) k >>= λ q. operands s S i (suc n + k) os)
          → (need b 10 (i + n) >> operands s S i (suc n) (replicate k o ++ os))
          ≡ ((need b 10 (i + n) >> below s limit (i + n + 1) k) >>= λ q. operands s S i (n + suc k) os)
      go true rest = let z : n + suc k ≡ suc n + k = omega arith in rw z rest
      go false rest = refl

-- the list of the call at i
module _ (s : List ℕ) (places i e : ℕ) where
  pub call_short : e < i + 4 + byte s (i + 2) + byte s (i + 3) → call_list s places i e ≡ refused (refusal 8 i)
  unfolding call_list ◌>>◌
  call_short h = rw (lt-leb (i + 4 + byte s (i + 2) + byte s (i + 3)) e h)

  module _ (k m q : ℕ) (ek : k ≡ byte s (i + 2)) (em : m ≡ byte s (i + 3)) (h : i + 4 + k + m ≤ e) (eq : q ≡ i + 4 + k) where
    pub call_past : (p : ℕ) → below s places (i + 4) (q - (i + 4)) ≡ ok p → call_list s places i e ≡ below s 32 q (q + m - q)
    unfolding call_list ◌>>=◌ ◌>>◌
    call_past p f =
        let z : leb (i + 4 + byte s (i + 2) + byte s (i + 3)) e ≡ true = le-leb (i + 4 + byte s (i + 2) + byte s (i + 3)) e (omega arith) in
        let a : q - (i + 4) ≡ byte s (i + 2) = omega arith in
        let b : q + m - q ≡ byte s (i + 3) = omega arith in
        let g : below s places (i + 4) (byte s (i + 2)) ≡ ok p = rw a at f in
        let w : p ≡ q = omega (arith, below_at s places (i + 4) (byte s (i + 2)) p g) in
        rw (z, g, b, w)

    pub call_refused : (x : Refusal) → below s places (i + 4) (q - (i + 4)) ≡ refused x → call_list s places i e ≡ refused x
    unfolding call_list ◌>>=◌ ◌>>◌
    call_refused x f =
        let z : leb (i + 4 + byte s (i + 2) + byte s (i + 3)) e ≡ true = le-leb (i + 4 + byte s (i + 2) + byte s (i + 3)) e (omega arith) in
        let a : q - (i + 4) ≡ byte s (i + 2) = omega arith in
        let g : below s places (i + 4) (byte s (i + 2)) ≡ refused x = rw a at f in
        rw (z, g)
