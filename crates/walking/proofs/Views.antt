-- A statement by its byte: for each kind that the walk tells apart, what a statement with that byte is, where it ends, and which of its operands are
-- bounded. Each law goes over the thirteen forms of a statement; the others have another byte.
use mathlib.Core.Bool.{false}
use mathlib.Core.List.{List}
use mathlib.Core.Logic.{◌≢◌}
use mathlib.Core.Path.{◌≡◌, refl, sym, ap, ◌∙◌}
use native.Mathlib.Omega.{arith}
use borrow.Author.Tests.{eqb-false}
use Prim.Native.Nat.{ℕ, ◌+◌, ◌<◌, ◌≤◌}
use lib.Dec.{eqb}
use lib.ListN.{length}
use Rattle.answers.specs.Check.{ok}
use Rattle.rules.specs.Basics.{up_to, byte}
use Rattle.rules.specs.Region.{Region}
use Rattle.rules.specs.Syntax.{Side, device, Place, Preparation, plain, magic, Op, init, free, merge, Statement, op, if, while, call, Block, function}
use Rattle.rules.specs.Program.{Scope}
use Rattle.rules.specs.Table.{size_of}
use Rattle.program.specs.In.{BlockIn, View}
use Rattle.program.specs.In.{is_init, is_magic, is_free, is_gate, is_measure, is_merge, is_new, is_get, is_set, is_if, is_while, is_call, is_bool}
use Rattle.walking.specs.Quiet.{Silent}
use Rattle.walking.specs.Walk.{Standing, Walker, walk_op}

module _ {d : Side} (s : List ℕ) (S : Scope) (at : ℕ) (t : Statement d) (q : ℕ) where
  pub record IsInit : Type 0 where
    pub prepared : Preparation
    pub is : t ≡ op at (init prepared (byte s (at + 1)) (record { no = byte s (at + 2) }))
    pub next : q ≡ at + 3
    pub fits : at + 3 ≤ length s
    pub slot : byte s (at + 1) < 32
    pub place : byte s (at + 2) < S.places

  pub record IsCall : Type 0 where
    pub is : t ≡ call at (byte s (at + 1)) (up_to (at + 4) (byte s (at + 2)) λ i. record { no = byte s i })
        (up_to (at + 4 + byte s (at + 2)) (byte s (at + 3)) λ i. byte s i)
    pub next : q ≡ at + 4 + byte s (at + 2) + byte s (at + 3)
    pub fits : at + 4 + byte s (at + 2) + byte s (at + 3) ≤ length s
    pub callee : byte s (at + 1) < length S.earlier
    pub ks : byte s (at + 2) ≡ (function S.earlier (byte s (at + 1))).k
    pub places : (i : ℕ) → i < byte s (at + 2) → byte s (at + 4 + i) < S.places

module _ {d : Side} (s : List ℕ) (at : ℕ) (t : Statement d) (q : ℕ) where
  pub record IsFree : Type 0 where
    pub is : t ≡ op at (free (byte s (at + 1)))
    pub next : q ≡ at + 2
    pub fits : at + 2 ≤ length s
    pub slot : byte s (at + 1) < 32

  pub record IsMerge : Type 0 where
    pub is : t ≡ op at (merge (byte s (at + 1)) (byte s (at + 2)) (byte s (at + 3)) (byte s (at + 4)) (byte s (at + 5)))
    pub next : q ≡ at + 6
    pub fits : at + 6 ≤ length s
    pub first : byte s (at + 3) < 32
    pub second : byte s (at + 5) < 32

module _ {d : Side} (s : List ℕ) (S : Scope) (depths at : ℕ) (t : Statement d) (q : ℕ) where
  pub record IsIf : Type 0 where
    pub then_block_lem : Block d
    pub else_block_lem : Block d
    pub middle : ℕ
    pub is : t ≡ if at (byte s (at + 1)) then_block_lem else_block_lem
    pub first : BlockIn s S depths (at + 2) then_block_lem middle
    pub second : BlockIn s S depths middle else_block_lem q

  pub record IsWhile : Type 0 where
    pub inner : Block d
    pub is : t ≡ while at (byte s (at + 1)) inner
    pub first : BlockIn s S depths (at + 2) inner q

-- the walk goes on as it stands
pub record IsQuiet {d : Side} (at : ℕ) (t : Statement d) : Type 0 where
  pub act : Op d
  pub is : t ≡ op at act
  pub still : (R : Region) (W : Walker) (σ : Place d → Place device) (st : Standing) → walk_op R W σ at act st ≡ ok st

-- a byte is not two numbers
apart : {A : Type 0} {b : ℕ} (m n : ℕ) → eqb m n ≡ false → b ≡ m → b ≡ n → A
apart m n f e h = absurd (eqb-false m n f (sym e ∙ h))

-- an init
pub view_init : {d : Side} {s : List ℕ} {S : Scope} {depths at q : ℕ} {t : Statement d} → View s S depths at t q → byte s at < 3
    → IsInit s S at t q
view_init (is_init e l a b) h = record { prepared = plain; is = refl; next = refl; fits = l; slot = a; place = b }
view_init (is_magic e l a b) h = record { prepared = magic; is = refl; next = refl; fits = l; slot = a; place = b }
view_init (is_free e l a) h = absurd (omega arith)
view_init (is_gate e l a b) h = absurd (omega arith)
view_init (is_measure e l a b k) h = absurd (omega arith)
view_init (is_merge e l a b k f g) h = absurd (omega arith)
view_init (is_new e l a b) h = absurd (omega arith)
view_init (is_get e l a b) h = absurd (omega arith)
view_init (is_set e l a b) h = absurd (omega arith)
view_init (is_if e l a b k) h = absurd (omega arith)
view_init (is_while e l a b) h = absurd (omega arith)
view_init (is_call e l a b k f g) h = absurd (omega arith)
view_init (is_bool e l a b) h = absurd (omega arith)

-- a free
pub view_free : {d : Side} {s : List ℕ} {S : Scope} {depths at q : ℕ} {t : Statement d} → View s S depths at t q → byte s at ≡ 3
    → IsFree s at t q
view_free (is_init e l a b) h = apart 1 3 refl e h
view_free (is_magic e l a b) h = apart 2 3 refl e h
view_free (is_free e l a) h = record { is = refl; next = refl; fits = l; slot = a }
view_free (is_gate e l a b) h = apart 4 3 refl e h
view_free (is_measure e l a b k) h = apart 5 3 refl e h
view_free (is_merge e l a b k f g) h = apart 6 3 refl e h
view_free (is_new e l a b) h = apart 7 3 refl e h
view_free (is_get e l a b) h = apart 8 3 refl e h
view_free (is_set e l a b) h = apart 9 3 refl e h
view_free (is_if e l a b k) h = apart 10 3 refl e h
view_free (is_while e l a b) h = apart 11 3 refl e h
view_free (is_call e l a b k f g) h = apart 12 3 refl e h
view_free (is_bool e l a b) h = apart 13 3 refl e h

-- a merge
pub view_merge : {d : Side} {s : List ℕ} {S : Scope} {depths at q : ℕ} {t : Statement d} → View s S depths at t q → byte s at ≡ 6
    → IsMerge s at t q
view_merge (is_init e l a b) h = apart 1 6 refl e h
view_merge (is_magic e l a b) h = apart 2 6 refl e h
view_merge (is_free e l a) h = apart 3 6 refl e h
view_merge (is_gate e l a b) h = apart 4 6 refl e h
view_merge (is_measure e l a b k) h = apart 5 6 refl e h
view_merge (is_merge e l a b k f g) h = record { is = refl; next = refl; fits = l; first = k; second = g }
view_merge (is_new e l a b) h = apart 7 6 refl e h
view_merge (is_get e l a b) h = apart 8 6 refl e h
view_merge (is_set e l a b) h = apart 9 6 refl e h
view_merge (is_if e l a b k) h = apart 10 6 refl e h
view_merge (is_while e l a b) h = apart 11 6 refl e h
view_merge (is_call e l a b k f g) h = apart 12 6 refl e h
view_merge (is_bool e l a b) h = apart 13 6 refl e h

-- an if
pub view_if : {d : Side} {s : List ℕ} {S : Scope} {depths at q : ℕ} {t : Statement d} → View s S depths at t q → byte s at ≡ 10
    → IsIf s S depths at t q
view_if (is_init e l a b) h = apart 1 10 refl e h
view_if (is_magic e l a b) h = apart 2 10 refl e h
view_if (is_free e l a) h = apart 3 10 refl e h
view_if (is_gate e l a b) h = apart 4 10 refl e h
view_if (is_measure e l a b k) h = apart 5 10 refl e h
view_if (is_merge e l a b k f g) h = apart 6 10 refl e h
view_if (is_new e l a b) h = apart 7 10 refl e h
view_if (is_get e l a b) h = apart 8 10 refl e h
view_if (is_set e l a b) h = apart 9 10 refl e h
view_if (is_if e l a b k) h = record { then_block_lem = _; else_block_lem = _; middle = _; is = refl; first = b; second = k }
view_if (is_while e l a b) h = apart 11 10 refl e h
view_if (is_call e l a b k f g) h = apart 12 10 refl e h
view_if (is_bool e l a b) h = apart 13 10 refl e h

-- a while
pub view_while : {d : Side} {s : List ℕ} {S : Scope} {depths at q : ℕ} {t : Statement d} → View s S depths at t q → byte s at ≡ 11
    → IsWhile s S depths at t q
view_while (is_init e l a b) h = apart 1 11 refl e h
view_while (is_magic e l a b) h = apart 2 11 refl e h
view_while (is_free e l a) h = apart 3 11 refl e h
view_while (is_gate e l a b) h = apart 4 11 refl e h
view_while (is_measure e l a b k) h = apart 5 11 refl e h
view_while (is_merge e l a b k f g) h = apart 6 11 refl e h
view_while (is_new e l a b) h = apart 7 11 refl e h
view_while (is_get e l a b) h = apart 8 11 refl e h
view_while (is_set e l a b) h = apart 9 11 refl e h
view_while (is_if e l a b k) h = apart 10 11 refl e h
view_while (is_while e l a b) h = record { inner = _; is = refl; first = b }
view_while (is_call e l a b k f g) h = apart 12 11 refl e h
view_while (is_bool e l a b) h = apart 13 11 refl e h

-- a call
pub view_call : {d : Side} {s : List ℕ} {S : Scope} {depths at q : ℕ} {t : Statement d} → View s S depths at t q → byte s at ≡ 12
    → IsCall s S at t q
view_call (is_init e l a b) h = apart 1 12 refl e h
view_call (is_magic e l a b) h = apart 2 12 refl e h
view_call (is_free e l a) h = apart 3 12 refl e h
view_call (is_gate e l a b) h = apart 4 12 refl e h
view_call (is_measure e l a b k) h = apart 5 12 refl e h
view_call (is_merge e l a b k f g) h = apart 6 12 refl e h
view_call (is_new e l a b) h = apart 7 12 refl e h
view_call (is_get e l a b) h = apart 8 12 refl e h
view_call (is_set e l a b) h = apart 9 12 refl e h
view_call (is_if e l a b k) h = apart 10 12 refl e h
view_call (is_while e l a b) h = apart 11 12 refl e h
view_call (is_call e l a b k f g) h = record { is = refl; next = refl; fits = l; callee = a; ks = b; places = f }
view_call (is_bool e l a b) h = apart 13 12 refl e h

-- where an operation ends, by the table
pub view_end : {d : Side} {s : List ℕ} {S : Scope} {depths at q : ℕ} {t : Statement d} → View s S depths at t q
    → byte s at ≢ 10 → byte s at ≢ 11 → byte s at ≢ 12 → q ≡ at + size_of (byte s at)
view_end {at = at} (is_init e l a b) n10 n11 n12 = ap (λ (o : ℕ). at + size_of o) (sym e)
view_end {at = at} (is_magic e l a b) n10 n11 n12 = ap (λ (o : ℕ). at + size_of o) (sym e)
view_end {at = at} (is_free e l a) n10 n11 n12 = ap (λ (o : ℕ). at + size_of o) (sym e)
view_end {at = at} (is_gate e l a b) n10 n11 n12 = ap (λ (o : ℕ). at + size_of o) (sym e)
view_end {at = at} (is_measure e l a b k) n10 n11 n12 = ap (λ (o : ℕ). at + size_of o) (sym e)
view_end {at = at} (is_merge e l a b k f g) n10 n11 n12 = ap (λ (o : ℕ). at + size_of o) (sym e)
view_end {at = at} (is_new e l a b) n10 n11 n12 = ap (λ (o : ℕ). at + size_of o) (sym e)
view_end {at = at} (is_get e l a b) n10 n11 n12 = ap (λ (o : ℕ). at + size_of o) (sym e)
view_end {at = at} (is_set e l a b) n10 n11 n12 = ap (λ (o : ℕ). at + size_of o) (sym e)
view_end (is_if e l a b k) n10 n11 n12 = absurd (n10 e)
view_end (is_while e l a b) n10 n11 n12 = absurd (n11 e)
view_end (is_call e l a b k f g) n10 n11 n12 = absurd (n12 e)
view_end {at = at} (is_bool e l a b) n10 n11 n12 = ap (λ (o : ℕ). at + size_of o) (sym e)

-- what the walk passes over
pub view_quiet : {d : Side} {s : List ℕ} {S : Scope} {depths at q : ℕ} {t : Statement d} → View s S depths at t q → Silent (byte s at)
    → IsQuiet at t
unfolding walk_op
view_quiet (is_init e l a b) z = absurd (omega (arith, e, z.above))
view_quiet (is_magic e l a b) z = absurd (omega (arith, e, z.above))
view_quiet (is_free e l a) z = absurd (omega (arith, e, z.above))
view_quiet (is_gate e l a b) z = record { act = _; is = refl; still = λ R W σ st. refl }
view_quiet (is_measure e l a b k) z = record { act = _; is = refl; still = λ R W σ st. refl }
view_quiet (is_merge e l a b k f g) z = absurd (z.no_merge e)
view_quiet (is_new e l a b) z = record { act = _; is = refl; still = λ R W σ st. refl }
view_quiet (is_get e l a b) z = record { act = _; is = refl; still = λ R W σ st. refl }
view_quiet (is_set e l a b) z = record { act = _; is = refl; still = λ R W σ st. refl }
view_quiet (is_if e l a b k) z = absurd (z.no_inner (omega arith))
view_quiet (is_while e l a b) z = absurd (z.no_inner (omega arith))
view_quiet (is_call e l a b k f g) z = absurd (z.no_inner (omega arith))
view_quiet (is_bool e l a b) z = record { act = _; is = refl; still = λ R W σ st. refl }

-- and its size, by the table
pub view_size : {d : Side} {s : List ℕ} {S : Scope} {depths at q : ℕ} {t : Statement d} → View s S depths at t q → Silent (byte s at)
    → q ≡ at + size_of (byte s at)
view_size v z = view_end v (λ e. z.no_inner (omega (arith, e))) (λ e. z.no_inner (omega (arith, e))) (λ e. z.no_inner (omega (arith, e)))
