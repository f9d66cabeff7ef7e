-- Small facts on tests, by their cases: what a test that passed, or did not, says, and which tests pass.
use mathlib.Core.Bool.{Bool, true, false, not, ◌&&◌, ◌||◌, false≢true}
use mathlib.Core.Logic.{◌≢◌}
use mathlib.Core.Path.{◌≡◌, refl, sym, ap, ◌∙◌}
use Prim.Native.Nat.{ℕ, ◌≤◌, ◌<◌}
use lib.Dec.{T, eqb, eqb→eq, eqb_refl, ltb, ltb→lt, lt→ltb, nltb→le, leb, leb→le}

pub T→eq : (b : Bool) → T b → b ≡ true
T→eq true h = refl
T→eq false h = elim h [ ]

pub eq→T : (b : Bool) → b ≡ true → T b
eq→T true h = tt
eq→T false h = absurd (false≢true h)

pub eqb_true : (m n : ℕ) → eqb m n ≡ true → m ≡ n
eqb_true m n h = eqb→eq m n (eq→T (eqb m n) h)

pub eqb_same : (n : ℕ) → eqb n n ≡ true
eqb_same n = T→eq (eqb n n) (eqb_refl n)

pub eqb_other : (m n : ℕ) → m ≢ n → eqb m n ≡ false
eqb_other m n h = go (eqb m n) refl
  where
    go : (b : Bool) → eqb m n ≡ b → b ≡ false
    go true e = absurd (h (eqb_true m n e))
    go false e = refl

pub eqb_false : (m n : ℕ) → eqb m n ≡ false → m ≢ n
eqb_false m n h e = false≢true (sym h ∙ ap (λ (k : ℕ). eqb k n) e ∙ eqb_same n)

pub below : (m n : ℕ) → ltb m n ≡ true → m < n
below m n h = ltb→lt m n (eq→T (ltb m n) h)

pub is_below : (m n : ℕ) → m < n → ltb m n ≡ true
is_below m n h = T→eq (ltb m n) (lt→ltb m n h)

pub not_below : (m n : ℕ) → ltb m n ≡ false → n ≤ m
not_below m n h = nltb→le m n (eq→T (not (ltb m n)) (ap not h))

pub at_most : (m n : ℕ) → leb m n ≡ true → m ≤ n
at_most m n h = leb→le m n (eq→T (leb m n) h)

pub and_left : (a b : Bool) → (a && b) ≡ true → a ≡ true
and_left true b h = refl
and_left false b h = absurd (false≢true h)

pub and_right : (a b : Bool) → (a && b) ≡ true → b ≡ true
and_right true b h = h
and_right false b h = absurd (false≢true h)

pub and_both : (a b : Bool) → a ≡ true → b ≡ true → (a && b) ≡ true
and_both true b h k = k
and_both false b h k = h

pub or_right : (a b : Bool) → b ≡ true → (a || b) ≡ true
or_right true b h = refl
or_right false b h = h

pub neither : (a b : Bool) → (a || b) ≡ false → (a ≡ false) × (b ≡ false)
neither true b h = absurd (false≢true (sym h))
neither false b h = (refl, h)

pub not_true : (b : Bool) → not b ≡ true → b ≡ false
not_true true h = absurd (false≢true h)
not_true false h = refl
