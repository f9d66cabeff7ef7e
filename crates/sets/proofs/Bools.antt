-- Small laws of tests, and of two numbers compared.
use mathlib.Core.Bool.{Bool, true, false, not, ◌&&◌, ◌||◌, true≢false}
use mathlib.Core.Logic.{◌⊎◌, inl, inr, ⊎_elim}
use mathlib.Core.Path.{◌≡◌, refl, sym, ◌∙◌}
use native.Mathlib.Omega.{arith}
use Prim.Native.Nat.{ℕ, zero, suc, ◌≤◌, ◌<◌}

pub clash : {t : Bool} → t ≡ true → t ≡ false → ⊥
clash p q = true≢false (sym p ∙ q)

pub either : (t : Bool) → (t ≡ true) ⊎ (t ≡ false)
either true = inl refl
either false = inr refl

pub or_left : (s t : Bool) → s ≡ true → (s || t) ≡ true
or_left true t p = refl
or_left false t p = absurd (clash p refl)

pub or_right : (s t : Bool) → t ≡ true → (s || t) ≡ true
or_right true t p = refl
or_right false t p = p

pub or_cases : (s t : Bool) → (s || t) ≡ true → (s ≡ true) ⊎ (t ≡ true)
or_cases true t p = inl refl
or_cases false t p = inr p

pub and_both : (s t : Bool) → (s && t) ≡ true → (s ≡ true) × (t ≡ true)
and_both true t p = (refl, p)
and_both false t p = absurd (clash p refl)

pub both_and : (s t : Bool) → s ≡ true → t ≡ true → (s && t) ≡ true
both_and true t p q = q
both_and false t p q = p

pub not_of : (t : Bool) → not t ≡ true → t ≡ false
not_of true p = sym p
not_of false p = refl

pub of_not : (t : Bool) → t ≡ false → not t ≡ true
of_not true p = sym p
of_not false p = refl

pub side : (a b : ℕ) → (a < b) ⊎ (b ≤ a)
side zero zero = inr (omega arith)
side zero (suc b) = inl (omega arith)
side (suc a) zero = inr (omega arith)
side (suc a) (suc b) = ⊎_elim (λ h. inl (omega arith)) (λ h. inr (omega arith)) (side a b)
