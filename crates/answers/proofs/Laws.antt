-- Laws of checks. `Holds P m`: what m gives, if it gives anything, has the property P. Soundness of a row of checks is a chain of these, a link for
-- each check; completeness rewrites with what each check was shown to give.
use mathlib.Core.Bool.{Bool, true, false}
use mathlib.Core.Logic.{◌⊎◌, inl, inr}
use mathlib.Core.Path.{◌≡◌, refl, subst}
use native.Mathlib.Omega.{arith}
use Prim.Native.Nat.{ℕ}
use Rattle.answers.specs.declared.File.{File}
use Rattle.answers.specs.declared.Refusal.{Refusal}
use Rattle.answers.specs.Check.{Check, ok, refused, ◌>>=◌, ◌>>◌, need, within}

pub data Holds {A : Type 0} (P : A → Type 0) : Check A → Type 0 where
  not_ok : {r : Refusal} → Holds P (refused r)
  by : {a : A} → P a → Holds P (ok a)

pub holds_bind : {A B : Type 0} {Q : A → Type 0} {P : B → Type 0} {m : Check A} {f : A → Check B} → Holds Q m
    → ((a : A) → Q a → Holds P (f a)) → Holds P (m >>= f)
unfolding ◌>>=◌
holds_bind not_ok g = not_ok
holds_bind (by {a = a} h) g = g a h

pub holds_then : {A B : Type 0} {Q : A → Type 0} {P : B → Type 0} {m : Check A} {n : Check B} → Holds Q m
    → ((a : A) → Q a → Holds P n) → Holds P (m >> n)
unfolding ◌>>◌
holds_then not_ok g = not_ok
holds_then (by {a = a} h) g = g a h

pub holds_need : (b : Bool) (n o : ℕ) → Holds (λ u. b ≡ true) (need b n o)
holds_need true n o = by refl
holds_need false n o = not_ok

-- a choice by a test: what holds of what is chosen, with what the test said
pub holds_choice : {A : Type 0} {P : A → Type 0} (b : Bool) {x y : Check A} → (b ≡ false → Holds P x) → (b ≡ true → Holds P y)
    → Holds P (elim b [ false ↦ x | true ↦ y ])
holds_choice false f g = f refl
holds_choice true f g = g refl

pub holds_map : {A : Type 0} {P Q : A → Type 0} {m : Check A} → ((a : A) → P a → Q a) → Holds P m → Holds Q m
holds_map f not_ok = not_ok
holds_map f (by {a = a} h) = by (f a h)

pub holds_any : {A : Type 0} (m : Check A) → Holds (λ a. m ≡ ok a) m
holds_any (ok a) = by refl
holds_any (refused r) = not_ok

pub holds_within : {A : Type 0} {P : A → Type 0} {m : Check A} (f : File) → Holds P m → Holds P (within f m)
holds_within f not_ok = not_ok
holds_within f (by h) = by h

holds_ok : {A : Type 0} {P : A → Type 0} {a : A} → Holds P (ok a) → P a
holds_ok (by h) = h

pub holds_at : {A : Type 0} {P : A → Type 0} {m : Check A} {a : A} → Holds P m → m ≡ ok a → P a
holds_at {P = P} h e = holds_ok (subst (λ (r : Check _). Holds P r) e h)

-- a check that gave a value did not refuse
pub ok_or_refused : {A : Type 0} (m : Check A) → ((a : A) × (m ≡ ok a)) ⊎ ((r : Refusal) × (m ≡ refused r))
ok_or_refused (ok a) = inl (a, refl)
ok_or_refused (refused r) = inr (r, refl)

pub ok_not_refused : {A X : Type 0} {a : A} {r : Refusal} → ok a ≡ refused r → X
ok_not_refused e = let z : ◌≡◌ {A = ℕ} 0 1 = cc in absurd (omega arith)

pub bind_assoc : {A B C : Type 0} (m : Check A) (f : A → Check B) (g : B → Check C) → ((m >>= f) >>= g) ≡ (m >>= λ a. f a >>= g)
unfolding ◌>>=◌
bind_assoc (ok a) f g = refl
bind_assoc (refused r) f g = refl

pub bind_under : {A B : Type 0} (m : Check A) {f g : A → Check B} → ((a : A) → f a ≡ g a) → (m >>= f) ≡ (m >>= g)
unfolding ◌>>=◌
bind_under (ok a) h = h a
bind_under (refused r) h = refl
