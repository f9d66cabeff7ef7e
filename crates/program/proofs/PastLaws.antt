-- Laws of what the reader's functions answer: a position between two bounds or a refusal, and the position after what a check has read. Each holds
-- by the cases of the answer or of the check.
use mathlib.Core.Path.{◌≡◌, refl, sym}
use native.Mathlib.Omega.{arith}
use Prim.Native.Nat.{ℕ, ◌≤◌}
use Rattle.std.specs.Prelude.{Result, Ok, Err}
use Rattle.answers.specs.declared.Refusal.{Refusal}
use Rattle.answers.specs.Check.{Check, ok, refused, ◌>>=◌}
use Rattle.answers.specs.Said.{said}
use Rattle.rules.specs.Program.{Read}
use Rattle.program.specs.Reader.{next_of, Between}

pub between_refused : (a e : ℕ) (r : Result ℕ Refusal) (x : Refusal) → r ≡ Err x → Between a e r
between_refused a e r x h = rw h tt

pub between_wider : (a e b f : ℕ) (r : Result ℕ Refusal) → b ≤ a → e ≤ f → Between a e r → Between b f r
between_wider a e b f (Ok p) h k w = omega arith
between_wider a e b f (Err x) h k w = tt

-- an answer that says a position lies between what the position does
pub between_said : (a e p : ℕ) (r : Result ℕ Refusal) (m : Check ℕ) → said r ≡ m → ((q : ℕ) → m ≡ ok q → q ≡ p)
    → a ≤ p → p ≤ e → Between a e r
between_said a e p (Ok q) m g f h k = let w : q ≡ p = f q (sym g) in (omega arith, omega arith)
between_said a e p (Err x) m g f h k = tt

module _ {A : Type 0} where
  -- what was read, where the position after it is known
  pub next_ok : (m : Check (Read A)) (p : ℕ) → next_of m ≡ ok p → (x : Read A) × (m ≡ ok x) × (x.next ≡ p)
  unfolding next_of ◌>>=◌
  next_ok (ok x) p e = (x, refl, cc)
  next_ok (refused r) p e = let z : ◌≡◌ {A = ℕ} 0 1 = cc in absurd (omega arith)

  pub next_refused : (m : Check (Read A)) (r : Refusal) → next_of m ≡ refused r → m ≡ refused r
  unfolding next_of ◌>>=◌
  next_refused (ok x) r e = let z : ◌≡◌ {A = ℕ} 0 1 = cc in absurd (omega arith)
  next_refused (refused y) r e = cc

  -- a value made of what was read changes no position
  pub next_map : {B : Type 0} (m : Check (Read A)) (f : A → B) → next_of (m >>= λ x. ok (record { it = f x.it; next = x.next })) ≡ next_of m
  unfolding next_of ◌>>=◌
  next_map (ok x) f = refl
  next_map (refused r) f = refl
