-- What is remembered stays right. An empty memory says nothing wrong; the right count of a function may be put into a right memory, whether or not the
-- function was known.
use mathlib.Core.Logic.{⊎_elim}
use mathlib.Core.Path.{◌≡◌, sym, ap, ◌∙◌}
use native.Mathlib.Decide.{ℕ_discrete}
use native.Mathlib.Omega.{arith}
use Prim.Native.Nat.{ℕ, ◌+◌, ◌<◌}
use Rattle.std.specs.Prelude.{None, Some, get_or}
use Rattle.std.proofs.lemmas.Option.{none-some, same_Some}
use Rattle.theory.proofs.Base.{get_d_replicate_default, get_d_set_cases}
use Rattle.counting.specs.Counting.{cap}
use Rattle.counting.specs.Found.{Right, noted, nothing_known}
use Rattle.counting.specs.declared.memory.Memory.{Memory}

pub right_blank : (φ : ℕ → ℕ) → Right φ 0 nothing_known
right_blank φ = record {
  right = λ f c h. absurd (none-some c (sym (get_d_replicate_default 16 f None) ∙ h));
  known = λ f l. absurd (omega arith);
}

module _ {φ : ℕ → ℕ} {n : ℕ} {m : Memory} where
  pub right_noted : (g c : ℕ) → c ≡ cap (φ g) → Right φ n m → Right φ n (noted m g c)
  right_noted g c e R = record { right = right; known = known }
    where
      right : (f x : ℕ) → get_or (noted m g c).counts f None ≡ Some x → x ≡ cap (φ f)
      right f x h =
          ⊎_elim
          (λ k. same_Some x c (sym h ∙ k.1) ∙ e ∙ ap (λ y. cap (φ y)) (sym k.0))
          (λ k. R.right f x (sym k ∙ h))
          (get_d_set_cases m.counts g f (Some c) None)

      known : (f : ℕ) → f < n → get_or (noted m g c).counts f None ≡ Some (cap (φ f))
      known f l =
          ⊎_elim
          (λ k. k.1 ∙ ap (λ y. Some y) (e ∙ ap (λ y. cap (φ y)) (sym k.0)))
          (λ k. k ∙ R.known f l)
          (get_d_set_cases m.counts g f (Some c) None)

  -- one more function is known
  pub right_more : (c : ℕ) → get_or m.counts n None ≡ Some c → Right φ n m → Right φ (n + 1) m
  right_more c h R = record { right = R.right; known = λ f l. go f l (ℕ_discrete f n) }
    where
      go : (f : ℕ) → f < n + 1 → Dec (f ≡ n) → get_or m.counts f None ≡ Some (cap (φ f))
      go f l (yes e) = let k : get_or m.counts f None ≡ Some c = ap (λ y. get_or m.counts y None) e ∙ h in k ∙ ap (λ y. Some y) (R.right f c k)
      go f l (no e) = R.known f (omega (arith, l, e))
