-- Laws of the small functions on lists.
use mathlib.Core.Bool.{Bool, true, false, ◌&&◌}
use mathlib.Core.Path.{◌≡◌, refl, sym, ap, subst, ◌∙◌}
use native.Mathlib.Nat.{add-zero, zero-add, add-suc, suc-add, le_of_suc-le-suc, not-suc-le-zero}
use native.Mathlib.Omega.{arith}
use native.Mathlib.Decide.{ℕ_discrete}
use Prim.Native.Nat.{ℕ, zero, suc, ◌+◌, ◌≤◌, ◌<◌}
use lib.Dec.{T}
use lib.ListN.{get_or, length}
use Rattle.rules.specs.Basics.{all, up_to}

module _ {A : Type 0} where
  pub length_up_to : (i m : ℕ) (f : ℕ → A) → length (up_to i m f) ≡ m
  length_up_to i zero f = refl
  length_up_to i (suc m) f = ap suc (length_up_to (suc i) m f)

  -- what stands at a place of `up_to`
  pub get_d_up_to : (i m k : ℕ) (f : ℕ → A) (d : A) → k < m → get_or (up_to i m f) k d ≡ f (i + k)
  get_d_up_to i zero k f d h = absurd (not-suc-le-zero h)
  get_d_up_to i (suc m) zero f d h = ap f (sym (add-zero i))
  get_d_up_to i (suc m) (suc k) f d h = get_d_up_to (suc i) m k f d (le_of_suc-le-suc h) ∙ ap f (suc-add i k ∙ sym (add-suc i k))

  pub get_d_up_to_zero : (m k : ℕ) (f : ℕ → A) (d : A) → k < m → get_or (up_to 0 m f) k d ≡ f k
  get_d_up_to_zero m k f d h = get_d_up_to 0 m k f d h ∙ ap f (zero-add k)

-- a test that passes at all of a row of numbers passes at each
pub all_up_to : (p : ℕ → Bool) (i m : ℕ) → T (all p (up_to i m λ k. k)) → (k : ℕ) → i ≤ k → k < i + m → T (p k)
all_up_to p i zero t k h l = absurd (omega arith)
all_up_to p i (suc m) t k h l = go (p i) refl t (ℕ_discrete k i) (λ r a. all_up_to p (suc i) m r k a (omega arith))
  where
    go : (b : Bool) → p i ≡ b → T (b && all p (up_to (suc i) m λ n. n)) → Dec (k ≡ i)
        → (T (all p (up_to (suc i) m λ n. n)) → suc i ≤ k → T (p k)) → T (p k)
    go true e r (yes q) rest = subst (λ (n : ℕ). T (p n)) (sym q) (subst (λ (b : Bool). T b) (sym e) tt)
    go true e r (no q) rest = rest r (omega arith)
    go false e r d rest = absurd r
