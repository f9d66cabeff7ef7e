-- Laws of the small functions on lists, by their elements.
use mathlib.Core.Bool.{Bool, true, false, ◌&&◌, and-false}
use mathlib.Core.List.{List, [], ◌∷◌}
use mathlib.Core.Path.{◌≡◌, refl, sym, ap, ◌∙◌}
use native.Mathlib.Decide.{ℕ_discrete}
use native.Mathlib.Nat.{zero-add}
use native.Mathlib.Omega.{arith}
use Prim.Native.Nat.{ℕ, zero, suc, ◌+◌, ◌≤◌, ◌<◌}
use lib.ListN.{get_or, length}
use Rattle.rules.specs.Basics.{all, same_list, up_to}
use Rattle.rules.proofs.Basics.{get_d_up_to}

pub and_yes : (a b : Bool) → a ≡ true → b ≡ true → (a && b) ≡ true
and_yes a b h k = rw (h, k)

pub and_no : (a b : Bool) → b ≡ false → (a && b) ≡ false
and_no a b h = rw h (and-false a)

-- a test at a row of numbers
pub all_yes : (f : ℕ → Bool) (i m : ℕ) → ((k : ℕ) → i ≤ k → k < i + m → f k ≡ true) → all f (up_to i m λ k. k) ≡ true
all_yes f i zero h = refl
all_yes f i (suc m) h = and_yes (f i) _ (h i (omega arith) (omega arith)) (all_yes f (suc i) m (λ k a b. h k (omega arith) (omega arith)))

pub all_no : (f : ℕ → Bool) (i m k : ℕ) → i ≤ k → k < i + m → f k ≡ false → all f (up_to i m λ k. k) ≡ false
all_no f i zero k a b h = absurd (omega arith)
all_no f i (suc m) k a b h = go (ℕ_discrete k i) (λ q. all_no f (suc i) m k (omega arith) (omega arith) h)
  where
    go : Dec (k ≡ i) → ((k ≡ i → ⊥) → all f (up_to (suc i) m λ j. j) ≡ false) → (f i && all f (up_to (suc i) m λ j. j)) ≡ false
    go (yes q) rest = let e : f i ≡ false = ap f (sym q) ∙ h in rw e
    go (no q) rest = and_no (f i) _ (rest q)

module _ {A : Type 0} where
  pub length_up_to : (i m : ℕ) (f : ℕ → A) → length (up_to i m f) ≡ m
  length_up_to i zero f = refl
  length_up_to i (suc m) f = ap suc (length_up_to (suc i) m f)

  pub get_d_up_to_zero : (m k : ℕ) (f : ℕ → A) (d : A) → k < m → get_or (up_to 0 m f) k d ≡ f k
  get_d_up_to_zero m k f d h = get_d_up_to 0 m k f d h ∙ ap f (zero-add k)

  -- two lists of one length
  module _ (f : A → A → Bool) (d : A) where
    pub same_yes : (vs ws : List A) → length vs ≡ length ws → ((k : ℕ) → k < length vs → f (get_or vs k d) (get_or ws k d) ≡ true) → same_list f vs ws ≡ true
    same_yes [] [] e h = refl
    same_yes [] (w ∷ ws) e h = absurd (omega arith)
    same_yes (v ∷ vs) [] e h = absurd (omega arith)
    same_yes (v ∷ vs) (w ∷ ws) e h = and_yes (f v w) _ (h 0 (omega arith)) (same_yes vs ws (omega arith) (λ k l. h (suc k) (omega arith)))

    pub same_no : (vs ws : List A) → length vs ≡ length ws → (k : ℕ) → k < length vs → f (get_or vs k d) (get_or ws k d) ≡ false → same_list f vs ws ≡ false
    same_no [] ws e k l h = absurd (omega arith)
    same_no (v ∷ vs) [] e k l h = absurd (omega arith)
    same_no (v ∷ vs) (w ∷ ws) e zero l h = rw h
    same_no (v ∷ vs) (w ∷ ws) e (suc k) l h = and_no (f v w) _ (same_no vs ws (omega arith) k (omega arith) h)
