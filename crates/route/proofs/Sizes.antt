-- How many locations a set has: what bounds the levels. Each level takes one at least from those that are left, and the two ends are never among them.
use mathlib.Core.Bool.{Bool, true, false, not, ◌&&◌}
use mathlib.Core.Path.{◌≡◌, refl, sym, ap, ◌∙◌}
use native.Mathlib.Decide.{ℕ_discrete}
use native.Mathlib.Omega.{arith}
use Prim.Native.Nat.{ℕ, zero, suc, ◌+◌, ◌≤◌, ◌<◌}
use Rattle.sets.specs.declared.LocationSet.{LocationSet}
use Rattle.sets.specs.Sets.{has}
use Rattle.sets.proofs.Bools.{clash, and_both}
use Rattle.sets.proofs.SetLaws.{has_lt}

one : Bool → ℕ
one true = 1
one false = 0

-- the numbers below n that pass
pub count : (ℕ → Bool) → ℕ → ℕ
count f zero = 0
count f (suc n) = one (f n) + count f n

one_le : (s t : Bool) → (s ≡ true → t ≡ true) → one s ≤ one t
unfolding one
one_le true true h = omega arith
one_le true false h = absurd (clash (h refl) refl)
one_le false t h = omega arith

one_most : (t : Bool) → one t ≤ 1
unfolding one
one_most true = omega arith
one_most false = omega arith

one_on : (t : Bool) → t ≡ true → one t ≡ 1
unfolding one
one_on true h = refl
one_on false h = absurd (clash h refl)

one_off : (t : Bool) → t ≡ false → one t ≡ 0
unfolding one
one_off true h = absurd (clash refl h)
one_off false h = refl

count_le : (f g : ℕ → Bool) (n : ℕ) → ((y : ℕ) → f y ≡ true → g y ≡ true) → count f n ≤ count g n
unfolding count
count_le f g zero h = omega arith
count_le f g (suc n) h = let r = count_le f g n h in let s = one_le (f n) (g n) (h n) in omega arith

-- one that passes no more
pub count_less : (f g : ℕ → Bool) (n : ℕ) → ((y : ℕ) → f y ≡ true → g y ≡ true) → (y : ℕ) → y < n → f y ≡ false
    → g y ≡ true → count f n < count g n
unfolding count
count_less f g zero h y l p q = absurd (omega arith)
count_less f g (suc n) h y l p q = go (ℕ_discrete y n) (λ k. count_less f g n h y k p q)
  where
    go : Dec (y ≡ n) → (y < n → count f n < count g n) → one (f n) + count f n < one (g n) + count g n
    go (yes e) rec = let r = count_le f g n h in let s = one_off (f n) (ap f (sym e) ∙ p) in let t = one_on (g n) (ap g (sym e) ∙ q) in omega arith
    go (no e) rec = let r = rec (omega arith) in let s = one_le (f n) (g n) (h n) in omega arith

count_most : (f : ℕ → Bool) (n : ℕ) → count f n ≤ n
unfolding count
count_most f zero = omega arith
count_most f (suc n) = let r = count_most f n in let s = one_most (f n) in omega arith

count_but_one : (f : ℕ → Bool) (n a : ℕ) → a < n → f a ≡ false → count f n < n
unfolding count
count_but_one f zero a h p = absurd (omega arith)
count_but_one f (suc n) a h p = go (ℕ_discrete a n) (λ k. count_but_one f n a k p)
  where
    go : Dec (a ≡ n) → (a < n → count f n < n) → one (f n) + count f n < suc n
    go (yes e) rec = let r = count_most f n in let s = one_off (f n) (ap f (sym e) ∙ p) in omega arith
    go (no e) rec = let r = rec (omega arith) in let s = one_most (f n) in omega arith

-- two numbers do not pass
pub count_but_two : (f : ℕ → Bool) (n a b : ℕ) → a < n → b < n → (a ≡ b → ⊥) → f a ≡ false → f b ≡ false → count f n + 2 ≤ n
unfolding count
count_but_two f zero a b h k d p q = absurd (omega arith)
count_but_two f (suc n) a b h k d p q = go (ℕ_discrete a n) (ℕ_discrete b n) (λ i j. count_but_two f n a b i j d p q)
  where
    go : Dec (a ≡ n) → Dec (b ≡ n) → (a < n → b < n → count f n + 2 ≤ n) → one (f n) + count f n + 2 ≤ suc n
    go (yes e) (yes g) rec = absurd (d (e ∙ sym g))
    go (yes e) (no g) rec = let r = count_but_one f n b (omega arith) q in let s = one_off (f n) (ap f (sym e) ∙ p) in omega arith
    go (no e) (yes g) rec = let r = count_but_one f n a (omega arith) p in let s = one_off (f n) (ap f (sym g) ∙ q) in omega arith
    go (no e) (no g) rec = let r = rec (omega arith) (omega arith) in let s = one_most (f n) in omega arith

-- one that passes
pub count_some : (f : ℕ → Bool) (n y : ℕ) → y < n → f y ≡ true → 0 < count f n
count_some f n y h p = let r = count_less (λ _. false) f n (λ x q. absurd (clash q refl)) y h refl p in omega arith

-- a set that loses a member
pub set_less : (N : ℕ → Bool) (l l' : LocationSet) → ((y : ℕ) → has l' y ≡ (has l y && not (N y)))
    → (y : ℕ) → N y ≡ true → has l y ≡ true → count (has l') 256 < count (has l) 256
set_less N l l' e y p q =
    count_less (has l') (has l) 256 (λ x h. (and_both (has l x) (not (N x)) (sym (e x) ∙ h)).0) y (has_lt l y q) (e y ∙ rw (p, q)) q
