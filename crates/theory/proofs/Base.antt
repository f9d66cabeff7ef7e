-- Small facts on what stands in a list: on numbers of which none comes twice, after a store, by whether the store is there and in range, and how many pass.
use mathlib.Core.Bool.{Bool, true, false, not, false≢true}
use mathlib.Core.List.{List, [], ◌∷◌}
use mathlib.Core.Logic.{◌⊎◌, inl, inr, ⊎_elim}
use mathlib.Core.Path.{◌≡◌, refl, ap, ◌∙◌}
use native.Mathlib.Decide.{ℕ_discrete, dec_lt}
use native.Mathlib.Omega.{arith}
use Prim.Native.Nat.{ℕ, zero, suc, ◌+◌, ◌≤◌, ◌<◌}
use lib.Dec.{eqb}
use lib.ListN.{length, get_or, set, replicate, get_or-eq_default}
use lib.Seq.{get_or-set_same, get_or-set_other, set_out}
use Rattle.rules.specs.Basics.{chosen, any, how_many, distinct}
use Rattle.rules.proofs.Tests.{and_left, and_right, not_true}

-- of numbers of which none comes twice, the first is not among the others, and none of those comes twice
pub distinct_head : (n : ℕ) (ns : List ℕ) → distinct (n ∷ ns) ≡ true → any (eqb n) ns ≡ false
distinct_head n ns h = not_true (any (eqb n) ns) (and_left _ _ h)

pub distinct_tail : (n : ℕ) (ns : List ℕ) → distinct (n ∷ ns) ≡ true → distinct ns ≡ true
distinct_tail n ns h = and_right (not (any (eqb n) ns)) _ h

-- what holds of both holds of the one chosen
pub chosen_has : {A : Type 0} (P : A → Type 0) (t : Bool) {a b : A} → P a → P b → P (chosen t a b)
chosen_has P true p q = p
chosen_has P false p q = q

-- what a list of tests passes at is below its length
pub true_in_range : (bs : List Bool) (i : ℕ) → get_or bs i false ≡ true → i < length bs
true_in_range [] i h = absurd (false≢true h)
true_in_range (b ∷ bs) zero h = omega arith
true_in_range (b ∷ bs) (suc i) h = let k : i < length bs = true_in_range bs i h in omega arith

-- what stands at an index after one store: the store's value, or what stood there
module _ {A : Type 0} where
  pub get_d_set_cases : (l : List A) (i j : ℕ) (a d : A) → ((j ≡ i) × (get_or (set l i a) j d ≡ a)) ⊎ (get_or (set l i a) j d ≡ get_or l j d)
  get_d_set_cases l i j a d = go (ℕ_discrete j i) (dec_lt i (length l))
    where
      go : Dec (j ≡ i) → Dec (i < length l) → ((j ≡ i) × (get_or (set l i a) j d ≡ a)) ⊎ (get_or (set l i a) j d ≡ get_or l j d)
      go (no n) d₁ = inr (get_or-set_other l i j a d n)
      go (yes e) (yes h) = inl (e, rw e (get_or-set_same l i a d h))
      go (yes e) (no h) = let k : length l ≤ i = omega arith in inr (rw set_out)

  -- so what stood there already stays
  pub get_d_set_stays : (l : List A) (i j : ℕ) (a d : A) → get_or l j d ≡ a → get_or (set l i a) j d ≡ a
  get_d_set_stays l i j a d h = ⊎_elim (λ c. c.1) (λ c. c ∙ h) (get_d_set_cases l i j a d)

  -- the default stored stands there, in range or not
  pub get_d_set_default : (l : List A) (i : ℕ) (d : A) → get_or (set l i d) i d ≡ d
  get_d_set_default l i d = go (dec_lt i (length l))
    where
      go : Dec (i < length l) → get_or (set l i d) i d ≡ d
      go (yes h) = get_or-set_same l i d d h
      go (no h) = ap (λ (k : List A). get_or k i d) (set_out l i d (omega arith)) ∙ get_or-eq_default l d (omega arith)

  pub get_d_replicate_default : (n i : ℕ) (d : A) → get_or (replicate n d) i d ≡ d
  get_d_replicate_default zero i d = refl
  get_d_replicate_default (suc n) zero d = refl
  get_d_replicate_default (suc n) (suc i) d = get_d_replicate_default n i d

-- how many pass: no more than there are; where one element changes, those before it and those after it count as they did
module _ {A : Type 0} (p : A → Bool) where
  pub how_many_few : (xs : List A) → how_many p xs ≤ length xs
  how_many_few [] = omega arith
  how_many_few (x ∷ xs) =
      let once : chosen (p x) 1 0 ≤ 1 = chosen_has (λ (n : ℕ). n ≤ 1) (p x) (omega arith) (omega arith) in
      omega (arith, how_many_few xs)

  pub how_many_set : (xs : List A) (i : ℕ) (a d : A) → i < length xs
      → how_many p (set xs i a) + chosen (p (get_or xs i d)) 1 0 ≡ how_many p xs + chosen (p a) 1 0
  how_many_set [] i a d h = absurd (omega arith)
  how_many_set (x ∷ xs) zero a d h = omega arith
  how_many_set (x ∷ xs) (suc i) a d h = let r = how_many_set xs i a d (omega arith) in omega arith
