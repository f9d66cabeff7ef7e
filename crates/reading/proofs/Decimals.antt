-- A decimal below 1,000 has one to three digits, by how large its number is, and the first is not 0 where there are more; so decimals of one text are of
-- one number.
use mathlib.Core.Bool.{Bool, true, false}
use mathlib.Core.List.{[], ◌∷◌}
use mathlib.Core.Logic.{◌⊎◌, inl, inr}
use mathlib.Core.Path.{◌≡◌, refl, sym, ap, ◌∙◌}
use native.Mathlib.Omega.{arith}
use Prim.Native.Nat.{ℕ, zero, suc, ◌+◌, ◌-◌, ◌*◌, ◌/◌, ◌%◌, ◌<◌, ◌≤◌}
use borrow.Author.Tests.{ltb-true, ltb-false, lt-ltb, le-ltb}
use lib.Dec.{ltb}
use lib.ListN.{get_or, length}
use Rattle.rules.specs.Words.{Text, decimal}

abbrev ones : ℕ → Text
ones n = (0x30 + n) ∷ []

abbrev tens : ℕ → Text
tens n = (0x30 + n / 10) ∷ (0x30 + n % 10) ∷ []

abbrev hundreds : ℕ → Text
hundreds n = (0x30 + n / 100) ∷ (0x30 + n / 10 % 10) ∷ (0x30 + n % 10) ∷ []

abbrev digits : ℕ → Bool → Bool → Text
digits n one two = elim one [ true ↦ ones n | false ↦ elim two [ true ↦ tens n | false ↦ hundreds n ] ]

pub decimal_one : (n : ℕ) → n < 10 → decimal n ≡ ones n
decimal_one n h = ap (λ (b : Bool). digits n b (ltb n 100)) (lt-ltb n 10 h)

pub decimal_two : (n : ℕ) → 10 ≤ n → n < 100 → decimal n ≡ tens n
decimal_two n h k = ap (λ (b : Bool). digits n b (ltb n 100)) (le-ltb n 10 h) ∙ ap (digits n false) (lt-ltb n 100 k)

pub decimal_three : (n : ℕ) → 100 ≤ n → decimal n ≡ hundreds n
decimal_three n h = ap (λ (b : Bool). digits n b (ltb n 100)) (le-ltb n 10 (omega arith)) ∙ ap (digits n false) (le-ltb n 100 h)

-- what digits a decimal has
abbrev Digits : ℕ → Type 0
Digits n =
    ((n < 10) × (decimal n ≡ ones n)) ⊎ (((10 ≤ n) × (n < 100) × (decimal n ≡ tens n)) ⊎ ((100 ≤ n) × (decimal n ≡ hundreds n)))

digits_of : (n : ℕ) → Digits n
digits_of n = go (ltb n 10) refl (ltb n 100) refl
  where
    go : (a : Bool) → ltb n 10 ≡ a → (b : Bool) → ltb n 100 ≡ b → Digits n
    go true e b f = let h : n < 10 = ltb-true n 10 e in inl (h, decimal_one n h)
    go false e true f =
        let h : 10 ≤ n = ltb-false n 10 e in
        let k : n < 100 = ltb-true n 100 f in
        inr (inl (h, k, decimal_two n h k))
    go false e false f = let h : 100 ≤ n = ltb-false n 100 f in inr (inr (h, decimal_three n h))

-- two decimals of one text are of one number
abbrev value : Text → ℕ
value [] = 0
value (x ∷ []) = x - 0x30
value (x ∷ (y ∷ [])) = (x - 0x30) * 10 + (y - 0x30)
value (x ∷ (y ∷ (z ∷ t))) = (x - 0x30) * 100 + (y - 0x30) * 10 + (z - 0x30)

value_decimal : (n : ℕ) → value (decimal n) ≡ n
value_decimal n = go (digits_of n)
  where
    go : Digits n → value (decimal n) ≡ n
    go (inl h) = ap value h.1 ∙ omega arith
    go (inr (inl h)) = ap value h.2 ∙ omega arith
    go (inr (inr h)) = ap value h.1 ∙ omega arith

pub one_decimal : (a b : ℕ) → decimal a ≡ decimal b → a ≡ b
one_decimal a b e = sym (value_decimal a) ∙ ap value e ∙ value_decimal b

-- every character of a decimal below 1,000 is a digit, and the first is not 0 where there are more
pub has_digit : (n : ℕ) → n < 1000 → (j : ℕ) → j < length (decimal n) → (d : ℕ) × (d < 10) × (get_or (decimal n) j 0 ≡ 0x30 + d)
has_digit n h j l = go (digits_of n) j l
  where
    at_one : (j : ℕ) → n < 10 → j < 1 → (d : ℕ) × (d < 10) × (get_or (ones n) j 0 ≡ 0x30 + d)
    at_one zero k l = (n, k, refl)
    at_one (suc j) k l = absurd (omega arith)

    at_two : (j : ℕ) → n < 100 → j < 2 → (d : ℕ) × (d < 10) × (get_or (tens n) j 0 ≡ 0x30 + d)
    at_two zero k l = (n / 10, omega arith, refl)
    at_two (suc zero) k l = (n % 10, omega arith, refl)
    at_two (suc (suc j)) k l = absurd (omega arith)

    at_three : (j : ℕ) → j < 3 → (d : ℕ) × (d < 10) × (get_or (hundreds n) j 0 ≡ 0x30 + d)
    at_three zero l = (n / 100, omega arith, refl)
    at_three (suc zero) l = (n / 10 % 10, omega arith, refl)
    at_three (suc (suc zero)) l = (n % 10, omega arith, refl)
    at_three (suc (suc (suc j))) l = absurd (omega arith)

    go : Digits n → (j : ℕ) → j < length (decimal n) → (d : ℕ) × (d < 10) × (get_or (decimal n) j 0 ≡ 0x30 + d)
    go (inl k) j l = rw k.1 (at_one j k.0 (rw k.1 at l))
    go (inr (inl k)) j l = rw k.2 (at_two j k.1 (rw k.2 at l))
    go (inr (inr k)) j l = rw k.1 (at_three j (rw k.1 at l))

pub decimal_length : (n : ℕ) → (1 ≤ length (decimal n)) × (length (decimal n) ≤ 3)
decimal_length n = go (digits_of n)
  where
    go : Digits n → (1 ≤ length (decimal n)) × (length (decimal n) ≤ 3)
    go (inl k) = rw k.1 (omega arith, omega arith)
    go (inr (inl k)) = rw k.2 (omega arith, omega arith)
    go (inr (inr k)) = rw k.1 (omega arith, omega arith)

pub no_leading_zero : (n : ℕ) → 1 < length (decimal n) → get_or (decimal n) 0 0 ≡ 0x30 → ⊥
no_leading_zero n l e = go (digits_of n)
  where
    go : Digits n → ⊥
    go (inl k) = let m : 1 < 1 = rw k.1 at l in omega arith
    go (inr (inl k)) = let m : 0x30 + n / 10 ≡ 0x30 = rw k.2 at e in omega arith
    go (inr (inr k)) = let m : 0x30 + n / 100 ≡ 0x30 = rw k.1 at e in omega arith
