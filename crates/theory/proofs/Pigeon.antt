-- A list without repetitions whose numbers are all below n has at most n of them. By induction on n: the number n comes once at most in a list of
-- numbers below n + 1, and what is left without it is a list of the same kind for n.
use mathlib.Core.Bool.{Bool, true, false}
use mathlib.Core.List.{List, [], ◌∷◌}
use mathlib.Core.Path.{◌≡◌, refl, ap, ◌∙◌}
use native.Mathlib.Omega.{arith}
use Prim.Native.Nat.{ℕ, zero, suc, ◌≤◌, ◌<◌}
use lib.Dec.{eqb}
use lib.ListN.{length}
use Rattle.rules.specs.Basics.{any, distinct}
use Rattle.rules.proofs.Tests.{eqb_true, eqb_false, neither}
use Rattle.theory.proofs.Base.{distinct_head, distinct_tail}

-- all numbers of the list are below n
abbrev pub Below : ℕ → List ℕ → Type 0
Below n [] = Unit {0}
Below n (x ∷ l) = (x < n) × Below n l

abbrev keep : Bool → ℕ → List ℕ → List ℕ
keep true y l = l
keep false y l = y ∷ l

-- the list without the number x
abbrev remove : ℕ → List ℕ → List ℕ
remove x [] = []
remove x (y ∷ l) = keep (eqb x y) y (remove x l)

-- what is not in the list is not in what is left of it
still_absent : (x y : ℕ) (l : List ℕ) → any (eqb y) l ≡ false → any (eqb y) (remove x l) ≡ false
still_absent x y [] h = refl
still_absent x y (z ∷ l) h = go (eqb x z) (still_absent x y l (neither (eqb y z) _ h).1)
  where
    go : (t : Bool) → any (eqb y) (remove x l) ≡ false → any (eqb y) (keep t z (remove x l)) ≡ false
    go true r = r
    go false r = rw ((neither (eqb y z) _ h).0, r)

still_distinct : (x : ℕ) (l : List ℕ) → distinct l ≡ true → distinct (remove x l) ≡ true
still_distinct x [] h = refl
still_distinct x (y ∷ l) h = go (eqb x y) (still_distinct x l (distinct_tail y l h))
  where
    go : (t : Bool) → distinct (remove x l) ≡ true → distinct (keep t y (remove x l)) ≡ true
    go true r = r
    go false r = rw (still_absent x y l (distinct_head y l h), r)

nothing_removed : (x : ℕ) (l : List ℕ) → any (eqb x) l ≡ false → remove x l ≡ l
nothing_removed x [] h = refl
nothing_removed x (y ∷ l) h = rw ((neither (eqb x y) _ h).0, nothing_removed x l (neither (eqb x y) _ h).1)

one_removed : (x : ℕ) (l : List ℕ) → distinct l ≡ true → length l ≤ suc (length (remove x l))
one_removed x [] h = omega arith
one_removed x (y ∷ l) h = go (eqb x y) refl (one_removed x l (distinct_tail y l h))
  where
    go : (t : Bool) → eqb x y ≡ t → length l ≤ suc (length (remove x l)) → suc (length l) ≤ suc (length (keep t y (remove x l)))
    go true e r =
        let f : any (eqb x) l ≡ false = ap (λ (z : ℕ). any (eqb z) l) (eqb_true x y e) ∙ distinct_head y l h in
        rw (nothing_removed x l f) (omega arith)
    go false e r = omega arith

lower : (n : ℕ) (l : List ℕ) → Below (suc n) l → Below n (remove n l)
lower n [] h = tt
lower n (y ∷ l) h = go (eqb n y) refl (lower n l h.1)
  where
    go : (t : Bool) → eqb n y ≡ t → Below n (remove n l) → Below n (keep t y (remove n l))
    go true e r = r
    go false e r = (omega (arith, eqb_false n y e, h.0), r)

pub pigeonhole : (n : ℕ) (l : List ℕ) → distinct l ≡ true → Below n l → length l ≤ n
pigeonhole zero [] d h = omega arith
pigeonhole zero (x ∷ l) d h = absurd (omega (arith, h.0))
pigeonhole (suc n) l d h = let r = pigeonhole n (remove n l) (still_distinct n l d) (lower n l h) in omega (arith, r, one_removed n l d)
