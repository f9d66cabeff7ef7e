-- A search that stops at the first number, or the first kind, that passes a test finds one exactly where one of them passes.
use Rattle.std.proofs.Common.{ℕ, zero, suc, ◌+◌, ◌<◌, Bool, true, false, ◌||◌, ◌&&◌, ◌≡◌, refl, sym, ap, ◌∙◌, arith, List, [], ◌∷◌}
use Rattle.std.specs.List.{range_with_len, list_any, list_all}
use Rattle.rules.specs.declared.statements.TheConstants.{KINDS}
use Rattle.rules.specs.Basics.{all}
use Rattle.rules.specs.Grammar.{some_below}
use Rattle.rules.specs.Kinds.{byte_of}

-- one of so many passes, by tests that agree on them
pub some_same : (n : ℕ) (p q : ℕ → Bool) → ((i : ℕ) → i < n → p i ≡ q i) → some_below n p ≡ some_below n q
some_same zero p q h = refl
some_same (suc n) p q h =
    ap (λ (b : Bool). first b (some_below n λ i. p (suc i))) (h 0 (omega arith))
    ∙ ap (first (q 0)) (some_same n (λ i. p (suc i)) (λ i. q (suc i)) λ i l. h (suc i) (omega arith))
  where
    first : Bool → Bool → Bool
    first a b = elim a [ true ↦ true | false ↦ b ]

any_range : (p : ℕ → Bool) (a n : ℕ) → list_any p (range_with_len a n) ≡ some_below n (λ i. p (a + i))
any_range p a zero = refl
any_range p a (suc n) =
    ap (λ (k : ℕ). p k || list_any p (range_with_len (a + 1) n)) start
    ∙ ap (λ (b : Bool). p (a + 0) || b) (any_range p (a + 1) n ∙ some_same n (λ i. p (a + 1 + i)) (λ i. p (a + suc i)) λ i l. ap p (omega arith))
    ∙ first (p (a + 0)) (some_below n λ i. p (a + suc i))
  where
    start : a ≡ a + 0
    start = omega arith

    first : (a b : Bool) → (a || b) ≡ elim a [ true ↦ true | false ↦ b ]
    first true b = refl
    first false b = refl

pub any_below : (p : ℕ → Bool) (n : ℕ) → list_any p (range_with_len 0 n) ≡ some_below n p
any_below p n = any_range p 0 n ∙ some_same n (λ i. p (0 + i)) p λ i l. ap p (omega arith)

pub any_kind : (p : ℕ → Bool) → list_any (λ kind. p (byte_of kind)) KINDS ≡ some_below 13 (λ i. p (suc i))
any_kind p = any_range p 1 13 ∙ some_same 13 (λ i. p (1 + i)) (λ i. p (suc i)) λ i l. ap p (omega arith)

-- the same of a loop that returns at the first number that passes
pub none_found : (n : ℕ) (p : ℕ → Bool) → ((j : ℕ) → j < n → p j ≡ false) → false ≡ some_below n p
none_found zero p h = refl
none_found (suc n) p h =
    none_found n (λ i. p (suc i)) (λ j l. h (suc j) (omega arith))
    ∙ ap (λ (b : Bool). elim b [ true ↦ true | false ↦ some_below n λ i. p (suc i) ]) (sym (h 0 (omega arith)))

pub one_found : (n : ℕ) (p : ℕ → Bool) (v : ℕ) → v < n → p v ≡ true → true ≡ some_below n p
one_found zero p v l h = absurd (omega arith)
one_found (suc n) p zero l h = ap (λ (b : Bool). elim b [ true ↦ true | false ↦ some_below n λ i. p (suc i) ]) (sym h)
one_found (suc n) p (suc v) l h = go (p 0) (one_found n (λ i. p (suc i)) v (omega arith) h)
  where
    go : (b : Bool) → true ≡ some_below n (λ i. p (suc i)) → true ≡ elim b [ true ↦ true | false ↦ some_below n λ i. p (suc i) ]
    go true r = refl
    go false r = r

-- the same of all of a list
pub all_is : {A : Type 0} (p : A → Bool) (l : List A) → list_all p l ≡ all p l
all_is p [] = refl
all_is p (x ∷ l) = ap (λ (b : Bool). p x && b) (all_is p l)
