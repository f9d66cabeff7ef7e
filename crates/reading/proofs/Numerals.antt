-- The number that a word is: a word of one to three digits, of which the first is not 0 where there are more, is the decimal of what they make; any other
-- is the decimal of no number below 1,000.
use mathlib.Core.Bool.{Bool, true, false, ◌&&◌, false≢true}
use mathlib.Core.List.{[], ◌∷◌}
use mathlib.Core.Path.{◌≡◌, refl, sym, ap, subst, ◌∙◌}
use native.Mathlib.Omega.{arith}
use Prim.Native.Nat.{ℕ, zero, suc, ◌+◌, ◌-◌, ◌*◌, ◌/◌, ◌%◌, ◌<◌, ◌≤◌}
use borrow.Author.Count.{below_more}
use borrow.Author.Tests.{eqb-true, eq-eqb}
use lib.Dec.{eqb}
use lib.ListN.{get_or, length, drop}
use lib.Seq.{drop-cons}
use Rattle.std.specs.Prelude.{Option, None, Some}
use Rattle.rules.specs.Basics.{same_list, up_to}
use Rattle.rules.specs.Words.{Text, decimal, place}
use Rattle.rules.proofs.Tests.{and_left, and_right}
use Rattle.reading.specs.Cursor.{Digit, Numeral, below}
use Rattle.reading.proofs.Decimals.{decimal_one, decimal_two, decimal_three, one_decimal, has_digit, decimal_length, no_leading_zero}
use Rattle.reading.proofs.Placing.{place_first, place_none}

-- the test for a word
same_word : (u v : Text) → same_list eqb u v ≡ true → u ≡ v
same_word [] [] h = refl
same_word [] (y ∷ v) h = absurd (false≢true h)
same_word (x ∷ u) [] h = absurd (false≢true h)
same_word (x ∷ u) (y ∷ v) h =
    let e : x ≡ y = eqb-true x y (and_left (eqb x y) (same_list eqb u v) h) in
    let f : u ≡ v = same_word u v (and_right (eqb x y) (same_list eqb u v) h) in
    cc

word_same : (u v : Text) → u ≡ v → same_list eqb u v ≡ true
word_same u v e = ap (λ (w : Text). same_list eqb w v) e ∙ self v
  where
    self : (w : Text) → same_list eqb w w ≡ true
    self [] = refl
    self (x ∷ w) = ap (λ (b : Bool). b && same_list eqb w w) (eq-eqb x x refl) ∙ self w

word_other : (u v : Text) → (u ≡ v → ⊥) → same_list eqb u v ≡ false
word_other u v h = go (same_list eqb u v) refl
  where
    go : (b : Bool) → same_list eqb u v ≡ b → b ≡ false
    go true e = absurd (h (same_word u v e))
    go false e = refl

-- where a numeral stands among the decimals
pub numeral_placed : (u : Text) (r : Option ℕ) → Numeral u r → (n : ℕ) → n ≤ 1000 → place u (up_to 0 n decimal) ≡ below r n
unfolding Numeral
numeral_placed u None h n l = place_none u decimal n (λ k m. word_other u (decimal k) (h k (omega arith)))
numeral_placed u (Some r) h n l =
    place_first u decimal n r
    (λ k m z. word_other u (decimal k) (λ q. let y : r ≡ k = one_decimal r k (sym h.1 ∙ q) in omega arith))
    (λ m. word_same u (decimal r) h.1)

pub numeral_most : (u : Text) (r : Option ℕ) → Numeral u r → (v : ℕ) → r ≡ Some v → v < 1000
unfolding Numeral
numeral_most u None h v e = absurd (let z : ◌≡◌ {A = ℕ} 0 1 = cc in omega arith)
numeral_most u (Some r) h v e = let z : r ≡ v = cc in omega (arith, h.0)

pub sized_numeral : (u : Text) → (0 < length u → length u ≤ 3 → ⊥) → Numeral u None
unfolding Numeral
sized_numeral u h n m e =
    let l = decimal_length n in
    h (omega (arith, ap length e, l.0)) (omega (arith, ap length e, l.1))

pub digit_small : (c d : ℕ) → Digit c (Some d) → d < 10
unfolding Digit
digit_small c d h = h.0

pub zero_numeral : (u : Text) → 1 < length u → get_or u 0 0 ≡ 0x30 → Numeral u None
unfolding Numeral
zero_numeral u h z n m e =
    no_leading_zero n (omega (arith, ap length e)) (ap (λ (v : Text). get_or v 0 0) (sym e) ∙ z)

pub other_numeral : (u : Text) (k : ℕ) → k < length u → Digit (get_or u k 0) None → Numeral u None
unfolding Numeral Digit
other_numeral u k h d n m e =
    let l : k < length (decimal n) = omega (arith, ap length e) in
    let q : (d : ℕ) × (d < 10) × (get_or (decimal n) k 0 ≡ 0x30 + d) = has_digit n m k l in
    d q.0 q.1 (ap (λ (v : Text). get_or v k 0) e ∙ q.2)

-- what digits make, behind others that make n
abbrev make : ℕ → Text → ℕ
make n [] = n
make n (x ∷ u) = make (10 * n + (x - 0x30)) u

-- so many digits make a number below this
abbrev above : ℕ → ℕ
above zero = 1
above (suc i) = 10 * above i

-- the first i characters are digits, and make n
pub record Made (u : Text) (i n : ℕ) : Type 0 where
  pub digits : (k : ℕ) → k < i → (0x30 ≤ get_or u k 0) × (get_or u k 0 < 0x3A)
  pub rest : make n (drop i u) ≡ make 0 u
  pub few : n < above i

pub made_none : (u : Text) → Made u 0 0
made_none u = record { digits = λ k h. absurd (omega arith); rest = refl; few = omega arith }

pub made_more : (u : Text) (i n d : ℕ) → Made u i n → i < length u → Digit (get_or u i 0) (Some d) → Made u (i + 1) (10 * n + d)
unfolding Digit
made_more u i n d m h c =
    let next : i + 1 ≡ suc i = omega arith in
    let value : get_or u i 0 - 0x30 ≡ d = omega (arith, c.1) in record {
      digits = below_more _ _ m.digits (omega (arith, c.1), omega (arith, c.0, c.1));
      rest = ap (λ (k : ℕ). make (10 * n + d) (drop k u)) next ∙ ap (λ (v : ℕ). make (10 * n + v) (drop (suc i) u)) (sym value)
          ∙ ap (make n) (sym (drop-cons u i 0 h)) ∙ m.rest;
      few = subst (λ (k : ℕ). 10 * n + d < above k) (sym next) (omega (arith, m.few, c.0));
    }

pub made_small : (u : Text) (i n : ℕ) → Made u i n → i < 3 → n < 100
made_small u zero n m h = omega (arith, m.few)
made_small u (suc zero) n m h = omega (arith, m.few)
made_small u (suc (suc zero)) n m h = omega (arith, m.few)
made_small u (suc (suc (suc i))) n m h = absurd (omega arith)

pub made_numeral : (u : Text) (i n : ℕ) → Made u i n → i ≡ length u → (length u ≡ 0 → ⊥) → length u ≤ 3
    → (1 < length u → get_or u 0 0 ≡ 0x30 → ⊥) → Numeral u (Some n)
unfolding Numeral
made_numeral [] i n m e some few lead = absurd (some refl)
made_numeral (x ∷ []) i n m e some few lead =
    let made : n ≡ 10 * 0 + (x - 0x30) = ap (λ (k : ℕ). make n (drop k (x ∷ []))) (sym e) ∙ m.rest in
    let first = m.digits 0 (omega arith) in
    let v : 0x30 + n ≡ x = omega (arith, made, first.0) in
    (omega (arith, first.1), sym (decimal_one n (omega (arith, first.1)) ∙ ap (λ (c : ℕ). c ∷ []) v))
made_numeral (x ∷ (y ∷ [])) i n m e some few lead =
    let made : n ≡ 10 * (10 * 0 + (x - 0x30)) + (y - 0x30) =
    ap (λ (k : ℕ). make n (drop k (x ∷ y ∷ []))) (sym e) ∙ m.rest in
    let first = m.digits 0 (omega arith) in
    let second = m.digits 1 (omega arith) in
    let not_zero : x ≡ 0x30 → ⊥ = lead (omega arith) in
    let v : 0x30 + n / 10 ≡ x = omega (arith, made, first.0, first.1, second.0, second.1) in
    let w : 0x30 + n % 10 ≡ y = omega (arith, made, first.0, first.1, second.0, second.1) in (
      omega (arith, made, first.1, second.1),
      sym (decimal_two n (omega (arith, made, first.0, not_zero)) (omega (arith, made, first.1, second.1))
          ∙ ap (λ (c : ℕ). c ∷ (0x30 + n % 10) ∷ []) v ∙ ap (λ (c : ℕ). x ∷ c ∷ []) w),
    )
made_numeral (x ∷ (y ∷ (z ∷ []))) i n m e some few lead =
    let made : n ≡ 10 * (10 * (10 * 0 + (x - 0x30)) + (y - 0x30)) + (z - 0x30) =
    ap (λ (k : ℕ). make n (drop k (x ∷ y ∷ z ∷ []))) (sym e) ∙ m.rest in
    let first = m.digits 0 (omega arith) in
    let second = m.digits 1 (omega arith) in
    let third = m.digits 2 (omega arith) in
    let not_zero : x ≡ 0x30 → ⊥ = lead (omega arith) in
    let v : 0x30 + n / 100 ≡ x = omega (arith, made, first.0, first.1, second.0, second.1, third.0, third.1) in
    let w : 0x30 + n / 10 % 10 ≡ y = omega (arith, made, first.0, first.1, second.0, second.1, third.0, third.1) in
    let o : 0x30 + n % 10 ≡ z = omega (arith, made, first.0, first.1, second.0, second.1, third.0, third.1) in (
      omega (arith, made, first.1, second.1, third.1),
      sym (decimal_three n (omega (arith, made, first.0, not_zero))
          ∙ ap (λ (c : ℕ). c ∷ (0x30 + n / 10 % 10) ∷ (0x30 + n % 10) ∷ []) v ∙ ap (λ (c : ℕ). x ∷ c ∷ (0x30 + n % 10) ∷ []) w
          ∙ ap (λ (c : ℕ). x ∷ y ∷ c ∷ []) o),
    )
made_numeral (x ∷ (y ∷ (z ∷ (a ∷ u)))) i n m e some few lead = absurd (omega arith)
