-- A number's text as std has it is its decimal numeral: by induction, since both are the text of n / 10 and then the last digit.
use Rattle.std.proofs.Common.{◌≡◌, ℕ, zero, suc, ◌+◌, ◌/◌, ◌%◌, ◌^◌, ◌<◌, ◌≤◌, [], ◌∷◌, ◌++◌, refl, sym, ap, ◌∙◌, inl, inr, arith}
use Rattle.std.proofs.lemmas.Bool.{cases_lt}
use Rattle.std.proofs.lemmas.Fmt.{decimal_digit, decimal_step}
use Rattle.std.specs.Fmt.{decimal as text}
use borrow.Author.Tests.{lt-ltb, le-ltb}
use Rattle.print_check.specs.Printed.{decimal_by, decimal}

-- one digit
one : (f n : ℕ) → n < 10 → decimal_by f n ≡ (0x30 + n) ∷ []
unfolding decimal_by
one zero n h = refl
one (suc f) n h = rw (lt-ltb n 10 h) refl

-- more than one
more : (f n : ℕ) → 10 ≤ n → decimal_by (suc f) n ≡ decimal_by f (n / 10) ++ ((0x30 + n % 10) ∷ [])
unfolding decimal_by
more f n h = rw (le-ltb n 10 h) refl

text_is : (f n : ℕ) → n ≤ f → n < 2 ^ 64 → text n ≡ decimal_by f n
text_is zero n h fits = decimal_digit n (omega arith) ∙ sym (one zero n (omega arith))
text_is (suc f) n h fits =
    elim (cases_lt n 10) [
      | inl l ↦ decimal_digit n l ∙ sym (one (suc f) n l)
      | inr g ↦ decimal_step n g fits ∙ ap (λ t. t ++ ((0x30 + n % 10) ∷ [])) (text_is f (n / 10) (omega arith) (omega arith)) ∙ sym (more f n g)
    ]

pub text_decimal : (n : ℕ) → n < 2 ^ 64 → text n ≡ decimal n
text_decimal n fits = text_is n n (omega arith) fits
