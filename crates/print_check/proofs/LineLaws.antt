-- A line as it is written is the line that is promised: std's decimal text of a number is its numeral.
use Rattle.std.proofs.Common.{List, [], ◌∷◌, ◌++◌, ◌≡◌, ℕ, ◌^◌, ◌<◌, sym, ap, ◌∙◌, append_assoc}
use Rattle.std.specs.Prelude.{Some, None}
use Rattle.std.specs.Fmt.{decimal as text}
use Rattle.answers.specs.Check.{Check}
use Rattle.answers.specs.declared.Counted.{Counted}
use Rattle.rules.specs.Promises.{check_of}
use Rattle.print_check.specs.Printed.{bundle_of, decimal, numbers_line, verdict_of, printed_for, printed}
use Rattle.print_check.specs.Text.{text_of}
use Rattle.print_check.specs.declared.text.Line.TheVariants.{Bad}
use Rattle.print_check.proofs.DigitLaws.{text_decimal}

-- a word, two numbers, the space between them and the line's end
pub line_text : (word : List ℕ) (n p : ℕ) → n < 2 ^ 64 → p < 2 ^ 64 → word ++ (text n ++ (0x20 ∷ (text p ++ (0x0A ∷ [])))) ≡ numbers_line word n p
unfolding numbers_line
line_text word n p f g =
    ap (λ t. word ++ (t ++ (0x20 ∷ (text p ++ (0x0A ∷ []))))) (text_decimal n f)
    ∙ ap (λ t. word ++ (decimal n ++ (0x20 ∷ (t ++ (0x0A ∷ []))))) (text_decimal p g)
    ∙ sym
    (append_assoc (word ++ decimal n ++ (0x20 ∷ [])) (decimal p) (0x0A ∷ [])
    ∙ append_assoc (word ++ decimal n) (0x20 ∷ []) (decimal p ++ (0x0A ∷ []))
    ∙ append_assoc word (decimal n) (0x20 ∷ (decimal p ++ (0x0A ∷ []))))

-- the line of a bundle: of its two files, or of none
pub line_files : (s : List ℕ) {d p : List ℕ} {m : Check Counted} → Some (d, p) ≡ bundle_of s → m ≡ check_of d p 1 → verdict_of m ≡ printed s
unfolding printed_for
line_files s e q = ap verdict_of q ∙ ap printed_for e

pub line_bad : (s : List ℕ) → None ≡ bundle_of s → text_of Bad ≡ printed s
unfolding printed_for
line_bad s e = ap printed_for e
