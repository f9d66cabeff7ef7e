-- The first line, and the words of a function's: what is heard of them word by word.
use Rattle.std.proofs.Common.{ℕ, zero, suc, ◌<◌, ◌≡◌, Bool, true, false, ltb, refl, ap, ◌∙◌, length, arith, Result}
use Rattle.std.proofs.Math.Option.{none, some}
use Rattle.rules.specs.Basics.{up_to}
use Rattle.rules.specs.Words.{Text, decimal}
use Rattle.rules.specs.Names.{program}
use Rattle.rules.specs.Grammar.{Grammar, ask, stop, word, live, some_below}
use Rattle.rules.specs.Unlisting.{Sofar, fresh, program_begun, lines}
use Rattle.reading.specs.Cursor.{words_from}
use Rattle.reading.specs.Hearing.{hears, hears_one, onward, Expects}
use Rattle.reading.specs.declared.cursor.Unread.{Unread}
use Rattle.reading.proofs.Hearings.{hears_one_lem, live_word}

-- some line goes on behind two words
pub live_two : (v w : Text) (g : Grammar Sofar) → live g ≡ true → live (word v (word w g)) ≡ true
live_two v w g l = live_word v (word w g) ∙ live_word w g ∙ l

-- some line goes on with a decimal if one does behind the first of them
pub live_decimals : (n : ℕ) (g : ℕ → Grammar Sofar) → 0 < n → live (g 0) ≡ true → live (ask none (up_to 0 n decimal) g) ≡ true
live_decimals zero g l e = absurd (omega arith)
live_decimals (suc n) g l e =
    ap {B = Bool} (λ (b : Bool). elim b [ true ↦ true | false ↦ some_below (length (up_to 1 n decimal)) λ i. live (g (suc i)) ]) e

module _ (t : Text) (at end full : ℕ) where
  abbrev version : Grammar Sofar
  version = word (decimal 1) (stop (some program_begun))

  pub program_heard : (r : Result ℕ Unread) → Expects t at end full program true r
      → hears_one (ltb end full) (lines fresh) (words_from t at end) ≡ onward r λ p. hears (ltb end full) version (words_from t p end)
  unfolding Expects
  program_heard r x = hears_one_lem (ltb end full) (word program version) (words_from t at end) ∙ x version refl

  pub version_heard : (r : Result ℕ Unread) → Expects t at end full (decimal 1) true r
      → hears (ltb end full) version (words_from t at end) ≡ onward r λ p. hears (ltb end full) (stop (some program_begun)) (words_from t p end)
  unfolding Expects
  version_heard r x = x (stop (some program_begun)) refl
