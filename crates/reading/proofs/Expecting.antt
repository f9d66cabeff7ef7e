-- What a line is heard as, by its next word: none is left; it is the unfinished last one, which begins the word that must stand here or not; or it is that
-- word or not, and the line goes on behind it.
use mathlib.Core.Bool.{Bool, true, false, ◌&&◌}
use mathlib.Core.List.{List, [], ◌∷◌}
use mathlib.Core.Logic.{inl, inr}
use mathlib.Core.Path.{◌≡◌, refl, ap, ◌∙◌}
use native.Mathlib.Omega.{arith}
use Prim.Native.Nat.{ℕ, ◌+◌, ◌<◌, ◌≤◌}
use borrow.Author.Tests.{le-ltb, ltb-false}
use lib.Dec.{eqb, ltb}
use Rattle.std.specs.Prelude.{Ok, Err}
use Rattle.rules.specs.Basics.{chosen, same_list}
use Rattle.rules.specs.Words.{Text, opens}
use Rattle.rules.specs.Grammar.{Grammar, word, live}
use Rattle.rules.specs.Unlisting.{Sofar}
use Rattle.reading.specs.Cursor.{part, words_from, WordEnd}
use Rattle.reading.specs.Hearing.{Hearing, not, begun, hears, Further, NextWord, Expects}
use Rattle.reading.specs.declared.cursor.Unread.TheVariants.{Not, Begun}
use Rattle.reading.specs.declared.cursor.Next.TheVariants.{Nothing, Unfinished, To}
use Rattle.reading.proofs.Hearings.{hears_nothing, hears_word, hears_other, hears_word_begun}
use Rattle.reading.proofs.Spellings.{no_words, some_words}

module _ (t : Text) (at end stop : ℕ) where
  -- the next word from where it ends
  pub nothing_next : end < at → NextWord t at end stop Nothing
  nothing_next h = no_words t at end h

  module _ (to : ℕ) (from : at ≤ to) (upto : to ≤ end) (most : end ≤ stop) (e : WordEnd t at end to) where
    pub unfinished_next : to ≡ stop → NextWord t at end stop Unfinished
    unfolding WordEnd
    unfinished_next q =
        let z : to ≡ end = omega arith in (
          e ∙ ap (λ (ws : List Text). part t at to ∷ ws) (no_words t (to + 1) end (omega arith)) ∙ ap (λ (j : ℕ). part t at j ∷ []) z,
          le-ltb end stop (omega arith),
          omega arith,
        )

    pub to_next : (to ≡ stop → ⊥) → NextWord t at end stop (To to)
    unfolding WordEnd Further
    to_next q = (e, go (ltb end stop) refl, from, upto, omega arith)
      where
        go : (b : Bool) → ltb end stop ≡ b → Further b (words_from t (to + 1) end)
        go true f = inl refl
        go false f = let z : stop ≤ end = ltb-false end stop f in inr (some_words t (to + 1) end (omega arith))

  module _ (w : Text) (lives : Bool) where
    pub expects_nothing : NextWord t at end stop Nothing → Expects t at end stop w lives (Err Not)
    unfolding Expects
    expects_nothing n g l = ap (hears (ltb end stop) (word w g)) n ∙ hears_nothing (ltb end stop) (w ∷ []) (λ i. g)

    last : NextWord t at end stop Unfinished → (g : Grammar Sofar) → live g ≡ lives
        → hears (ltb end stop) (word w g) (words_from t at end) ≡ chosen (opens (part t at end) w && lives) begun not
    last n g l =
        ap (hears (ltb end stop) (word w g)) n.0 ∙ ap (λ (b : Bool). hears b (word w g) (part t at end ∷ [])) n.1
        ∙ hears_word_begun w g (part t at end) ∙ ap (λ (b : Bool). chosen (opens (part t at end) w && b) begun not) l

    pub expects_dead : NextWord t at end stop Unfinished → lives ≡ false → Expects t at end stop w lives (Err Not)
    unfolding Expects
    expects_dead n d g l = last n g l ∙ ap (λ (b : Bool). chosen (opens (part t at end) w && b) begun not) d ∙ neither (opens (part t at end) w)
      where
        neither : (b : Bool) → chosen {A = Hearing Sofar} (b && false) begun not ≡ not
        neither true = refl
        neither false = refl

    pub expects_begun : NextWord t at end stop Unfinished → opens (part t at end) w ≡ true → lives ≡ true → Expects t at end stop w lives (Err Begun)
    unfolding Expects
    expects_begun n o d g l = last n g l ∙ ap (λ (b : Bool). chosen (b && lives) begun not) o ∙ ap (λ (b : Bool). chosen b begun not) d

    pub expects_other : NextWord t at end stop Unfinished → opens (part t at end) w ≡ false → Expects t at end stop w lives (Err Not)
    unfolding Expects
    expects_other n o g l = last n g l ∙ ap (λ (b : Bool). chosen (b && lives) begun not) o

    pub expects_is : (to : ℕ) → NextWord t at end stop (To to) → same_list eqb (part t at to) w ≡ true → Expects t at end stop w lives (Ok (to + 1))
    unfolding Expects
    expects_is to n s g l =
        ap (hears (ltb end stop) (word w g)) n.0
        ∙ hears_word (ltb end stop) w g (part t at to) (words_from t (to + 1) end) n.1 s

    pub expects_not : (to : ℕ) → NextWord t at end stop (To to) → same_list eqb (part t at to) w ≡ false → Expects t at end stop w lives (Err Not)
    unfolding Expects
    expects_not to n s g l =
        ap (hears (ltb end stop) (word w g)) n.0
        ∙ hears_other (ltb end stop) w g (part t at to) (words_from t (to + 1) end) n.1 s
