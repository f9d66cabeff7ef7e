-- What a line of words is to a grammar: a line that is read whole is taken or not, an unfinished one begins a line or not. One function for both, so that
-- the code reads words once. The first argument says that the line is whole.
use Rattle.std.specs.Prelude.{Bool, true, false, List, [], ◌∷◌, ◌⊎◌, ◌≡◌, ℕ, zero, suc, ◌+◌, ◌<◌, ◌≤◌, ltb, Result, Ok, Err}
use Rattle.std.proofs.Math.Option.{none, some}
use Rattle.rules.specs.Basics.{chosen, up_to}
use Rattle.rules.specs.Words.{Text, decimal}
use Rattle.rules.specs.Grammar.{Grammar, ask, word, takes, starts, live}
use Rattle.rules.specs.Unlisting.{Sofar, indent}
use Rattle.reading.specs.Cursor.{part, words_from}
use Rattle.reading.specs.declared.line.Line.{Line}
use Rattle.reading.specs.declared.cursor.Unread.{Unread}
use Rattle.reading.specs.declared.cursor.Unread.TheVariants.{Not, Begun}
use Rattle.reading.specs.declared.cursor.Next.{Next}
use Rattle.reading.specs.declared.cursor.Next.TheVariants.{Nothing, Unfinished, To}

-- no line, an unfinished line that begins one, or what the line is
pub data Hearing (A : Type 0) : Type 0 where
  not begun : Hearing A
  took : A → Hearing A

module _ {A : Type 0} where
  unfoldable pub hears : Bool → Grammar A → List Text → Hearing A
  hears true g ws = elim (takes g ws) [ none ↦ not | some a ↦ took a ]
  hears false g ws = chosen (starts g ws) begun not

  -- the first of several grammars that hears something
  unfoldable pub hears_one : Bool → List (Grammar A) → List Text → Hearing A
  hears_one whole [] ws = not
  hears_one whole (g ∷ gs) ws = elim (hears whole g ws) [ not ↦ hears_one whole gs ws | begun ↦ begun | took a ↦ took a ]

  -- what a line is that was not read, and what it is where something was read of it
  abbrev pub unread : Unread → Hearing A
  unread Not = not
  unread Begun = begun

  abbrev pub onward : {X : Type 0} → Result X Unread → (X → Hearing A) → Hearing A
  onward (Err e) k = unread e
  onward (Ok x) k = k x

-- a word that is not the last of an unfinished line: the line is whole, or words follow
unfoldable pub Further : Bool → List Text → Type 0
Further whole ws = (whole ≡ true) ⊎ ((v : Text) × (vs : List Text) × (ws ≡ v ∷ vs))

-- what is said of a text, a position in it, and where its line ends and stops, at a line
abbrev pub in_line : {X : Type 1} → (Text → ℕ → ℕ → ℕ → X) → Line → ℕ → X
in_line P l at = P l.text.now at l.end l.stop

module _ (t : Text) (at end stop : ℕ) where
  -- the next word of the line
  abbrev pub NextWord : Next → Type 0
  NextWord Nothing = words_from t at end ≡ []
  NextWord Unfinished = (words_from t at end ≡ part t at end ∷ []) × (ltb end stop ≡ false) × (at ≤ end)
  NextWord (To to) =
      (words_from t at end ≡ part t at to ∷ words_from t (to + 1) end) × Further (ltb end stop) (words_from t (to + 1) end)
      × (at ≤ to) × (to ≤ end) × (to < stop)

  -- one word, behind which some line goes on or none does
  unfoldable pub Expects : Text → Bool → Result ℕ Unread → Type 0
  Expects w lives r =
      (g : Grammar Sofar) → live g ≡ lives
      → hears (ltb end stop) (word w g) (words_from t at end) ≡ onward r λ p. hears (ltb end stop) g (words_from t p end)

  -- the indent of a depth
  unfoldable pub Indents : ℕ → Bool → Result ℕ Unread → Type 0
  Indents depth lives r =
      (g : Grammar Sofar) → live g ≡ lives
      → hears (ltb end stop) (indent depth g) (words_from t at end) ≡ onward r λ p. hears (ltb end stop) g (words_from t p end)

  -- a decimal below a limit, behind each of which some line goes on
  unfoldable pub Numbers : ℕ → Result (ℕ × ℕ) Unread → Type 0
  Numbers limit r =
      (k : ℕ → Grammar Sofar) → ((v : ℕ) → v < limit → live (k v) ≡ true)
      → hears (ltb end stop) (ask none (up_to 0 limit decimal) k) (words_from t at end)
      ≡ onward r λ n. hears (ltb end stop) (k n.0) (words_from t n.1 end)

-- a position read up to lies in the line
abbrev pub Onto : ℕ → ℕ → Result ℕ Unread → Type 0
Onto at stop (Err e) = Unit
Onto at stop (Ok p) = (at ≤ p) × (p ≤ stop)

abbrev pub NumberOnto : ℕ → ℕ → ℕ → Result (ℕ × ℕ) Unread → Type 0
NumberOnto at stop limit (Err e) = Unit
NumberOnto at stop limit (Ok n) = (n.0 < limit) × (at ≤ n.1) × (n.1 ≤ stop)

-- two empty words for each depth, then others
abbrev pub blanks : ℕ → List Text → List Text
blanks zero ws = ws
blanks (suc d) ws = [] ∷ [] ∷ blanks d ws

abbrev pub Blank : Text → ℕ → ℕ → ℕ → Result ℕ Unread → Type 0
Blank t at end depth (Err e) = Unit
Blank t at end depth (Ok p) = words_from t at end ≡ blanks depth (words_from t p end)
