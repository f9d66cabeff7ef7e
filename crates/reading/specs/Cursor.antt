-- Lines and words of a text by positions: what stands between two of them, the words from one on, and which word it is that stands there.
use Rattle.std.specs.Prelude.{List, [], ◌∷◌, ◌≡◌, ℕ, ◌+◌, ◌-◌, ◌<◌, ◌≤◌, leb, ltb, length, take, drop, Option, None, Some}
use Rattle.std.proofs.Math.Option as places
use Rattle.std.proofs.Math.Option.{none, some}
use Rattle.rules.specs.declared.statements.Operand.{Operand}
use Rattle.rules.specs.declared.statements.Operand.TheVariants.{Slot, Location, Gate, Basis, Value, Callee, CalleeK, CalleeM, Nothing}
use Rattle.rules.specs.declared.statements.Kind.{Kind}
use Rattle.rules.specs.Basics.{chosen}
use Rattle.rules.specs.Program.{Scope}
use Rattle.rules.specs.Words.{Text, space, newline, split, decimal, place}
use Rattle.rules.specs.Table.{names}
use Rattle.rules.specs.Kinds.{byte_of, text_of, numbered}
use Rattle.rules.specs.Unlisting.{count, words_for}
use Rattle.reading.specs.declared.words.Token.{Token}
use Rattle.reading.specs.declared.words.Token.TheVariants.{Word, Decimal}

-- the characters from i up to j
unfoldable pub part : Text → ℕ → ℕ → Text
part t i j = take (j - i) (drop i t)

-- the words of a line that ends at e, from i on; none where i is past it
unfoldable pub words_from : Text → ℕ → ℕ → List Text
words_from t i e = chosen (leb i e) (split space (part t i e)) []

-- the word at i ends at r
unfoldable pub WordEnd : Text → ℕ → ℕ → ℕ → Type 0
WordEnd t i e r = words_from t i e ≡ part t i r ∷ words_from t (r + 1) e

-- the line at i ends at r: more lines follow exactly where that is before the text's end
unfoldable pub LineEnd : Text → ℕ → ℕ → Type 0
LineEnd t i r = split newline (drop i t) ≡ part t i r ∷ chosen (ltb r (length t)) (split newline (drop (r + 1) t)) []

-- the word of a token
abbrev pub spelling : Token → Text
spelling (Word w) = text_of w
spelling (Decimal n) = decimal n

-- the value of a digit, none where the character is no digit
unfoldable pub Digit : ℕ → Option ℕ → Type 0
Digit c None = (d : ℕ) → d < 10 → c ≡ 0x30 + d → ⊥
Digit c (Some r) = (r < 10) × (c ≡ 0x30 + r)

-- a place in a list of n words
abbrev pub below : Option ℕ → ℕ → places.Option ℕ
below None n = none
below (Some r) n = chosen (ltb r n) (some r) none

-- the number below 1,000 that a word is
unfoldable pub Numeral : Text → Option ℕ → Type 0
Numeral u None = (n : ℕ) → n < 1000 → u ≡ decimal n → ⊥
Numeral u (Some n) = (n < 1000) × (u ≡ decimal n)

-- where a statement's name stands among the names
abbrev pub named : Option Kind → places.Option ℕ
named None = none
named (Some kind) = some (byte_of kind - 1)

-- the statement whose name a word is
unfoldable pub Named : Text → Option Kind → Type 0
Named u r = place u names ≡ named r

-- the operand of a kind that a word is
pub record Valued (operand : Operand) (u : Text) (r : Option ℕ) : Type 0 where
  pub placed : (S : Scope) → count S operand ≤ 256 → place u (words_for S operand) ≡ below r (count S operand)
  pub most : (v : ℕ) → r ≡ Some v → v < 1000

-- the token of a word's number: the vocabulary and the names, then the decimals
abbrev pub numbered_token : ℕ → Token
numbered_token w = chosen (ltb w 26) (Word (numbered w)) (Decimal (w - 26))

-- the token for operand v: the letters of the gates stand in the vocabulary from number 9 on; else a decimal
abbrev pub gate_token : ℕ → Token
gate_token v = numbered_token (9 + v)

abbrev pub token_for : Operand → ℕ → Token
token_for Slot v = Decimal v
token_for Location v = Decimal v
token_for Gate v = gate_token v
token_for Basis v = gate_token v
token_for Value v = Decimal v
token_for Callee v = Decimal v
token_for CalleeK v = Decimal v
token_for CalleeM v = Decimal v
token_for Nothing v = Decimal v
