-- What is claimed of listings, as types. `listing s ≡ ok t` says that s is a readable program and t its listing; `unlisted t ≡ ok s` that the reader takes
-- the text t to the file s. Both are over the statement table, so each statement here is said once for all kinds.
use Rattle.std.specs.Prelude.{false, List, [], ◌∷◌, ◌++◌, ◌⊎◌, ◌↔◌, ◌≡◌, ℕ, ◌<◌, ◌≤◌, eqb, length}
use Rattle.answers.specs.declared.Refusal.{Refusal}
use Rattle.answers.specs.Check.{ok, refused, refusal}
use Rattle.rules.specs.Words.{Text, newline}
use Rattle.rules.specs.Listing.{listing}
use Rattle.rules.specs.Unlisting.{unlisted}

-- a file: a list of bytes. (A length word of other numbers than bytes would be read as well, and is no file.)
abbrev pub Bytes : List ℕ → Type 0
Bytes [] = Unit {0}
Bytes (x ∷ s) = (x < 256) × Bytes s

-- What is printed is read back to the same bytes.
abbrev pub RoundTrip : Type 0
RoundTrip = (s : List ℕ) (t : Text) → Bytes s → listing s ≡ ok t → unlisted t ≡ ok s

-- Only what would be printed is read.
abbrev pub OnlyListings : Type 0
OnlyListings = (t : Text) (s : List ℕ) → unlisted t ≡ ok s → Bytes s × (listing s ≡ ok t)

-- So the reader takes a text to a file exactly when the text is the file's listing.
abbrev pub BothTrips : Type 0
BothTrips = (t : Text) (s : List ℕ) → (unlisted t ≡ ok s) ↔ (Bytes s × (listing s ≡ ok t))

-- One listing has one program; that one program has one listing is said by `listing` being a function.
abbrev pub OneProgram : Type 0
OneProgram = (s z : List ℕ) (t : Text) → Bytes s → Bytes z → listing s ≡ ok t → listing z ≡ ok t → s ≡ z

-- A text that the reader takes is the listing of exactly one readable program.
abbrev pub OneListing : Type 0
OneListing =
    (t : Text) (s : List ℕ) → unlisted t ≡ ok s → Bytes s × (listing s ≡ ok t) × ((z : List ℕ) → Bytes z → listing z ≡ ok t → z ≡ s)

-- A listing has at most 65,536 bytes.
abbrev pub Short : Type 0
Short = (s : List ℕ) (t : Text) → Bytes s → listing s ≡ ok t → length t ≤ 65536

-- Some readable program's listing starts with the characters t.
abbrev pub Begins : Text → Type 0
Begins t = (s : List ℕ) × (rest : Text) × Bytes s × (listing s ≡ ok (t ++ rest))

-- no newline in it
abbrev pub Unbroken : Text → Type 0
Unbroken [] = Unit {0}
Unbroken (x ∷ t) = (eqb x newline ≡ false) × Unbroken t

-- whole lines: nothing, or a text that ends in a newline
abbrev pub Whole : Text → Type 0
Whole t = (t ≡ []) ⊎ ((u : Text) × (t ≡ u ++ (newline ∷ [])))

-- a line in front of what follows it: with its newline, or the last and unfinished
abbrev pub OneLine : Text → Text → Type 0
OneLine line after = ((u : Text) × Unbroken u × (line ≡ u ++ (newline ∷ []))) ⊎ (Unbroken line × (after ≡ []) × (line ≡ [] → ⊥))

-- Where 27 stands: at the start of the first line at which the text so far, that line included, begins no listing; at the text's end if lines are missing.
pub data Stops (t : Text) : ℕ → Type 0 where
  at_line : (before line after : Text) → t ≡ before ++ (line ++ after) → Whole before → OneLine line after
      → Begins before → (Begins (before ++ line) → ⊥) → Stops t (length before)
  at_end : Begins t → ((s : List ℕ) → Bytes s → listing s ≡ ok t → ⊥) → Stops t (length t)

-- A text that is refused is refused with 27, where it stands.
abbrev pub Refuses : Type 0
Refuses = (t : Text) (r : Refusal) → unlisted t ≡ refused r → (x : ℕ) × (r ≡ refusal 27 x) × Stops t x

-- It stands at one place of a text that is no listing, and at none of a listing: the reader refuses with 27 there, and only there.
abbrev pub RefusesExactly : Type 0
RefusesExactly = (t : Text) (x : ℕ) → (unlisted t ≡ refused (refusal 27 x)) ↔ Stops t x
