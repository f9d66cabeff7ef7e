-- The lines that may come next, as a tree of words: what the line is if it ends here, which words may stand next, and what follows each of them.
use Rattle.std.specs.Prelude.{Bool, true, false, ◌&&◌, List, [], ◌∷◌, ℕ, zero, suc, get_or, length}
use Rattle.std.proofs.Math.Option.{Option, none, some}
use Rattle.rules.specs.Words.{Text, opens, place}

pub data Grammar (A : Type 0) : Type 0 where
  stop : Option A → Grammar A
  ask : Option A → List Text → (ℕ → Grammar A) → Grammar A

-- one of so many numbers passes
abbrev pub some_below : ℕ → (ℕ → Bool) → Bool
some_below zero p = false
some_below (suc n) p = elim (p 0) [ true ↦ true | false ↦ some_below n λ i. p (suc i) ]

module _ {A : Type 0} where
  -- no line goes on from here
  abbrev pub dead : Grammar A
  dead = stop none

  abbrev pub is_some : Option A → Bool
  is_some none = false
  is_some (some a) = true

  -- what a line of words is, if it is one
  abbrev pub takes : Grammar A → List Text → Option A
  takes (stop e) [] = e
  takes (stop e) (w ∷ ws) = none
  takes (ask e vs k) [] = e
  takes (ask e vs k) (w ∷ ws) = elim (place w vs) [ none ↦ none | some i ↦ takes (k i) ws ]

  -- some line goes on from here
  abbrev pub live : Grammar A → Bool
  live (stop e) = is_some e
  live (ask e vs k) = elim (is_some e) [ true ↦ true | false ↦ some_below (length vs) λ i. live (k i) ]

  -- some line begins with these words, of which the last may be unfinished
  abbrev pub starts : Grammar A → List Text → Bool
  starts (stop e) ws = false
  starts (ask e vs k) [] = false
  starts (ask e vs k) (u ∷ []) = some_below (length vs) λ i. opens u (get_or vs i []) && live (k i)
  starts (ask e vs k) (w ∷ (x ∷ ws)) = elim (place w vs) [ none ↦ false | some i ↦ starts (k i) (x ∷ ws) ]

  -- one word, then f
  abbrev pub word : Text → Grammar A → Grammar A
  word w f = ask none (w ∷ []) λ i. f

  -- the first of several grammars that takes the line; whether one has such a start
  abbrev pub takes_one : List (Grammar A) → List Text → Option A
  takes_one [] ws = none
  takes_one (g ∷ gs) ws = elim (takes g ws) [ none ↦ takes_one gs ws | some a ↦ some a ]

  abbrev pub starts_one : List (Grammar A) → List Text → Bool
  starts_one [] ws = false
  starts_one (g ∷ gs) ws = elim (starts g ws) [ true ↦ true | false ↦ starts_one gs ws ]
