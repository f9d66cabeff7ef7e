-- Texts as lists of character bytes: lines end in 0A, words stand between single spaces.
use Rattle.std.specs.Prelude.{Bool, true, false, ◌&&◌, List, [], ◌∷◌, ◌++◌, ℕ, suc, ◌+◌, ◌/◌, ◌%◌, eqb, ltb}
use Rattle.std.proofs.Math.Option.{Option, none, some}
use Rattle.rules.specs.Basics.{same_list}

abbrev pub Text : Type 0
Text = List ℕ

abbrev pub space : ℕ
space = 0x20

abbrev pub newline : ℕ
newline = 0x0A

-- a character put before the first of the parts
abbrev pub onto : ℕ → List Text → List Text
onto x [] = (x ∷ []) ∷ []
onto x (p ∷ ps) = (x ∷ p) ∷ ps

-- the parts of a text between the separators c: one more than there are separators
abbrev pub split : ℕ → Text → List Text
split c [] = [] ∷ []
split c (x ∷ t) = elim (eqb x c) [ true ↦ [] ∷ split c t | false ↦ onto x (split c t) ]

-- the parts after the first, each behind a separator
abbrev pub behind : ℕ → List Text → Text
behind c [] = []
behind c (p ∷ ps) = c ∷ (p ++ behind c ps)

abbrev pub join : ℕ → List Text → Text
join c [] = []
join c (p ∷ ps) = p ++ behind c ps

-- lines of words as a text
abbrev pub written : List (List Text) → Text
written [] = []
written (l ∷ ls) = join space l ++ (newline ∷ written ls)

-- decimal, without leading zeros; for numbers below 1,000
abbrev pub decimal : ℕ → Text
decimal n = elim (ltb n 10) [
  | true ↦ (0x30 + n) ∷ []
  | false ↦ elim (ltb n 100) [
    | true ↦ (0x30 + n / 10) ∷ (0x30 + n % 10) ∷ []
    | false ↦ (0x30 + n / 100) ∷ (0x30 + n / 10 % 10) ∷ (0x30 + n % 10) ∷ []
  ]
]

-- t begins with u
abbrev pub opens : Text → Text → Bool
opens [] t = true
opens (x ∷ u) [] = false
opens (x ∷ u) (y ∷ t) = eqb x y && opens u t

-- where a word first stands in a list
abbrev pub place : Text → List Text → Option ℕ
place w [] = none
place w (v ∷ vs) = elim (same_list eqb w v) [ true ↦ some 0 | false ↦ elim (place w vs) [ none ↦ none | some i ↦ some (suc i) ] ]
