-- "First refusal": a part's tests stand in one list, in the order of the document's "Order" paragraph, each with its number and place, and the part refuses
-- exactly as the first test of the list that fails.
use Rattle.std.specs.Prelude.{Bool, List, [], ◌∷◌, ℕ}
use Rattle.answers.specs.Check.{Check, ok, ◌>>◌, need}

pub record Test : Type 0 where
  pub passes : Bool
  pub number : ℕ
  pub place : ℕ

abbrev pub test : Bool → ℕ → ℕ → Test
test b n o = record { passes = b; number = n; place = o }

-- the first test that fails refuses
unfoldable pub first_of : List Test → Check (Unit {0})
first_of [] = ok tt
first_of (t ∷ ts) = need t.passes t.number t.place >> first_of ts

-- whether a check refuses, and how
unfoldable pub refusal_of : {A : Type 0} → Check A → Check (Unit {0})
refusal_of m = m >> ok tt
