-- Where the places of a body are on the device.
use Rattle.std.specs.Prelude.{Bool, true, false, cond, Option, Some, None, List, [], ℕ, get_or}
use Rattle.std.specs.Borrow.{Bor}
use Rattle.walking.specs.declared.body.Body.{Body}

-- the location of element x
abbrev pub placed : List ℕ → ℕ → ℕ
placed f x = get_or f x 0

-- in main a place is its location; in a function place i is the location that the call named for it
pub record Names : Type 0 where
  pub main : Bool
  pub at : List ℕ

abbrev pub names_in : Option (Bor (List ℕ)) → Names
names_in None = record { main = true; at = [] }
names_in (Some names) = record { main = false; at = names.now }

abbrev pub names_of : Body → Names
names_of b = names_in b.names

-- the location that a place byte stands for
abbrev pub named : Names → ℕ → ℕ
named n b = cond n.main b (placed n.at b)
