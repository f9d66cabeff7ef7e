-- Rows of bytes.
use Rattle.std.specs.Prelude.{Bool, true, not, ◌&&◌, List, [], ◌∷◌, ℕ, eqb}
use Rattle.std.specs.List.{list_any}

-- nothing comes twice
abbrev pub all_apart : List ℕ → Bool
all_apart [] = true
all_apart (x ∷ xs) = not (list_any (eqb x) xs) && all_apart xs
