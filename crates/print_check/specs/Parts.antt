-- The parts of the split that the code has a function for.
use Rattle.std.specs.Prelude.{List, ℕ, ◌+◌, leb, length, take, drop, Option, Some, None}
use Rattle.std.specs.Borrow.{Bor}
use Rattle.rules.specs.Basics.{chosen, word}
use Rattle.print_check.specs.declared.bundle.Bundle.{Bundle}

-- the files of the code's bundle
abbrev pub files_of : Option Bundle → Option (List ℕ × List ℕ)
files_of (Some b) = Some (b.device.now, b.program.now)
files_of None = None

-- a u16 length and so many bytes, and what follows them
unfoldable pub file_in : List ℕ → Option (List ℕ × List ℕ)
file_in s = chosen (leb (2 + word s 0) (length s)) (Some (take (word s 0) (drop 2 s), drop (word s 0) (drop 2 s))) None

abbrev pub split_as : Option (Bor (List ℕ) × Bor (List ℕ)) → Option (List ℕ × List ℕ)
split_as (Some (file, rest)) = Some (file.now, rest.now)
split_as None = None
