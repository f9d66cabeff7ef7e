-- What the writer of a whole program puts, and what the call answers.
use Rattle.std.specs.Prelude.{List, ℕ, Result}
use Rattle.answers.specs.Said.{said}
use Rattle.answers.specs.declared.Refusal.{Refusal}
use Rattle.rules.specs.Words.{Text, written}
use Rattle.rules.specs.Listing.{functions_lines}
use Rattle.rules.specs.Promises.{Copied}
use Rattle.program.specs.Reading.{tree}

-- the lines of the functions that the bytes read as
unfoldable pub functions_text : List ℕ → Text
functions_text s = written (functions_lines s 0 (tree s).functions)

-- an answer, and what the buffer holds then
abbrev pub told : Result ℕ Refusal → List ℕ → Copied
told r buffer = record { answer = said r; buffer = buffer }
