-- The part of the check's promise that comes after the device.
use Rattle.std.specs.Prelude.{List, ℕ}
use Rattle.answers.specs.Check.{Check, ◌>>=◌, within}
use Rattle.answers.specs.declared.Counted.{Counted}
use Rattle.answers.specs.declared.File.TheVariants.{Program}
use Rattle.rules.specs.Region.{Region}
use Rattle.rules.specs.Program.{read_program}
use Rattle.rules.specs.Promises.{judged}

-- the program, typing, 20, 21 in a region
unfoldable pub checked_in : Region → List ℕ → ℕ → Check Counted
checked_in R program job = do
  p ← within (Program job) (read_program program)
  within (Program job) (judged R p)
