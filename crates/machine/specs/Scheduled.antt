-- What is asked of a schedule, in the words of the run's promise.
use Rattle.std.specs.Prelude.{List, ℕ, leb, length}
use Rattle.answers.specs.Check.{Check, ok, ◌>>◌, need, within}
use Rattle.answers.specs.declared.File.TheVariants.{Schedule}
use Rattle.rules.specs.Run.{turns}

-- 22, then 23
unfoldable pub scheduled : List ℕ → Check (Unit {0})
scheduled s = do
  within Schedule (need (leb (length s) 4096) 22 0)
  within Schedule (turns 2 0 s)
  ok tt
