-- What the run call says.
use Rattle.std.specs.Prelude.{List, ℕ, Result}
use Rattle.answers.specs.Said.{said}
use Rattle.answers.specs.declared.Moved.{Moved}
use Rattle.answers.specs.declared.Refusal.{Refusal}
use Rattle.rules.specs.Promises.{Ran}

-- an answer and both buffers' bytes at the end, in the promise's terms
abbrev pub ended : Result Moved Refusal → List ℕ → List ℕ → Ran
ended r records map = record { answer = said r; records = records; map = map }
