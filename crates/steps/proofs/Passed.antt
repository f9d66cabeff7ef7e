-- What a `?` passes on: the reason that it met, in an answer of another value.
use mathlib.Core.Path.{◌≡◌, ap}
use Rattle.std.specs.Prelude.{Result, Ok, Err, IsErrAnd}
use Rattle.answers.specs.declared.Fault.{Fault}

pub passed_as : {A : Type 0} {reason : Fault} (r : Result A Fault) → IsErrAnd r (λ x. x ≡ reason) → r ≡ Err reason
passed_as (Ok a) h = absurd h
passed_as (Err x) h = ap Err h
