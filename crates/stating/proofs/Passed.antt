-- What a `?` passes on: the error that it met, in a result of another value.
use mathlib.Core.Path.{◌≡◌, ap}
use Rattle.std.specs.Prelude.{Result, Ok, Err, IsErrAnd}

pub passed_as : {A E : Type 0} {e : E} (r : Result A E) → IsErrAnd r (λ x. x ≡ e) → r ≡ Err e
passed_as (Ok a) h = absurd h
passed_as (Err x) h = ap Err h
