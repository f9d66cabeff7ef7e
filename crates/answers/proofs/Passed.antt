-- What a `?` passes on: the refusal that it met, in an answer of another value.
use mathlib.Core.Path.{◌≡◌, ap}
use Rattle.std.specs.Prelude.{Result, Ok, Err, IsErrAnd}
use Rattle.answers.specs.declared.Refusal.{Refusal}
use Rattle.answers.specs.Check.{refused}
use Rattle.answers.specs.Said.{said}

pub passed_on : {A : Type 0} {e : Refusal} (r : Result A Refusal) → IsErrAnd r (λ x. x ≡ e) → said r ≡ refused e
passed_on (Ok a) h = absurd h
passed_on (Err x) h = ap refused h

pub passed_as : {A : Type 0} {e : Refusal} (r : Result A Refusal) → IsErrAnd r (λ x. x ≡ e) → r ≡ Err e
passed_as (Ok a) h = absurd h
passed_as (Err x) h = ap Err h
