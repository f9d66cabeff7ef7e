-- What a part of a step answers in the document's terms: its value, or a refusal with its reason's number, at the offset of the item to come.
use Rattle.std.specs.Prelude.{ℕ, Result, Ok, Err}
use Rattle.answers.specs.declared.Fault.{Fault}
use Rattle.answers.specs.Check.{number_of, Check, ok, refused, refusal}

abbrev pub said_at : {A B : Type 0} → (A → B) → Result A Fault → ℕ → Check B
said_at f (Ok a) o = ok (f a)
said_at f (Err reason) o = refused (refusal (number_of reason) o)

abbrev pub itself : {A : Type 0} → A → A
itself a = a
