-- What an answer says in the document's terms: its value, or the number, place and file of its refusal. A public call's promise is an equation between
-- what its answer says and a definition of the rules; since no two answers say the same, it allows one answer.
use Rattle.std.specs.Prelude.{Result, Ok, Err}
use Rattle.answers.specs.Check.{Check, ok, refused}
use Rattle.answers.specs.declared.Refusal.{Refusal}

abbrev pub said : {A : Type 0} → Result A Refusal → Check A
said (Ok a) = ok a
said (Err r) = refused r

-- whether it refuses, and with what
abbrev pub passed : {A : Type 0} → Result A Refusal → Check (Unit {0})
passed (Ok a) = ok tt
passed (Err r) = refused r
