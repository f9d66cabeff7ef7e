-- A check either gives a value or refuses. Of several checks in a row the first that refuses decides: this is what "first refusal in the document's
-- order" means, so every definition of the rules is a row of checks in the document's order.
use Rattle.std.specs.Prelude.{Bool, true, false, ℕ}
use Rattle.answers.specs.declared.File.{File}
use Rattle.answers.specs.declared.File.TheVariants.{NoFile}
use Rattle.answers.specs.declared.Refusal.{Refusal}
use Rattle.answers.specs.declared.Fault.{Fault}
use Rattle.answers.specs.declared.Fault.TheVariants.{Short, Mark, Version, Limit, Length, Owner, Edge, NoRoom, NoStatement}
use Rattle.answers.specs.declared.Fault.TheVariants.{Operand, NotHeld, Bound, Outside, Taken, Twice, Elsewhere, LeftLive, BranchesDiffer}
use Rattle.answers.specs.declared.Fault.TheVariants.{LoopChanges, TooManyCommands, NoPath, TooManySteps, NoTurn, NoSpace, NoJob, MapLength, NoLine}

-- the number of a fault
abbrev pub number_of : Fault → ℕ
number_of Short = 1
number_of Mark = 2
number_of Version = 3
number_of Limit = 4
number_of Length = 5
number_of Owner = 6
number_of Edge = 7
number_of NoRoom = 8
number_of NoStatement = 9
number_of Operand = 10
number_of NotHeld = 11
number_of Bound = 12
number_of Outside = 13
number_of Taken = 14
number_of Twice = 15
number_of Elsewhere = 16
number_of LeftLive = 17
number_of BranchesDiffer = 18
number_of LoopChanges = 19
number_of TooManyCommands = 20
number_of NoPath = 21
number_of TooManySteps = 22
number_of NoTurn = 23
number_of NoSpace = 24
number_of NoJob = 25
number_of MapLength = 26
number_of NoLine = 27

-- number n at place o, the file not said yet, or in none
abbrev pub refusal : ℕ → ℕ → Refusal
refusal n o = record { number = n; place = o; file = NoFile }

abbrev pub in_file : File → Refusal → Refusal
in_file f r = record { number = r.number; place = r.place; file = f }

pub data Check (A : Type 0) : Type 0 where
  ok : A → Check A
  refused : Refusal → Check A

infixl 20 ◌>>=◌
unfoldable pub ◌>>=◌ : {A B : Type 0} → Check A → (A → Check B) → Check B
ok a >>= f = f a
refused r >>= f = refused r

infixl 20 ◌>>◌
unfoldable pub ◌>>◌ : {A B : Type 0} → Check A → Check B → Check B
ok a >> m = m
refused r >> m = refused r

-- go on where the test holds, else refuse with number n at place o
abbrev pub need : Bool → ℕ → ℕ → Check (Unit {0})
need true n o = ok tt
need false n o = refused (refusal n o)

-- the check's places are in the file f
abbrev pub within : {A : Type 0} → File → Check A → Check A
within f (ok a) = ok a
within f (refused r) = refused (in_file f r)
