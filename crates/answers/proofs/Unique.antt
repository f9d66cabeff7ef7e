-- No two answers say the same: what an answer says gives the answer back. So a promise, which fixes what an answer says, allows one answer.
-- Nor do two faults have one number.
use mathlib.Core.Path.{◌≡◌, refl, sym, ap, ◌∙◌}
use Rattle.std.specs.Prelude.{Result, Ok, Err, List, [], ◌∷◌, ℕ, ◌-◌, get_or}
use Rattle.answers.specs.declared.Refusal.{Refusal}
use Rattle.answers.specs.declared.Fault.{Fault}
use Rattle.answers.specs.declared.Fault.TheVariants.{Short, Mark, Version, Limit, Length, Owner, Edge, NoRoom, NoStatement}
use Rattle.answers.specs.declared.Fault.TheVariants.{Operand, NotHeld, Bound, Outside, Taken, Twice, Elsewhere, LeftLive, BranchesDiffer}
use Rattle.answers.specs.declared.Fault.TheVariants.{LoopChanges, TooManyCommands, NoPath, TooManySteps, NoTurn, NoSpace, NoJob, MapLength, NoLine}
use Rattle.answers.specs.Check.{number_of, Check, ok, refused}
use Rattle.answers.specs.Said.{said}

-- a function that another undoes takes no two things to the same
pub undone : {A B : Type 0} (f : A → B) (g : B → A) → ((a : A) → g (f a) ≡ a) → (a b : A) → f a ≡ f b → a ≡ b
undone f g h a b e = sym (h a) ∙ ap g e ∙ h b

abbrev back : {A : Type 0} → Check A → Result A Refusal
back (ok a) = Ok a
back (refused r) = Err r

pub one_answer : {A : Type 0} (a b : Result A Refusal) → said a ≡ said b → a ≡ b
one_answer = undone said back (elim [ Ok a ↦ refl | Err r ↦ refl ])

-- the faults in the order of their numbers, from 1
abbrev faults : List Fault
faults = Short ∷ Mark ∷ Version ∷ Limit ∷ Length ∷ Owner ∷ Edge ∷ NoRoom ∷ NoStatement ∷ Operand ∷ NotHeld ∷ Bound ∷ Outside ∷ Taken ∷ Twice ∷ Elsewhere
    ∷ LeftLive ∷ BranchesDiffer ∷ LoopChanges ∷ TooManyCommands ∷ NoPath ∷ TooManySteps ∷ NoTurn ∷ NoSpace ∷ NoJob ∷ MapLength ∷ NoLine ∷ []

abbrev pub fault_of : ℕ → Fault
fault_of n = get_or faults (n - 1) Short

pub numbered : (a : Fault) → fault_of (number_of a) ≡ a
numbered Short = refl
numbered Mark = refl
numbered Version = refl
numbered Limit = refl
numbered Length = refl
numbered Owner = refl
numbered Edge = refl
numbered NoRoom = refl
numbered NoStatement = refl
numbered Operand = refl
numbered NotHeld = refl
numbered Bound = refl
numbered Outside = refl
numbered Taken = refl
numbered Twice = refl
numbered Elsewhere = refl
numbered LeftLive = refl
numbered BranchesDiffer = refl
numbered LoopChanges = refl
numbered TooManyCommands = refl
numbered NoPath = refl
numbered TooManySteps = refl
numbered NoTurn = refl
numbered NoSpace = refl
numbered NoJob = refl
numbered MapLength = refl
numbered NoLine = refl

pub one_fault : (a b : Fault) → number_of a ≡ number_of b → a ≡ b
one_fault = undone number_of fault_of numbered
