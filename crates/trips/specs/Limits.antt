-- The limit of 4,096 bytes: a program that has so many, and texts that go on where 24 bytes are left. That the definitions say so is computed in
-- proofs/Limits.antt.
use Rattle.std.specs.Prelude.{List, [], ◌∷◌, ◌++◌, ◌≡◌, ℕ, zero, suc, ◌+◌, length, replicate}
use Rattle.answers.specs.Check.{refused, refusal}
use Rattle.rules.specs.Words.{Text}
use Rattle.rules.specs.Unlisting.{unlisted}
use Rattle.trips.specs.Cases.{letters, lines, hex, Pair}

abbrev pub times : ℕ → List ℕ → List ℕ
times zero t = []
times (suc n) t = t ++ times n t

-- 145 calls of 28 bytes; with what stands before them 4,072 bytes
abbrev pub many : Text
many =
    lines ("program 1" ∷ "function 0 locations 16 arguments 8" ∷ "main" ∷ [])
    ++ times 145 (lines ("  call 0 at 0 0 0 0 0 0 0 0 0 0 0 0 0 0 0 0 with 0 0 0 0 0 0 0 0" ∷ []))

abbrev pub frees : ℕ → Text
frees n = times n (lines ("  free 0" ∷ []))

-- twelve statements of two bytes more: 4,096 bytes
abbrev pub longest : Pair
longest = record {
  file = hex "51 4C 53 00 01 01 10 08 00 00 0F F4" ++ times 145 (hex "0C 00 10 08" ++ replicate 24 0) ++ times 12 (hex "03 00");
  text = many ++ frees 12;
}

-- a text behind the calls, and where in it 27 stands
abbrev Behind : Text → ℕ → Type 0
Behind t o = unlisted (many ++ t) ≡ refused (refusal 27 (length many + o))

-- 24 bytes left: a call has no room, so nothing begins with its name
abbrev pub NoCall : Type 0
NoCall = Behind (letters "  call") 0

-- no byte left: no statement begins
abbrev pub NoStatement : Type 0
NoStatement = Behind (frees 12 ++ letters "  ") 108

-- two left: a `free`, but neither `init` nor `if`
abbrev pub OnlyFree : Type 0
OnlyFree = Behind (frees 11 ++ letters "  ") 101

abbrev pub NoInit : Type 0
NoInit = Behind (frees 11 ++ letters "  i") 99

-- six left: an `if` takes them, the else that is due has its two of them
abbrev pub NoThen : Type 0
NoThen = Behind (frees 9 ++ lines ("  if 0" ∷ []) ++ letters "    ") 88
