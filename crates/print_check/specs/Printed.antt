-- What the printing program writes for the bytes that it reads.
use Rattle.std.specs.Prelude.{Bool, ◌&&◌, cond, List, [], ◌∷◌, ◌++◌, ℕ, zero, suc, ◌+◌, ◌/◌, ◌%◌, eqb, leb, ltb, length, take, drop, Option, Some, None}
use Rattle.answers.specs.Check.{Check, ok, refused}
use Rattle.answers.specs.declared.Counted.{Counted}
use Rattle.rules.specs.Basics.{chosen, word}
use Rattle.rules.specs.Promises.{check_of}

-- The bundle: at most 8,192 bytes, u16 length and device, u16 length and program, nothing more. The device has d bytes, from 2 on, and the program p bytes,
-- from 4 + d on.
unfoldable pub fits : List ℕ → ℕ → ℕ → Bool
fits s d p = leb (length s) 8192 && leb (4 + d) (length s) && eqb (4 + d + p) (length s)

-- the device and the program, where the bytes are a bundle
unfoldable pub files : List ℕ → ℕ → ℕ → Option (List ℕ × List ℕ)
files s d p = chosen (fits s d p) (Some (take d (drop 2 s), take p (drop (4 + d) s))) None

abbrev pub bundle_of : List ℕ → Option (List ℕ × List ℕ)
bundle_of s = files s (word s 0) (word s (2 + word s 0))

-- a number in decimal; the first argument, no smaller than the number, only counts down
unfoldable pub decimal_by : ℕ → ℕ → List ℕ
decimal_by zero n = (0x30 + n) ∷ []
decimal_by (suc k) n = cond (ltb n 10) ((0x30 + n) ∷ []) (decimal_by k (n / 10) ++ ((0x30 + n % 10) ∷ []))

abbrev pub decimal : ℕ → List ℕ
decimal n = decimal_by n n

-- a word and a space, two numbers
unfoldable pub numbers_line : List ℕ → ℕ → ℕ → List ℕ
numbers_line word a b = word ++ decimal a ++ (0x20 ∷ []) ++ decimal b ++ (0x0A ∷ [])

-- `OK`, count, number left live; `NO`, number, place
abbrev pub verdict_of : Check Counted → List ℕ
verdict_of (ok a) = numbers_line (0x4F ∷ 0x4B ∷ 0x20 ∷ []) a.count a.live
verdict_of (refused r) = numbers_line (0x4E ∷ 0x4F ∷ 0x20 ∷ []) r.number r.place

-- for job 1; `BAD`
unfoldable pub printed_for : Option (List ℕ × List ℕ) → List ℕ
printed_for (Some (device, program)) = verdict_of (check_of device program 1)
printed_for None = 0x42 ∷ 0x41 ∷ 0x44 ∷ 0x0A ∷ []

abbrev pub printed : List ℕ → List ℕ
printed s = printed_for (bundle_of s)
