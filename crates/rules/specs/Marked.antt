-- The document's marked cases (P), on device G, from the bytes of its file and of the programs, as one table: what is asked, and what the document
-- says the answer is; and after them two rows of ours, for a 17 that stands since main may end with live qubits. That the promises give these answers
-- is proved in proofs/Marked.antt.
use Rattle.std.specs.Prelude.{List, [], ◌∷◌, ◌++◌, ℕ, length, replicate}
use Rattle.answers.specs.Check.{Check, ok, refused}
use Rattle.answers.specs.declared.Counted.{Counted}
use Rattle.answers.specs.declared.File.TheVariants.{NoFile, Program}
use Rattle.rules.specs.Promises.{check_of, Routed, route_of}

-- 2 rows of 3, locations 0 1 2 / 3 4 5, all owned by 1; 29 bytes
abbrev pub G : List ℕ
G =
    0x51 ∷ 0x4C ∷ 0x47 ∷ 0x00 ∷ 0x01 ∷ 0x00 ∷ 0x06 ∷ 0x00 ∷ 0x07 ∷ 0x01 ∷ 0x01 ∷ 0x01 ∷ 0x01 ∷ 0x01 ∷ 0x01
    ∷ 0x00 ∷ 0x01 ∷ 0x00 ∷ 0x03 ∷ 0x01 ∷ 0x02 ∷ 0x01 ∷ 0x04 ∷ 0x02 ∷ 0x05 ∷ 0x03 ∷ 0x04 ∷ 0x04 ∷ 0x05 ∷ []

abbrev pub header : List ℕ
header = 0x51 ∷ 0x4C ∷ 0x53 ∷ 0x00 ∷ 0x01 ∷ 0x00 ∷ []

abbrev pub A : List ℕ
A =
    header
    ++ (0x00 ∷ 0x10 ∷ 0x01 ∷ 0x00 ∷ 0x00 ∷ 0x01 ∷ 0x01 ∷ 0x02
    ∷ 0x06 ∷ 0x02 ∷ 0x00 ∷ 0x00 ∷ 0x00 ∷ 0x01 ∷ 0x03 ∷ 0x00 ∷ 0x03 ∷ 0x01 ∷ [])

-- A without its last two bytes
abbrev pub without_last : List ℕ
without_last =
    header
    ++ (0x00 ∷ 0x0E ∷ 0x01 ∷ 0x00 ∷ 0x00 ∷ 0x01 ∷ 0x01 ∷ 0x02
    ∷ 0x06 ∷ 0x02 ∷ 0x00 ∷ 0x00 ∷ 0x00 ∷ 0x01 ∷ 0x03 ∷ 0x00 ∷ [])

-- A with second measured slot 0
abbrev pub measured_twice : List ℕ
measured_twice =
    header
    ++ (0x00 ∷ 0x10 ∷ 0x01 ∷ 0x00 ∷ 0x00 ∷ 0x01 ∷ 0x01 ∷ 0x02
    ∷ 0x06 ∷ 0x02 ∷ 0x00 ∷ 0x00 ∷ 0x00 ∷ 0x00 ∷ 0x03 ∷ 0x00 ∷ 0x03 ∷ 0x01 ∷ [])

-- a bool in slot 0, and an if on it whose first block leaves a qubit in slot 1
abbrev pub outlives_block : List ℕ
outlives_block = header ++ (0x00 ∷ 0x0C ∷ 0x0D ∷ 0x00 ∷ 0x01 ∷ 0x0A ∷ 0x00 ∷ 0x00 ∷ 0x03 ∷ 0x01 ∷ 0x01 ∷ 0x00 ∷ 0x00 ∷ 0x00 ∷ [])

-- a function with one parameter that leaves a qubit there, and an empty main
abbrev pub outlives_function : List ℕ
outlives_function = 0x51 ∷ 0x4C ∷ 0x53 ∷ 0x00 ∷ 0x01 ∷ 0x01 ∷ 0x01 ∷ 0x00 ∷ 0x00 ∷ 0x03 ∷ 0x01 ∷ 0x00 ∷ 0x00 ∷ 0x00 ∷ 0x00 ∷ []

-- a route for an occupancy, two ends and a buffer of so many bytes, or a check of a program
pub data Asked : Type 0 where
  route : List ℕ → ℕ → ℕ → ℕ → Asked
  check : List ℕ → Asked

-- what is said: of a route its answer and the buffer, of a check its answer
pub data Said : Type 0 where
  of_route : Routed → Said
  of_check : Check Counted → Said

-- what the promises say, for job 1
abbrev pub answered : Asked → Said
answered (route occupancy a b room) = of_route (route_of G 1 occupancy a b (replicate room 0xAA))
answered (check program) = of_check (check_of G program 1)

pub record Case : Type 0 where
  pub asked : Asked
  pub answer : Said

abbrev found : List ℕ → ℕ → Said
found p rest = of_route (record { answer = ok (length p); buffer = p ++ replicate rest 0xAA })

abbrev no_path : ℕ → Said
no_path room = of_route (record { answer = refused (record { number = 21; place = 0; file = NoFile }); buffer = replicate room 0xAA })

abbrev counted : ℕ → ℕ → Said
counted n live = of_check (ok (record { count = n; live = live }))

abbrev refused_at : ℕ → ℕ → Said
refused_at number place = of_check (refused (record { number = number; place = place; file = Program 1 }))

abbrev case : Asked → Said → Case
case asked answer = record { asked = asked; answer = answer }

abbrev pub marked : List Case
marked =
    case (route (0 ∷ 0 ∷ 0 ∷ 0 ∷ 0 ∷ 0 ∷ []) 0 2 3) (found (0 ∷ 1 ∷ 2 ∷ []) 0)
    ∷ case (route (0 ∷ 1 ∷ 0 ∷ 0 ∷ 0 ∷ 0 ∷ []) 0 2 8) (found (0 ∷ 3 ∷ 4 ∷ 5 ∷ 2 ∷ []) 3)
    ∷ case (route (0 ∷ 1 ∷ 0 ∷ 0 ∷ 1 ∷ 0 ∷ []) 0 2 8) (no_path 8)
    ∷ case (route (0 ∷ 0 ∷ 0 ∷ 0 ∷ 0 ∷ 0 ∷ []) 0 4 8) (found (0 ∷ 1 ∷ 4 ∷ []) 5)
    ∷ case (route (0 ∷ 1 ∷ 0 ∷ 1 ∷ 0 ∷ 0 ∷ []) 0 4 0) (no_path 0)
    ∷ case (route (0 ∷ 1 ∷ 0 ∷ 1 ∷ 0 ∷ 0 ∷ []) 0 1 8) (found (0 ∷ 1 ∷ []) 6)
    ∷ case (check (header ++ (0x00 ∷ 0x00 ∷ []))) (counted 0 0)
    ∷ case (check (header ++ (0x00 ∷ 0x00 ∷ 0x00 ∷ []))) (refused_at 8 8)
    ∷ case (check A) (counted 5 0)
    ∷ case (check without_last) (counted 4 1)
    ∷ case (check measured_twice) (refused_at 15 14)
    ∷ case (check outlives_block) (refused_at 17 13)
    ∷ case (check outlives_function) (refused_at 17 8)
    ∷ []
