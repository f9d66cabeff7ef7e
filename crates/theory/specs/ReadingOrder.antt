-- Demand 2, the first refusal of reading: all tests of a device file, and all tests of a program file, each in one list from left to right. Where the
-- next block, statement or function begins is said by the bytes alone; what a list says past a test that fails does not matter.
use Rattle.std.specs.Prelude.{Bool, true, false, ◌&&◌, ◌||◌, List, [], ◌∷◌, ◌++◌, ◌≡◌, ℕ, zero, suc, ◌+◌, ◌*◌, ◌-◌, eqb, ltb, leb, length, replicate}
use Rattle.std.proofs.Math.Option.{Option, none, some}
use Rattle.rules.specs.declared.statements.Operand.{Operand}
use Rattle.rules.specs.declared.statements.Operand.TheVariants.{Slot as ASlot, Location as ALocation}
use Rattle.rules.specs.Basics.{up_to, byte, word, has_mark}
use Rattle.rules.specs.Device.{read_device}
use Rattle.rules.specs.Syntax.{done, block, Function}
use Rattle.rules.specs.Table.{Meaning, simple, branches, loops, calls, Row, row_of, size}
use Rattle.rules.specs.Program.{Scope, in_range, read_program}
use Rattle.theory.specs.Tests.{Test, test, first_of, refusal_of}

-- A function of which the header alone is known: a call's operands are held against k and m.
abbrev pub headed : ℕ → ℕ → Function
headed k m = record { k = k; m = m; body = block 0 done }

module _ (s : List ℕ) where
  -- Device: 1, 2, 3, 4 (n, then e), 5, 6, 7. Edge i is two bytes a, b with a < b < n, after the edge before it, if any.
  abbrev pub edge_passes : ℕ → ℕ → Bool
  edge_passes n i =
      let p : ℕ = 9 + n + 2 * i in
      let rises : Bool = ltb (byte s (p - 2)) (byte s p) || (eqb (byte s (p - 2)) (byte s p) && ltb (byte s (p - 1)) (byte s (p + 1))) in
      ltb (byte s p) (byte s (p + 1)) && ltb (byte s (p + 1)) n && (eqb i 0 || rises)

  abbrev pub device_tests : List Test
  device_tests =
      test (leb 9 (length s)) 1 0
      ∷ test (has_mark s 0x47) 2 0
      ∷ test (eqb (word s 3) 1) 3 3
      ∷ test (leb 1 (word s 5) && leb (word s 5) 256) 4 5
      ∷ test (leb (word s 7) 1024) 4 7
      ∷ test (eqb (length s) (9 + word s 5 + 2 * word s 7)) 5 0
      ∷ (up_to 0 (word s 5) (λ i. test (leb (byte s (9 + i)) 2) 6 (9 + i))
      ++ up_to 0 (word s 7) (λ i. test (edge_passes (word s 5) i) 7 (9 + word s 5 + 2 * i)))

  -- operands number n and on of the statement at i: 10 by operand
  abbrev pub operand_tests : Scope → ℕ → ℕ → List Operand → List Test
  operand_tests S i n [] = []
  operand_tests S i n (o ∷ os) = test (in_range S (byte s (i + 1)) o (byte s (i + n))) 10 (i + n) ∷ operand_tests S i (suc n) os

  -- a call's list, which starts at p: 8, and its operands 10
  abbrev pub list_tests : Scope → ℕ → ℕ → ℕ → List Test
  list_tests S i p e =
      test (leb (p + byte s (i + 2) + byte s (i + 3)) e) 8 i
      ∷ operand_tests S i 4 (replicate (byte s (i + 2)) ALocation ++ replicate (byte s (i + 3)) ASlot)

  -- where the block whose length word is at i ends
  abbrev pub after_block : ℕ → ℕ
  after_block i = i + 2 + word s i

  -- the tests of an inner block, from a position, within a limit
  abbrev Inner : Type 0
  Inner = ℕ → ℕ → List Test

  -- what follows the fixed part of the statement at i, which ends at p, in a block that ends at e: an if's two blocks, a while's block, a call's list
  abbrev pub following_tests : Scope → Inner → Meaning → ℕ → ℕ → ℕ → List Test
  following_tests S inner (simple f) i p e = []
  following_tests S inner branches i p e = inner p e ++ inner (after_block p) e
  following_tests S inner loops i p e = inner p e
  following_tests S inner calls i p e = list_tests S i p e

  abbrev pub after_following : Meaning → ℕ → ℕ → ℕ
  after_following (simple f) i p = p
  after_following branches i p = after_block (after_block p)
  after_following loops i p = after_block p
  after_following calls i p = p + byte s (i + 2) + byte s (i + 3)

  -- Statement: 9, 8 for the fixed part, 10 by operand; then what follows
  abbrev pub statement_tests : Scope → Inner → ℕ → ℕ → Option Row → List Test
  statement_tests S inner i e none = test false 9 i ∷ []
  statement_tests S inner i e (some r) =
      test true 9 i ∷ test (leb (i + size r) e) 8 i
      ∷ (operand_tests S i 1 r.operands ++ following_tests S inner r.meaning i (i + size r) e)

  abbrev pub after_statement : ℕ → Option Row → ℕ
  after_statement i none = i
  after_statement i (some r) = after_following r.meaning i (i + size r)

  -- the statements of a block from i to its end e, one after the other; there are no more of them than bytes
  abbrev pub statements_tests : Scope → Inner → ℕ → ℕ → ℕ → List Test
  statements_tests S inner zero i e = []
  statements_tests S inner (suc more) i e = elim (ltb i e) [
    | false ↦ []
    | true ↦ statement_tests S inner i e (row_of (byte s i)) ++ statements_tests S inner more (after_statement i (row_of (byte s i))) e
  ]

  -- Block: 8 if its length word doesn't fit, 4 for depth, 8 if its bytes don't fit; then its statements. The number is how many depths are left.
  abbrev pub block_tests : Scope → ℕ → Inner
  block_tests S zero i limit = test (leb (i + 2) limit) 8 i ∷ test false 4 i ∷ []
  block_tests S (suc depths) i limit =
      test (leb (i + 2) limit) 8 i ∷ test true 4 i ∷ test (leb (after_block i) limit) 8 i
      ∷ statements_tests S (block_tests S depths) (word s i) (i + 2) (after_block i)

  -- Function header: 8, then 4 for k over 16, then 4 for m over 8 or over k
  abbrev pub header_tests : ℕ → List Test
  header_tests i =
      test (leb (i + 2) (length s)) 8 i
      ∷ test (leb (byte s i) 16) 4 i
      ∷ test (leb (byte s (i + 1)) 8 && leb (byte s (i + 1)) (byte s i)) 4 (i + 1)
      ∷ []

  -- n functions from i on, after those in fs, each its header and its block; then main's block, which ends the file
  abbrev pub bodies_tests : ℕ → ℕ → List Function → List Test
  bodies_tests zero i fs =
      block_tests (record { places = 256; earlier = fs }) 8 i (length s) ++ (test (eqb (after_block i) (length s)) 8 (after_block i) ∷ [])
  bodies_tests (suc n) i fs =
      header_tests i ++ (block_tests (record { places = byte s i; earlier = fs }) 8 (i + 2) (length s)
      ++ bodies_tests n (after_block (i + 2)) (fs ++ (headed (byte s i) (byte s (i + 1)) ∷ [])))

  -- Program: 1, 4 for file length, 2, 3, 4 for f, then left to right
  abbrev pub program_tests : List Test
  program_tests =
      test (leb 8 (length s)) 1 0
      ∷ test (leb (length s) 4096) 4 0
      ∷ test (has_mark s 0x53) 2 0
      ∷ test (eqb (word s 3) 1) 3 3
      ∷ test (leb (byte s 5) 15) 4 5
      ∷ bodies_tests (byte s 5) 6 []

abbrev pub DeviceOrder : Type 0
DeviceOrder = (s : List ℕ) → refusal_of (read_device s) ≡ first_of (device_tests s)

abbrev pub ProgramOrder : Type 0
ProgramOrder = (s : List ℕ) → refusal_of (read_program s) ≡ first_of (program_tests s)
