-- The listing of a readable program: its lines, each a list of words. A statement's line is printed from its row of the table and its bytes.
use Rattle.std.specs.Prelude.{Bool, true, false, List, [], ◌∷◌, ◌++◌, map, ℕ, zero, suc, get_or}
use Rattle.std.proofs.Math.Option.{Option, none, some}
use Rattle.answers.specs.Check.{Check, ok, ◌>>=◌}
use Rattle.rules.specs.declared.statements.Operand.{Operand}
use Rattle.rules.specs.declared.statements.Operand.TheVariants.{Slot, Location, Gate, Basis, Value, Callee, CalleeK, CalleeM, Nothing}
use Rattle.rules.specs.Basics.{chosen, byte}
use Rattle.rules.specs.Syntax.{Side, Statement, op, if, while, call, Statements, done, ◌⨾◌, Block, block, Function, Program}
use Rattle.rules.specs.Table.{Row, row_of, name_of}
use Rattle.rules.specs.Program.{read_program}
use Rattle.rules.specs.Words.{Text, decimal, written}
use Rattle.rules.specs.Names.{program, function, locations, arguments, main, else, at, with, gates}

abbrev pub Line : Type 0
Line = List Text

-- an operand byte as a word
abbrev pub spoken : Operand → ℕ → Text
spoken Slot b = decimal b
spoken Location b = decimal b
spoken Gate b = get_or gates b []
spoken Basis b = get_or gates b []
spoken Value b = decimal b
spoken Callee b = decimal b
spoken CalleeK b = []
spoken CalleeM b = []
spoken Nothing b = []

-- a call's k and m are its callee's, and are not written
abbrev pub silent : Operand → Bool
silent Slot = false
silent Location = false
silent Gate = false
silent Basis = false
silent Value = false
silent Callee = false
silent CalleeK = true
silent CalleeM = true
silent Nothing = true

-- two spaces a depth: as many empty words
abbrev pub indented : ℕ → Line → Line
indented zero l = l
indented (suc d) l = [] ∷ [] ∷ indented d l

-- a list after the operands: its word, then each of it; nothing where it is empty
abbrev pub listed : Text → List ℕ → Line
listed w [] = []
listed w (x ∷ xs) = w ∷ decimal x ∷ map decimal xs

-- function i, with k locations and m arguments
abbrev pub head_line : ℕ → ℕ → ℕ → Line
head_line i k m = function ∷ decimal i ∷ locations ∷ decimal k ∷ arguments ∷ decimal m ∷ []

abbrev pub operands_in : Option Row → List Operand
operands_in none = []
operands_in (some r) = r.operands

module _ (s : List ℕ) where
  -- the operands that stand from i on
  abbrev pub words : ℕ → List Operand → Line
  words i [] = []
  words i (o ∷ os) = chosen (silent o) (words (suc i) os) (spoken o (byte s i) ∷ words (suc i) os)

  -- the fixed part of the statement at i
  abbrev pub fixed_line : ℕ → Line
  fixed_line i = name_of (byte s i) ∷ words (suc i) (operands_in (row_of (byte s i)))

  module _ {d : Side} where
    abbrev mutual
      pub statement_lines : ℕ → Statement d → List Line
      statement_lines n (op i a) = indented n (fixed_line i) ∷ []
      statement_lines n (if i y b c) = indented n (fixed_line i) ∷ (block_lines (suc n) b ++ (indented n (else ∷ []) ∷ block_lines (suc n) c))
      statement_lines n (while i r b) = indented n (fixed_line i) ∷ block_lines (suc n) b
      statement_lines n (call i f ls xs) = indented n (fixed_line i ++ (listed at (map (λ l. l.no) ls) ++ listed with xs)) ∷ []

      pub statements_lines : ℕ → Statements d → List Line
      statements_lines n done = []
      statements_lines n (t ⨾ ts) = statement_lines n t ++ statements_lines n ts

      pub block_lines : ℕ → Block d → List Line
      block_lines n (block i ts) = statements_lines n ts

  -- functions from number i on
  abbrev pub functions_lines : ℕ → List Function → List Line
  functions_lines i [] = []
  functions_lines i (f ∷ fs) = head_line i f.k f.m ∷ (block_lines 1 f.body ++ functions_lines (suc i) fs)

  abbrev pub program_lines : Program → List Line
  program_lines p = (program ∷ decimal 1 ∷ []) ∷ (functions_lines 0 p.functions ++ ((main ∷ []) ∷ block_lines 1 p.main))

  -- the listing of a file, or why it is no readable program
  abbrev pub listing : Check Text
  listing = read_program s >>= λ p. ok (written (program_lines p))
