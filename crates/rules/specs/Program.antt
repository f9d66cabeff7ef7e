-- Program files. Order: 1, 4 for file length, 2, 3, 4 for f, then left to right, first fault met. "Fits" is within the enclosing block, and for
-- headers and outermost blocks within the file.
use Rattle.std.specs.Prelude.{Bool, true, false, ◌&&◌, List, [], ◌∷◌, ◌++◌, ℕ, zero, suc, ◌+◌, eqb, ltb, leb, length, replicate}
use Rattle.std.proofs.Math.Option.{Option, none, some}
use Rattle.answers.specs.Check.{Check, ok, refused, refusal, ◌>>=◌, ◌>>◌, need}
use Rattle.rules.specs.declared.program.ProgramHeader.{ProgramHeader}
use Rattle.rules.specs.declared.program.FunctionHeader.{FunctionHeader}
use Rattle.rules.specs.declared.statements.Operand.{Operand}
use Rattle.rules.specs.declared.statements.Operand.TheVariants.{Slot, Location, Gate, Basis, Value, Callee, CalleeK, CalleeM, Nothing}
use Rattle.rules.specs.Basics.{up_to, byte, word, has_mark}
use Rattle.rules.specs.Syntax.{Side, device, parameter, Statement, op, if, while, call}
use Rattle.rules.specs.Syntax.{Statements, done, ◌⨾◌, Block, block, Function, function, Program}
use Rattle.rules.specs.Table.{Meaning, simple, branches, loops, calls, Row, row_of, size}

-- f is at most 15
abbrev pub program_header : ℕ → Check ProgramHeader
program_header f = do
  need (leb f 15) 4 5
  ok (record { functions = f })

-- the header at i: k is at most 16, m at most 8 and at most k
abbrev pub function_header : ℕ → ℕ → ℕ → Check FunctionHeader
function_header i k m = do
  need (leb k 16) 4 i
  need (leb m 8 && leb m k) 4 (i + 1)
  ok (record { locations = k; arguments = m })

-- a value read, and the position after it
pub record Read (A : Type 0) : Type 0 where
  pub it : A
  pub next : ℕ

-- What a body may name: places below a number, and the functions before it
pub record Scope : Type 0 where
  pub places : ℕ
  pub earlier : List Function

-- an operand byte b is in range, where f is the first operand of the statement
abbrev pub in_range : Scope → ℕ → Operand → ℕ → Bool
in_range S f Slot b = ltb b 32
in_range S f Location b = ltb b S.places
in_range S f Gate b = ltb b 4
in_range S f Basis b = ltb b 2
in_range S f Value b = ltb b 2
in_range S f Callee b = ltb b (length S.earlier)
in_range S f CalleeK b = eqb b (function S.earlier f).k
in_range S f CalleeM b = eqb b (function S.earlier f).m
in_range S f Nothing b = true

-- 9 for a byte that is in no row
abbrev pub known : Option Row → ℕ → Check Row
known none i = refused (refusal 9 i)
known (some r) i = ok r

module _ (s : List ℕ) where
  -- the operands number n and on of the statement at i: 10 at the first out of range
  abbrev pub operands : Scope → ℕ → ℕ → List Operand → Check (Unit {0})
  operands S i n [] = ok tt
  operands S i n (o ∷ os) = do
    need (in_range S (byte s (i + 1)) o (byte s (i + n))) 10 (i + n)
    operands S i (suc n) os

  module _ (d : Side) (S : Scope) where
    -- how an inner block is read: from a position, within a limit
    abbrev Inner : Type 0
    Inner = ℕ → ℕ → Check (Read (Block d))

    -- what a statement at i means, its fixed part being read up to p, in a block that ends at e
    abbrev pub meant : Inner → Meaning → ℕ → ℕ → ℕ → Check (Read (Statement d))
    meant inner (simple f) i p e = ok (record { it = op i (f d λ n. byte s (i + n)); next = p })
    meant inner branches i p e = do
      b ← inner p e
      c ← inner b.next e
      ok (record { it = if i (byte s (i + 1)) b.it c.it; next = c.next })
    meant inner loops i p e = do
      b ← inner p e
      ok (record { it = while i (byte s (i + 1)) b.it; next = b.next })
    meant inner calls i p e = do
      let k : ℕ = byte s (i + 2)
      let m : ℕ = byte s (i + 3)
      need (leb (p + k + m) e) 8 i
      operands S i 4 (replicate k Location ++ replicate m Slot)
      ok (record { it = call i (byte s (i + 1)) (up_to p k λ n. record { no = byte s n }) (up_to (p + k) m λ n. byte s n); next = p + k + m })

    -- Statement: 9, 8 for the fixed part, 10 by operand; then what follows
    abbrev pub statement : Inner → ℕ → ℕ → Check (Read (Statement d))
    statement inner i e = do
      r ← known (row_of (byte s i)) i
      need (leb (i + size r) e) 8 i
      operands S i 1 r.operands
      meant inner r.meaning i (i + size r) e

    -- the statements from i to the block's end e; there are no more of them than bytes
    abbrev pub statements : Inner → ℕ → ℕ → ℕ → Check (Statements d)
    statements inner zero i e = ok done
    statements inner (suc more) i e = elim (ltb i e) [
      | false ↦ ok done
      | true ↦ do
        t ← statement inner i e
        rest ← statements inner more t.next e
        ok (t.it ⨾ rest)
    ]

    -- Block: 8 if its length word doesn't fit, 4 for depth, 8 if its bytes don't fit. The number is how many depths are left.
    abbrev pub read_block : ℕ → Inner
    read_block zero i limit = do
      need (leb (i + 2) limit) 8 i
      refused (refusal 4 i)
    read_block (suc depths) i limit = do
      need (leb (i + 2) limit) 8 i
      need (leb (i + 2 + word s i) limit) 8 i
      b ← statements (read_block depths) (word s i) (i + 2) (i + 2 + word s i)
      ok (record { it = block i b; next = i + 2 + word s i })

  -- n functions from i on, after those in fs
  abbrev pub functions_at : ℕ → ℕ → List Function → Check (Read (List Function))
  functions_at zero i fs = ok (record { it = fs; next = i })
  functions_at (suc n) i fs = do
    need (leb (i + 2) (length s)) 8 i
    h ← function_header i (byte s i) (byte s (i + 1))
    b ← read_block parameter (record { places = h.locations; earlier = fs }) 8 (i + 2) (length s)
    functions_at n b.next (fs ++ (record { k = h.locations; m = h.arguments; body = b.it } ∷ []))

  -- In main any location byte reads. The main block ends the file.
  abbrev pub read_program : Check Program
  read_program = do
    need (leb 8 (length s)) 1 0
    need (leb (length s) 4096) 4 0
    need (has_mark s 0x53) 2 0
    need (eqb (word s 3) 1) 3 3
    h ← program_header (byte s 5)
    fs ← functions_at h.functions 6 []
    b ← read_block device (record { places = 256; earlier = fs.it }) 8 fs.next (length s)
    need (eqb b.next (length s)) 8 b.next
    ok (record { functions = fs.it; main = b.it })
