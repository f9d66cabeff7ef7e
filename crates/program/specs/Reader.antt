-- What the reader's own answers mean.
use Rattle.std.specs.Prelude.{List, [], ◌≡◌, ℕ, zero, suc, ◌+◌, ◌≤◌, leb, ltb, eqb, length, replicate, set}
use Rattle.std.specs.Prelude.{Result, Ok, Err, IfOk}
use Rattle.answers.specs.Check.{Check, ok, ◌>>=◌, ◌>>◌, need}
use Rattle.answers.specs.Said.{said, passed}
use Rattle.answers.specs.declared.Refusal.{Refusal}
use Rattle.rules.specs.declared.program.ProgramHeader.{ProgramHeader}
use Rattle.rules.specs.Basics.{byte, word, has_mark}
use Rattle.rules.specs.Syntax.{Side, device, parameter, Function, Program}
use Rattle.rules.specs.Table.{row_of, size, size_of}
use Rattle.rules.specs.Program.{Scope, Read, program_header, function_header, known, operands, statement, read_block, functions_at}
use Rattle.program.specs.declared.Parts.{Parts}
use Rattle.program.specs.declared.functions.Head.{Head}
use Rattle.program.specs.declared.functions.FunctionTable.{FunctionTable}
use Rattle.program.specs.declared.functions.Scope as code
use Rattle.program.specs.declared.functions.Functions.{Functions}
pub use Rattle.program.specs.Heads.{no_head, entry, Heads, Tabled}

-- the position after what was read
unfoldable pub next_of : {A : Type 0} → Check (Read A) → Check ℕ
next_of m = m >>= λ r. ok r.next

-- a position read up to lies from a on and not past e
abbrev pub Between : ℕ → ℕ → Result ℕ Refusal → Type 0
Between a e (Ok p) = (a ≤ p) × (p ≤ e)
Between a e (Err r) = Unit

-- The parts of a read that the code has a function for.

-- the code's scope is one of the rules
pub record Behind (S : Scope) (c : code.Scope) : Type 0 where
  pub places_are : S.places ≡ c.places
  pub heads : Heads S.earlier c.functions.now

-- the position after a block that has so many depths left, and after a statement whose inner blocks have
unfoldable pub block_past : List ℕ → Side → Scope → ℕ → ℕ → ℕ → Check ℕ
block_past s d S depths i limit = next_of (read_block s d S depths i limit)

unfoldable pub statement_past : List ℕ → Side → Scope → ℕ → ℕ → ℕ → Check ℕ
statement_past s d S depths i e = next_of (statement s d S (read_block s d S depths) i e)

-- the fixed part of the statement at i, in a block that ends at e: the position after it
unfoldable pub fixed_part : List ℕ → Scope → ℕ → ℕ → Check ℕ
fixed_part s S i e = do
  r ← known (row_of (byte s i)) i
  need (leb (i + size r) e) 8 i
  operands s S i 1 r.operands
  ok (i + size r)

-- an answer for it lies behind it and not past e
abbrev pub BehindFixed : List ℕ → ℕ → ℕ → Result ℕ Refusal → Type 0
BehindFixed s i e r = Between (i + size_of (byte s i)) e r

-- n bytes from p on lie below a limit: the position after them
unfoldable pub below : List ℕ → ℕ → ℕ → ℕ → Check ℕ
below s limit p zero = ok p
below s limit p (suc n) = do
  need (ltb (byte s p) limit) 10 p
  below s limit (p + 1) n

-- the list of the call at i, whose fixed part is read: the position after it
unfoldable pub call_list : List ℕ → ℕ → ℕ → ℕ → Check ℕ
call_list s places i e = do
  need (leb (i + 4 + byte s (i + 2) + byte s (i + 3)) e) 8 i
  p ← below s places (i + 4) (byte s (i + 2))
  below s 32 p (byte s (i + 3))

-- the function at i, after those in fs
unfoldable pub function_at : List ℕ → ℕ → List Function → Check (Read Function)
function_at s i fs = do
  need (leb (i + 2) (length s)) 8 i
  h ← function_header i (byte s i) (byte s (i + 1))
  b ← read_block s parameter (record { places = h.locations; earlier = fs }) 8 (i + 2) (length s)
  ok (record { it = record { k = h.locations; m = h.arguments; body = b.it }; next = b.next })

abbrev pub no_functions : FunctionTable
no_functions = record { count = 0; heads = replicate 16 no_head }

-- one function more
abbrev pub one_more : FunctionTable → Head → FunctionTable
one_more t h = record { count = t.count + 1; heads = set t.heads t.count h }

-- the position after the functions that were read
abbrev pub next_said : Result Functions Refusal → Result ℕ Refusal
next_said (Ok f) = Ok f.next
next_said (Err r) = Err r

-- a read of functions answers as the check does, and where that gives functions has their heads
pub record FunctionsAs (m : Check (Read (List Function))) (r : Result Functions Refusal) : Type 0 where
  pub answers : said (next_said r) ≡ next_of m
  pub tables : (fs : Read (List Function)) → m ≡ ok fs → IfOk r (λ f. Heads fs.it f.table)

-- the file's own header
unfoldable pub head_of : List ℕ → Check ProgramHeader
head_of s = do
  need (leb 8 (length s)) 1 0
  need (leb (length s) 4096) 4 0
  need (has_mark s 0x53) 2 0
  need (eqb (word s 3) 1) 3 3
  program_header (byte s 5)

-- main at i, after the functions fs
unfoldable pub main_at : List ℕ → ℕ → List Function → Check Program
main_at s i fs = do
  b ← read_block s device (record { places = 256; earlier = fs }) 8 i (length s)
  need (eqb b.next (length s)) 8 b.next
  ok (record { functions = fs; main = b.it })

-- what follows the header: n functions, then main
unfoldable pub body_at : List ℕ → ℕ → Check Program
body_at s n = do
  fs ← functions_at s n 6 []
  main_at s fs.next fs.it

-- a read answers as the check does, and where that gives a program has its table
pub record ReadAs (m : Check Program) (r : Result Parts Refusal) : Type 0 where
  pub answers : passed r ≡ (m >> ok tt)
  pub tables : (p : Program) → m ≡ ok p → IfOk r (λ t. Tabled p t.functions t.main)
