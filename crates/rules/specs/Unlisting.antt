-- The reader of listings, line by line: the program so far, which lines may follow it, and the file when the text ends.
use Rattle.std.specs.Prelude.{Bool, true, false, List, [], ◌∷◌, ◌++◌, ℕ, zero, suc, ◌+◌, ◌/◌, ◌%◌, ltb, leb, get_or, length, replicate}
use Rattle.std.proofs.Math.Option.{Option, none, some}
use Rattle.answers.specs.Check.{Check, ok, refused, refusal, ◌>>◌, need}
use Rattle.rules.specs.declared.statements.Operand.{Operand}
use Rattle.rules.specs.declared.statements.Operand.TheVariants.{Slot, Location, Gate, Basis, Value, Callee, CalleeK, CalleeM, Nothing}
use Rattle.rules.specs.Basics.{chosen, up_to}
use Rattle.rules.specs.Syntax as syntax
use Rattle.rules.specs.Syntax.{block, done, Function}
use Rattle.rules.specs.Table.{Meaning, simple, branches, loops, calls, Row, row_of, size, names}
use Rattle.rules.specs.Program.{Scope}
use Rattle.rules.specs.Words.{Text, space, newline, split, decimal}
use Rattle.rules.specs.Names.{program, function, locations, arguments, main, else, at, with}
use Rattle.rules.specs.Listing.{spoken}
use Rattle.rules.specs.Grammar.{Grammar, stop, ask, dead, word, takes_one, starts_one}

-- how many bytes an operand may be in a scope: those below this number
abbrev pub count : Scope → Operand → ℕ
count S Slot = 32
count S Location = S.places
count S Gate = 4
count S Basis = 2
count S Value = 2
count S Callee = length S.earlier
count S CalleeK = 0
count S CalleeM = 0
count S Nothing = 0

abbrev pub words_for : Scope → Operand → List Text
words_for S o = up_to 0 (count S o) (spoken o)

-- a block that is being read: the bytes before its length word in what contains it, and whether an else must follow it
pub record Opened : Type 0 where
  pub before : List ℕ
  pub due : Bool

-- The program so far: what the block being read may name; the functions there are when it has ended, none in main; the open blocks, innermost
-- first; the bytes of the innermost. Outside functions and main no block is open, and the bytes are those of the functions so far.
pub record Sofar : Type 0 where
  pub scope : Scope
  pub after : Option (List Function)
  pub open_blocks : List Opened
  pub bytes : List ℕ

-- a block's bytes behind their length word
abbrev pub sized : List ℕ → List ℕ
sized bs = length bs / 256 ∷ length bs % 256 ∷ bs

-- how many bytes a file has at least that goes on from here: open blocks have a length word, a due else a block, a function main after it
abbrev pub owed : List Opened → ℕ
owed [] = 0
owed (b ∷ bs) = length b.before + 2 + chosen b.due 2 0 + owed bs

abbrev pub pending : Option (List Function) → ℕ
pending none = 0
pending (some fs) = 2

abbrev pub least : Sofar → ℕ
least p = 6 + length p.bytes + owed p.open_blocks + pending p.after

-- n bytes more, if a file has room for them
abbrev pub room : {A : Type 0} → Sofar → ℕ → Grammar A → Grammar A
room p n g = elim (leb (least p + n) 4096) [ true ↦ g | false ↦ dead ]

abbrev pub added : Sofar → List ℕ → Sofar
added p bs = record { scope = p.scope; after = p.after; open_blocks = p.open_blocks; bytes = p.bytes ++ bs }

-- a block is opened behind the bytes bs
abbrev pub opened : Sofar → Bool → List ℕ → Sofar
opened p due bs = record { scope = p.scope; after = p.after; open_blocks = record { before = p.bytes ++ bs; due = due } ∷ p.open_blocks; bytes = [] }

module _ {A : Type 0} (S : Scope) where
  -- an operand, where f is the first of the statement
  abbrev pub operand : ℕ → Operand → (ℕ → Grammar A) → Grammar A
  operand f Slot k = ask none (words_for S Slot) k
  operand f Location k = ask none (words_for S Location) k
  operand f Gate k = ask none (words_for S Gate) k
  operand f Basis k = ask none (words_for S Basis) k
  operand f Value k = ask none (words_for S Value) k
  operand f Callee k = ask none (words_for S Callee) k
  operand f CalleeK k = k (syntax.function S.earlier f).k
  operand f CalleeM k = k (syntax.function S.earlier f).m
  operand f Nothing k = k 0

  abbrev pub others : ℕ → List Operand → (List ℕ → Grammar A) → Grammar A
  others f [] k = k []
  others f (o ∷ os) k = operand f o λ b. others f os λ bs. k (b ∷ bs)

  abbrev pub operands : List Operand → (List ℕ → Grammar A) → Grammar A
  operands [] k = k []
  operands (o ∷ os) k = operand 0 o λ b. others b os λ bs. k (b ∷ bs)

  -- n operands of a kind behind a word, if there are any
  abbrev pub list : Text → Operand → ℕ → (List ℕ → Grammar A) → Grammar A
  list w o zero k = k []
  list w o (suc n) k = word w (others 0 (replicate (suc n) o) k)

-- what a statement's line makes of the program: bs are its byte and operands
abbrev pub made : Sofar → Meaning → List ℕ → Grammar Sofar
made p (simple f) bs = stop (some (added p bs))
made p branches bs = stop (some (opened p true bs))
made p loops bs = stop (some (opened p false bs))
made p calls bs =
    let k : ℕ = get_or bs 2 0 in
    let m : ℕ = get_or bs 3 0 in
    room p (length bs + k + m)
    (list p.scope at Location k λ ls. list p.scope with Slot m λ xs. stop (some (added p (bs ++ (ls ++ xs)))))

-- the length words that a statement's blocks take
abbrev pub blocks_of : Meaning → ℕ
blocks_of (simple f) = 0
blocks_of branches = 4
blocks_of loops = 2
blocks_of calls = 0

-- a block inside needs one of the eight depths
abbrev pub deeper : {A : Type 0} → Sofar → ℕ → Grammar A → Grammar A
deeper p zero g = g
deeper p (suc n) g = elim (ltb (length p.open_blocks) 8) [ true ↦ g | false ↦ dead ]

abbrev pub row_line : Sofar → ℕ → Option Row → Grammar Sofar
row_line p b none = dead
row_line p b (some r) =
    room p (size r + blocks_of r.meaning)
    (deeper p (blocks_of r.meaning) (operands p.scope r.operands λ xs. made p r.meaning (b ∷ xs)))

abbrev pub statement_line : Sofar → Grammar Sofar
statement_line p = ask none names λ i. row_line p (suc i) (row_of (suc i))

abbrev pub indent : {A : Type 0} → ℕ → Grammar A → Grammar A
indent zero g = g
indent (suc d) g = word [] (word [] (indent d g))

-- A function with k locations and m arguments is begun after the functions fs, whose bytes are F; main is; nothing is, after the first line.
abbrev pub function_begun : List Function → List ℕ → ℕ → ℕ → Sofar
function_begun fs F k m = record {
  scope = record { places = k; earlier = fs };
  after = some (fs ++ (record { k = k; m = m; body = block 0 done } ∷ []));
  open_blocks = record { before = F ++ (k ∷ m ∷ []); due = false } ∷ [];
  bytes = [];
}

abbrev pub main_begun : List Function → List ℕ → Sofar
main_begun fs F = record {
  scope = record { places = 256; earlier = fs };
  after = none;
  open_blocks = record { before = F; due = false } ∷ [];
  bytes = [];
}

abbrev pub program_begun : Sofar
program_begun = record { scope = record { places = 0; earlier = [] }; after = some []; open_blocks = []; bytes = [] }

-- the lines outside functions and main: a function, of which there are at most 15, or main
abbrev pub function_line : List Function → List ℕ → Grammar Sofar
function_line fs F = word function (word (decimal (length fs)) (word locations (ask none (up_to 0 17 decimal) λ k.
    word arguments (ask none (up_to 0 (suc (elim (leb k 8) [ true ↦ k | false ↦ 8 ])) decimal) λ m. stop (some (function_begun fs F k m))))))

abbrev pub main_line : List Function → List ℕ → Grammar Sofar
main_line fs F = word main (stop (some (main_begun fs F)))

abbrev pub function_lines : List Function → List ℕ → List (Grammar Sofar)
function_lines fs F =
    elim (leb (12 + length F) 4096) [ true ↦ elim (ltb (length fs) 15) [ true ↦ function_line fs F ∷ [] | false ↦ [] ] | false ↦ [] ]

abbrev pub top_lines : Option (List Function) → List ℕ → List (Grammar Sofar)
top_lines none F = []
top_lines (some fs) F = function_lines fs F ++ (main_line fs F ∷ [])

-- the else of the innermost block, which has ended
abbrev pub else_begun : Scope → Option (List Function) → Opened → List Opened → List ℕ → Sofar
else_begun S a b bs bytes =
    record { scope = S; after = a; open_blocks = record { before = b.before ++ sized bytes; due = false } ∷ bs; bytes = [] }

-- The lines that may follow: a statement at the innermost depth; the else that is due; or, with the innermost block ended, those that may follow then.
abbrev pub lines_after : Scope → Option (List Function) → List Opened → List ℕ → List (Grammar Sofar)
lines_after S a [] bytes = top_lines a bytes
lines_after S a (b ∷ bs) bytes =
    let p : Sofar = record { scope = S; after = a; open_blocks = b ∷ bs; bytes = bytes } in
    indent (suc (length bs)) (statement_line p) ∷ elim b.due [
      | true ↦ indent (length bs) (word else (stop (some (else_begun S a b bs bytes)))) ∷ []
      | false ↦ lines_after S a bs (b.before ++ sized bytes)
    ]

-- nothing read yet, or the program so far
pub data State : Type 0 where
  fresh : State
  sofar : Sofar → State

abbrev pub lines : State → List (Grammar Sofar)
lines fresh = word program (word (decimal 1) (stop (some program_begun))) ∷ []
lines (sofar p) = lines_after p.scope p.after p.open_blocks p.bytes

-- the file, when main has ended and no else is due
abbrev pub ended : List Opened → List ℕ → Option (List ℕ)
ended [] bytes = some bytes
ended (b ∷ bs) bytes = elim b.due [ true ↦ none | false ↦ ended bs (b.before ++ sized bytes) ]

-- a file's header, for so many functions
abbrev pub header : ℕ → List ℕ
header n = 0x51 ∷ 0x4C ∷ 0x53 ∷ 0x00 ∷ 0x01 ∷ n ∷ []

abbrev pub file : State → Option (List ℕ)
file fresh = none
file (sofar p) = elim p.after [
  | some fs ↦ none
  | none ↦ elim (ended p.open_blocks p.bytes) [ none ↦ none | some bs ↦ some (header (length p.scope.earlier) ++ bs) ]
]

-- what is left of a text behind its last newline: nothing, or an unfinished line; 27 at its start where no line begins so, else at the text's end
abbrev pub ending : ℕ → State → Text → Check (List ℕ)
ending o σ [] = elim (file σ) [ none ↦ refused (refusal 27 o) | some s ↦ ok s ]
ending o σ (x ∷ u) = do
  need (starts_one (lines σ) (split space (x ∷ u))) 27 o
  refused (refusal 27 (o + suc (length u)))

-- the lines from place o on, the last without its newline: 27 at the first that may not follow
abbrev pub follow : ℕ → State → List Text → Check (List ℕ)
follow o σ [] = refused (refusal 27 o)
follow o σ (l ∷ []) = ending o σ l
follow o σ (l ∷ (m ∷ ls)) = elim (takes_one (lines σ) (split space l)) [
  | none ↦ refused (refusal 27 o)
  | some p ↦ follow (o + length l + 1) (sofar p) (m ∷ ls)
]

abbrev pub unlisted : Text → Check (List ℕ)
unlisted t = follow 0 fresh (split newline t)
