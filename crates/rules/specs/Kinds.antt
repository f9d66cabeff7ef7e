-- The statement kinds and the words of a listing by name: the byte of each kind, what the table says of it, and the text of each word. The table is by
-- statement byte, and says what each of them means.
use Rattle.std.specs.Prelude.{List, [], ◌∷◌, ◌++◌, ℕ, get_or, Option, Some, None}
use Rattle.std.proofs.Math.Option.{none, some}
use Rattle.rules.specs.declared.statements.Operand.{Operand}
use Rattle.rules.specs.declared.statements.Operand.TheVariants.{Slot, Location, Gate as Gates, Basis, Value, Callee, CalleeK, CalleeM}
use Rattle.rules.specs.declared.statements.Kind.{Kind}
use Rattle.rules.specs.declared.statements.Kind.TheVariants.{Init, Magic, Free, Gate, Measure, Merge, Ref, Get, Set, If, While, Call, Bool}
use Rattle.rules.specs.declared.words.Word.{Word}
use Rattle.rules.specs.declared.words.Word.TheVariants.{Empty, Program, Function, Locations, Arguments, Main, Else, At, With, X, Z, H, S, Name}
use Rattle.rules.specs.Words.{Text}
use Rattle.rules.specs.Names as names
use Rattle.rules.specs.Table.{row_of, name_of}

abbrev pub byte_of : Kind → ℕ
byte_of Init = 1
byte_of Magic = 2
byte_of Free = 3
byte_of Gate = 4
byte_of Measure = 5
byte_of Merge = 6
byte_of Ref = 7
byte_of Get = 8
byte_of Set = 9
byte_of If = 10
byte_of While = 11
byte_of Call = 12
byte_of Bool = 13

-- the operands column, by statement byte
abbrev pub operands_of : ℕ → List Operand
operands_of b = elim (row_of b) [ none ↦ [] | some r ↦ r.operands ]

-- the operands of all kinds in one row, those of a kind side by side
abbrev pub operand_row : List Operand
operand_row =
    Slot ∷ Location ∷ Gates ∷ Slot ∷ Basis ∷ Slot ∷ Basis ∷ Slot ∷ Slot ∷ Value ∷ Callee ∷ CalleeK ∷ CalleeM ∷ []

-- the text of a word
abbrev pub text_of : Word → Text
text_of Empty = []
text_of Program = names.program
text_of Function = names.function
text_of Locations = names.locations
text_of Arguments = names.arguments
text_of Main = names.main
text_of Else = names.else
text_of At = names.at
text_of With = names.with
text_of X = get_or names.gates 0 []
text_of Z = get_or names.gates 1 []
text_of H = get_or names.gates 2 []
text_of S = get_or names.gates 3 []
text_of (Name kind) = name_of (byte_of kind)

-- the letters of all words in one row, those of a word side by side
abbrev pub letter_row : Text
letter_row =
    names.program ++ names.function ++ names.locations ++ names.arguments ++ names.main ++ names.else ++ names.at ++ names.with
    ++ get_or names.gates 0 [] ++ get_or names.gates 1 [] ++ get_or names.gates 2 [] ++ get_or names.gates 3 []
    ++ names.init_name ++ names.magic_name ++ names.free_name ++ names.gate_name ++ names.measure_name ++ names.merge_name
    ++ names.ref_name ++ names.get_name ++ names.set_name ++ names.if_name ++ names.while_name ++ names.call_name ++ names.bool_name

-- the word of gate or basis number g
abbrev pub gate_word : ℕ → Option Word
gate_word g = get_or (Some X ∷ Some Z ∷ Some H ∷ Some S ∷ []) g None

-- the words in the order of their numbers, the names last
abbrev pub all_words : List Word
all_words =
    Empty ∷ Program ∷ Function ∷ Locations ∷ Arguments ∷ Main ∷ Else ∷ At ∷ With ∷ X ∷ Z ∷ H ∷ S
    ∷ Name Init ∷ Name Magic ∷ Name Free ∷ Name Gate ∷ Name Measure ∷ Name Merge ∷ Name Ref ∷ Name Get ∷ Name Set
    ∷ Name If ∷ Name While ∷ Name Call ∷ Name Bool ∷ []

abbrev pub numbered : ℕ → Word
numbered w = get_or all_words w Empty
