-- The words of a listing, letter by letter: the names of the statement kinds, the words around them, and the letters of gates and bases.
use Rattle.std.specs.Prelude.{List, [], ◌∷◌}
use Rattle.rules.specs.Words.{Text}

abbrev pub init_name : Text
init_name = 0x69 ∷ 0x6E ∷ 0x69 ∷ 0x74 ∷ []

abbrev pub magic_name : Text
magic_name = 0x6D ∷ 0x61 ∷ 0x67 ∷ 0x69 ∷ 0x63 ∷ []

abbrev pub free_name : Text
free_name = 0x66 ∷ 0x72 ∷ 0x65 ∷ 0x65 ∷ []

abbrev pub gate_name : Text
gate_name = 0x67 ∷ 0x61 ∷ 0x74 ∷ 0x65 ∷ []

abbrev pub measure_name : Text
measure_name = 0x6D ∷ 0x65 ∷ 0x61 ∷ 0x73 ∷ 0x75 ∷ 0x72 ∷ 0x65 ∷ []

abbrev pub merge_name : Text
merge_name = 0x6D ∷ 0x65 ∷ 0x72 ∷ 0x67 ∷ 0x65 ∷ []

abbrev pub ref_name : Text
ref_name = 0x72 ∷ 0x65 ∷ 0x66 ∷ []

abbrev pub get_name : Text
get_name = 0x67 ∷ 0x65 ∷ 0x74 ∷ []

abbrev pub set_name : Text
set_name = 0x73 ∷ 0x65 ∷ 0x74 ∷ []

abbrev pub if_name : Text
if_name = 0x69 ∷ 0x66 ∷ []

abbrev pub while_name : Text
while_name = 0x77 ∷ 0x68 ∷ 0x69 ∷ 0x6C ∷ 0x65 ∷ []

abbrev pub call_name : Text
call_name = 0x63 ∷ 0x61 ∷ 0x6C ∷ 0x6C ∷ []

abbrev pub bool_name : Text
bool_name = 0x62 ∷ 0x6F ∷ 0x6F ∷ 0x6C ∷ []

abbrev pub program : Text
program = 0x70 ∷ 0x72 ∷ 0x6F ∷ 0x67 ∷ 0x72 ∷ 0x61 ∷ 0x6D ∷ []

abbrev pub function : Text
function = 0x66 ∷ 0x75 ∷ 0x6E ∷ 0x63 ∷ 0x74 ∷ 0x69 ∷ 0x6F ∷ 0x6E ∷ []

abbrev pub locations : Text
locations = 0x6C ∷ 0x6F ∷ 0x63 ∷ 0x61 ∷ 0x74 ∷ 0x69 ∷ 0x6F ∷ 0x6E ∷ 0x73 ∷ []

abbrev pub arguments : Text
arguments = 0x61 ∷ 0x72 ∷ 0x67 ∷ 0x75 ∷ 0x6D ∷ 0x65 ∷ 0x6E ∷ 0x74 ∷ 0x73 ∷ []

abbrev pub main : Text
main = 0x6D ∷ 0x61 ∷ 0x69 ∷ 0x6E ∷ []

abbrev pub else : Text
else = 0x65 ∷ 0x6C ∷ 0x73 ∷ 0x65 ∷ []

abbrev pub at : Text
at = 0x61 ∷ 0x74 ∷ []

abbrev pub with : Text
with = 0x77 ∷ 0x69 ∷ 0x74 ∷ 0x68 ∷ []

-- gates X, Z, H, S by their number; a basis is one of the first two
abbrev pub gates : List Text
gates = (0x58 ∷ []) ∷ (0x5A ∷ []) ∷ (0x48 ∷ []) ∷ (0x53 ∷ []) ∷ []

-- the words that are no names, from number 0 on
abbrev pub vocabulary : List Text
vocabulary =
    [] ∷ program ∷ function ∷ locations ∷ arguments ∷ main ∷ else ∷ at ∷ with
    ∷ (0x58 ∷ []) ∷ (0x5A ∷ []) ∷ (0x48 ∷ []) ∷ (0x53 ∷ []) ∷ []
