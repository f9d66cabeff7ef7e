-- The parts of a line that the code has a function for.
use Rattle.std.specs.Prelude.{List, [], ◌∷◌, ◌++◌, ℕ, ◌+◌, ◌*◌, replicate, get_or, Option, Some, None}
use Rattle.rules.specs.declared.statements.Operand.{Operand}
use Rattle.rules.specs.Basics.{chosen, up_to, byte}
use Rattle.rules.specs.Words.{Text, space, written, decimal}
use Rattle.rules.specs.Names.{at, with, gates}
use Rattle.rules.specs.Kinds.{text_of}
use Rattle.rules.specs.Listing.{Line, spoken, silent, indented, listed, fixed_line}
use Rattle.listing.specs.declared.items.Item.{Item}
use Rattle.listing.specs.declared.items.Item.TheVariants.{Word, Number, Gate}

abbrev pub text_of_item : Item → Text
text_of_item (Word w) = text_of w
text_of_item (Number n) = decimal n
text_of_item (Gate g) = get_or gates g []

-- an item, or none, as words of a line
abbrev pub line_of : Option Item → Line
line_of None = []
line_of (Some item) = text_of_item item ∷ []

-- an operand byte as words of a line: none where its kind is not written
abbrev pub said : Operand → ℕ → Line
said o b = chosen (silent o) [] (spoken o b ∷ [])

-- the indent of a depth
abbrev pub spaces : ℕ → Text
spaces n = replicate (2 * n) space

-- the line of the call at i
abbrev pub call_line : List ℕ → ℕ → ℕ → Text
call_line s n i =
    let k = byte s (i + 2) in
    written (indented n (fixed_line s i ++ (listed at (up_to (i + 4) k (byte s)) ++ listed with (up_to (i + 4 + k) (byte s (i + 3)) (byte s)))) ∷ [])
