-- What the code computes from the numbers of the program so far: how the numbers change with each line, and which statements may stand next.
use Rattle.std.specs.Prelude.{Bool, true, false, ◌&&◌, ◌||◌, ℕ, suc, ◌+◌, ◌-◌, ◌<◌, ◌≤◌, eqb, ltb, leb, get_or, set, replicate, min}
use Rattle.rules.specs.declared.statements.Operand.{Operand}
use Rattle.rules.specs.declared.statements.Operand.TheVariants.{Slot, Location, Gate, Basis, Value, Callee, CalleeK, CalleeM, Nothing}
use Rattle.rules.specs.Basics.{chosen, all, up_to}
use Rattle.rules.specs.Words.{Text, opens}
use Rattle.rules.specs.Table.{name_of, size_of, operand_at}
use Rattle.rules.specs.Listing.{silent}
use Rattle.rules.specs.Grammar.{some_below}
use Rattle.reading.specs.Cursor.{spelling, token_for}
use Rattle.standing.specs.declared.state.Head.{Head}
use Rattle.standing.specs.declared.state.Open.{Open}
use Rattle.standing.specs.declared.state.Standing.{Standing}

-- what is kept of a function that has not been read, and of a block that is not open
abbrev pub no_head : Head
no_head = record { locations = 0; arguments = 0 }

abbrev pub no_block : Open
no_block = record { due = false; word = 0 }

-- the numbers before the first line, and after each kind of line
abbrev pub fresh_of : Standing
fresh_of = record {
  started = false;
  in_main = false;
  functions = 0;
  heads = replicate 16 no_head;
  places = 0;
  callees = 0;
  depth = 0;
  blocks = replicate 8 no_block;
  used = 6;
  owed = 2;
}

-- the length words of a statement's blocks, by its byte
abbrev pub block_bytes : ℕ → ℕ
block_bytes b = chosen (eqb b 10) 4 (chosen (eqb b 11) 2 0)

module _ (c : Standing) where
  abbrev pub begun_of : Standing
  begun_of = record c { started = true }

  abbrev pub added_of : ℕ → Standing
  added_of n = record c { used = c.used + n }

  abbrev pub opened_of : ℕ → Bool → Standing
  opened_of n due = record c {
    depth = c.depth + 1;
    blocks = set c.blocks c.depth (record { due = due; word = c.used + n });
    used = c.used + n + 2;
    owed = c.owed + chosen due 2 0;
  }

  abbrev pub closed_of : Standing
  closed_of = record c { depth = c.depth - 1 }

  abbrev pub turned_of : Standing
  turned_of = record c {
    blocks = set c.blocks (c.depth - 1) (record { due = false; word = c.used });
    used = c.used + 2;
    owed = c.owed - 2;
  }

  abbrev pub function_of : ℕ → ℕ → Standing
  function_of k m = record c {
    functions = c.functions + 1;
    heads = set c.heads c.functions (record { locations = k; arguments = m });
    places = k;
    callees = c.functions;
    depth = 1;
    blocks = set c.blocks 0 (record { due = false; word = c.used + 2 });
    used = c.used + 4;
  }

  abbrev pub main_of : Standing
  main_of = record c {
    in_main = true;
    places = 256;
    callees = c.functions;
    depth = 1;
    blocks = set c.blocks 0 (record { due = false; word = c.used });
    used = c.used + 2;
    owed = 0;
  }

  -- a function's head
  abbrev pub head_of : ℕ → Head
  head_of f = get_or c.heads f no_head

  -- places below this number may be named: in a function its locations, in main all
  abbrev pub places_of : ℕ
  places_of = chosen c.in_main 256 (head_of c.callees).locations

  -- what holds of the numbers of a program: their sums are small, and a byte is enough for each place and each function
  abbrev pub Short : Type 0
  Short = (c.used < 65536) × (c.owed < 65536)

  abbrev pub Few : Type 0
  Few = (c.places ≤ 256) × (c.callees ≤ 256)

  -- a file has room for n bytes more
  abbrev pub room_of : ℕ → Bool
  room_of n = leb (c.used + c.owed + n) 4096

  -- statement b has room, and a depth for its blocks
  abbrev pub fits_of : ℕ → Bool
  fits_of b = room_of (size_of b + block_bytes b) && (eqb (block_bytes b) 0 || ltb c.depth 8)

  -- how many words an operand would have if it were no byte
  abbrev pub words_of : Operand → ℕ
  words_of Slot = 32
  words_of Location = c.places
  words_of Gate = 4
  words_of Basis = 2
  words_of Value = 2
  words_of Callee = c.callees
  words_of CalleeK = 0
  words_of CalleeM = 0
  words_of Nothing = 0

  -- how many words there are for an operand: it is one byte, so that there are no more than 256
  abbrev pub count_of : Operand → ℕ
  count_of o = min (words_of o) 256

  -- an operand that is not written, where f is the first
  abbrev pub unwritten_of : Operand → ℕ → ℕ
  unwritten_of Slot f = 0
  unwritten_of Location f = 0
  unwritten_of Gate f = 0
  unwritten_of Basis f = 0
  unwritten_of Value f = 0
  unwritten_of Callee f = 0
  unwritten_of CalleeK f = (head_of f).locations
  unwritten_of CalleeM f = (head_of f).arguments
  unwritten_of Nothing f = 0

  -- a call of function f has room, and places for its locations
  abbrev pub call_lives : ℕ → Bool
  call_lives f = room_of (4 + (head_of f).locations + (head_of f).arguments) && (eqb (head_of f).locations 0 || ltb 0 c.places)

  -- an operand that is still to come has a word, or is not written
  abbrev pub worded_of : Operand → Bool
  worded_of o = silent o || ltb 0 (count_of o)

  abbrev pub worded_from : ℕ → ℕ → Bool
  worded_from b n = all worded_of (up_to n (size_of b - n) (operand_at b))

  -- some line goes on with operand number n of statement b, where f is the first
  abbrev pub rest_lives : ℕ → ℕ → ℕ → Bool
  rest_lives b n f = worded_from b n && chosen (eqb b 12) (call_lives f) true

  -- some line goes on behind the name of statement b
  unfoldable pub row_lives : ℕ → Bool
  row_lives b = fits_of b && some_below (count_of (operand_at b 1)) (rest_lives b 2)

  -- some statement may stand next
  unfoldable pub statement_lives : Bool
  statement_lives = some_below 13 λ i. row_lives (suc i)

  -- an unfinished name, or operand number n of statement b, begins one behind which some line goes on
  unfoldable pub name_begins : Text → Bool
  name_begins u = some_below 13 λ i. opens u (name_of (suc i)) && row_lives (suc i)

  abbrev pub offers : Text → ℕ → ℕ → ℕ → ℕ → Bool
  offers u b n f v = opens u (spelling (token_for (operand_at b n) v)) && rest_lives b (n + 1) (chosen (eqb n 1) v f)

  unfoldable pub operand_begins : Text → ℕ → ℕ → ℕ → Bool
  operand_begins u b n f = some_below (count_of (operand_at b n)) (offers u b n f)
