-- Files with their listings, and texts that are no listing with the place of 27. That the definitions say so is computed in proofs/Cases.antt.
use Rattle.std.specs.Prelude.{List, [], ◌∷◌, ◌++◌, ℕ, zero, suc, ◌+◌, ◌*◌, ◌-◌, ◌/◌, ltb}
use Prim.Native.Char.{code}
use Prim.Native.String.{String, len, char_at}
use Rattle.rules.specs.Basics.{chosen, up_to}
use Rattle.rules.specs.Words.{Text, newline, decimal}

-- the characters of a line, without its newline; lines with theirs
abbrev pub letters : String → Text
letters l = up_to 0 (len l) λ i. code (char_at l i)

abbrev pub lines : List String → Text
lines [] = []
lines (l ∷ ls) = letters l ++ (newline ∷ lines ls)

-- bytes, each by two digits of base 16, with a space between
abbrev digit : ℕ → ℕ
digit c = chosen (ltb c 0x3A) (c - 0x30) (c - 0x37)

abbrev pub hex : String → List ℕ
hex l = up_to 0 ((len l + 1) / 3) λ i. 16 * digit (code (char_at l (3 * i))) + digit (code (char_at l (3 * i + 1)))

-- so many functions without locations and statements, from number i on: their bytes, their lines
abbrev bare : ℕ → List ℕ
bare zero = []
bare (suc n) = hex "00 00 00 00" ++ bare n

abbrev pub heads : ℕ → ℕ → Text
heads i zero = []
heads i (suc n) = letters "function " ++ decimal i ++ lines (" locations 0 arguments 0" ∷ []) ++ heads (suc i) n

pub record Pair : Type 0 where
  pub file : List ℕ
  pub text : Text

abbrev pair : List ℕ → Text → Pair
pair s t = record { file = s; text = t }

-- the empty program; A of the document; functions, blocks and calls; the kinds that are left; fifteen functions
abbrev pub pairs : List Pair
pairs =
    pair (hex "51 4C 53 00 01 00 00 00") (lines ("program 1" ∷ "main" ∷ []))
    ∷ pair
    (hex "51 4C 53 00 01 00 00 10 01 00 00 01 01 02 06 02 00 00 00 01 03 00 03 01")
    (lines ("program 1" ∷ "main" ∷ "  init 0 0" ∷ "  init 1 2" ∷ "  merge 2 X 0 X 1" ∷ "  free 0" ∷ "  free 1" ∷ []))
    ∷ pair
    (hex "51 4C 53 00 01 02 02 01 00 07 03 00 01 00 01 03 00 00 00 00 00 00 2B 01 00 07 05 01 00 00 0A 01 00 03 04 02 00"
    ++ hex "00 0D 0B 02 00 09 06 02 00 00 01 03 0D 04 01 0C 00 02 01 07 FF 00 0C 01 00 00 02 1F C8")
    (lines ("program 1"
    ∷ "function 0 locations 2 arguments 1"
    ∷ "  free 0"
    ∷ "  init 0 1"
    ∷ "  free 0"
    ∷ "function 1 locations 0 arguments 0"
    ∷ "main"
    ∷ "  init 0 7"
    ∷ "  measure 1 X 0"
    ∷ "  if 1"
    ∷ "    gate H 0"
    ∷ "  else"
    ∷ "    while 2"
    ∷ "      merge 2 X 0 Z 3"
    ∷ "      bool 4 1"
    ∷ "  call 0 at 7 255 with 0"
    ∷ "  call 1"
    ∷ "  magic 31 200"
    ∷ []))
    ∷ pair
    (hex "51 4C 53 00 01 00 00 10 07 01 02 08 03 04 09 05 1F 04 03 06 05 07 01 08")
    (lines ("program 1" ∷ "main" ∷ "  ref 1 2" ∷ "  get 3 4" ∷ "  set 5 31" ∷ "  gate S 6" ∷ "  measure 7 Z 8" ∷ []))
    ∷ pair (hex "51 4C 53 00 01 0F" ++ bare 15 ++ hex "00 00") (lines ("program 1" ∷ []) ++ heads 0 15 ++ lines ("main" ∷ []))
    ∷ []

-- a text that is no listing, and where 27 stands
pub record Stop : Type 0 where
  pub text : Text
  pub place : ℕ

abbrev stop : Text → ℕ → Stop
stop t o = record { text = t; place = o }

-- texts that lines are missing from: the place is the text's end
abbrev pub missing : List Text
missing =
    []
    ∷ letters "prog"
    ∷ letters "program 1"
    ∷ lines ("program 1" ∷ [])
    ∷ (lines ("program 1" ∷ []) ++ letters "main")
    ∷ (lines ("program 1" ∷ "main" ∷ []) ++ letters "  fre")
    ∷ (lines ("program 1" ∷ "main" ∷ []) ++ letters "  free 3")
    ∷ lines ("program 1" ∷ "main" ∷ "  if 0" ∷ "    free 1" ∷ [])
    ∷ (lines ("program 1" ∷ "main" ∷ "  if 0" ∷ "    free 1" ∷ []) ++ letters "  ")
    ∷ (lines ("program 1" ∷ "main" ∷ "  if 0" ∷ "    free 1" ∷ []) ++ letters "  e")
    ∷ (lines ("program 1" ∷ []) ++ heads 0 1 ++ letters "  i")
    ∷ (lines ("program 1" ∷ []) ++ heads 0 11 ++ lines ("main" ∷ []) ++ letters "  call 1")
    ∷ []

-- behind the first two lines, 15 characters: an empty line, no name, no indent of two spaces, a slot above 31 or with a leading zero, words missing or
-- too many, a call with no function before it
abbrev pub not_in_main : List Text
not_in_main =
    lines ("" ∷ [])
    ∷ letters "  frex"
    ∷ letters "   "
    ∷ lines (" free 0" ∷ [])
    ∷ lines ("free 0" ∷ [])
    ∷ lines ("  free 32" ∷ "  free 0" ∷ [])
    ∷ lines ("  free 00" ∷ [])
    ∷ letters "  free 00"
    ∷ lines ("  free" ∷ [])
    ∷ lines ("  free 0 " ∷ [])
    ∷ lines ("  free  0" ∷ [])
    ∷ lines ("  gate Y 0" ∷ [])
    ∷ lines ("  call 0" ∷ [])
    ∷ letters "  c"
    ∷ lines ("  else" ∷ [])
    ∷ lines ("main" ∷ [])
    ∷ []

-- other first lines; function lines; an else that is missing, or not at the if's indent; an init in a function without locations; a sixteenth function;
-- depth nine; a call without its callee's list
abbrev pub stops : List Stop
stops =
    stop (letters "progX") 0
    ∷ stop (lines ("program 2" ∷ "main" ∷ [])) 0
    ∷ stop (lines ("program 1" ∷ "function 1 locations 0 arguments 0" ∷ "main" ∷ [])) 10
    ∷ stop (lines ("program 1" ∷ "function 0 locations 0 arguments 1" ∷ "main" ∷ [])) 10
    ∷ stop (lines ("program 1" ∷ "function 0 locations 17 arguments 1" ∷ "main" ∷ [])) 10
    ∷ stop (lines ("program 1" ∷ "main" ∷ "  if 0" ∷ "    free 1" ∷ "  free 1" ∷ [])) 33
    ∷ stop (lines ("program 1" ∷ "main" ∷ "  if 0" ∷ "    free 1" ∷ []) ++ letters " e") 33
    ∷ stop (lines ("program 1" ∷ "main" ∷ "  if 0" ∷ "    else" ∷ [])) 22
    ∷ stop (lines ("program 1" ∷ []) ++ heads 0 1 ++ letters "  in") 45
    ∷ stop (lines ("program 1" ∷ []) ++ heads 0 16) 540
    ∷ stop (lines ("program 1" ∷ []) ++ heads 0 15 ++ letters "f") 540
    ∷ stop (lines ("program 1"
    ∷ "main"
    ∷ "  while 0"
    ∷ "    while 0"
    ∷ "      while 0"
    ∷ "        while 0"
    ∷ "          while 0"
    ∷ "            while 0"
    ∷ "              while 0"
    ∷ "                while 0"
    ∷ [])) 127
    ∷ stop (lines ("program 1" ∷ "function 0 locations 1 arguments 0" ∷ "main" ∷ "  call 0" ∷ [])) 50
    ∷ []
