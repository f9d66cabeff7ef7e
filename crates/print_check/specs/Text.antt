-- What a line of the program writes, with numbers as std writes them.
use Rattle.std.specs.Prelude.{List, ◌++◌, ℕ, codes, decimal}
use Rattle.print_check.specs.declared.text.Line.{Line}
use Rattle.print_check.specs.declared.text.Line.TheVariants.{Accepted, Refused, Bad}

abbrev pub text_of : Line → List ℕ
text_of (Accepted n) = codes "OK " ++ (decimal n.count ++ (codes " " ++ (decimal n.live ++ codes "\n")))
text_of (Refused x) = codes "NO " ++ (decimal x.number ++ (codes " " ++ (decimal x.place ++ codes "\n")))
text_of Bad = codes "BAD\n"
