-- What the reader's functions promise of each kind of line, of lines and of the end of a text.
use Rattle.std.specs.Prelude.{Bool, true, false, List, [], ◌∷◌, ◌++◌, ◌≡◌, ℕ, suc, ◌+◌, ◌<◌, ◌≤◌, ltb, leb, length, Result}
use Rattle.std.proofs.Math.Option.{Option, none, some}
use Rattle.std.proofs.lemmas.List.Edits.{sets}
use Rattle.answers.specs.Check.{Check, ok, ◌>>=◌}
use Rattle.rules.specs.Words.{Text, decimal}
use Rattle.rules.specs.Program.{Scope}
use Rattle.rules.specs.Grammar as grammar
use Rattle.rules.specs.Grammar.{Grammar, ask, dead, word, live}
use Rattle.rules.specs.Unlisting.{Opened, Sofar, State, fresh, sofar, sized, indent}
use Rattle.rules.specs.Unlisting.{function_lines, main_line, top_lines, else_begun, lines, file}
use Rattle.rules.specs.Names.{function, locations, arguments, else}
use Rattle.rules.specs.Syntax.{Function}
use Rattle.rules.specs.Basics.{up_to}
use Rattle.reading.specs.Cursor.{words_from}
use Rattle.reading.specs.Hearing.{hears, hears_one, onward}
use Rattle.standing.specs.Means.{outside, laid, laid_at, Means, Stands}
use Rattle.standing.specs.declared.state.Standing.{Standing}
use Rattle.reading.specs.declared.cursor.Unread.{Unread}
use Rattle.stating.specs.Statements.{LineAs}

-- any line, from nothing read on
unfoldable pub ReadsAny : Text → ℕ → ℕ → ℕ → Standing → List ℕ → Result Standing Unread → List ℕ → Type 0
ReadsAny t at end stop c before r after =
    (σ : State) (D : List ℕ) → Stands c σ → before ≡ sets D 6 (laid_at σ)
    → LineAs (hears_one (ltb end stop) (lines σ) (words_from t at end)) D r after

-- the end of the text
pub record Ended (σ : State) (c : Standing) (D after : List ℕ) : Type 0 where
  pub bytes : List ℕ
  pub is : file σ ≡ some bytes
  pub many : length bytes ≡ c.used
  pub stand : after ≡ sets D 0 bytes

unfoldable pub EndAs : State → Standing → List ℕ → Bool → List ℕ → Type 0
EndAs σ c D true after = Ended σ c D after
EndAs σ c D false after = file σ ≡ none

unfoldable pub Ends : Standing → List ℕ → Bool → List ℕ → Type 0
Ends c before r after = (σ : State) (D : List ℕ) → Stands c σ → before ≡ sets D 6 (laid_at σ) → EndAs σ c D r after

-- the innermost block's length word is put
unfoldable pub Closes : Standing → List ℕ → List ℕ → Type 0
Closes c before after =
    (p : Sofar) (b : Opened) (bs : List Opened) (D more : List ℕ) → Means c p → p.open_blocks ≡ b ∷ bs → before ≡ sets D 6 (laid p ++ more)
    → after ≡ sets D 6 (outside bs ++ (b.before ++ (sized p.bytes ++ more)))

-- the first line
unfoldable pub FirstLine : Text → ℕ → ℕ → ℕ → Result Standing Unread → Type 0
FirstLine t at end stop r =
    (D after : List ℕ) → after ≡ D
    → LineAs (hears_one (ltb end stop) (lines fresh) (words_from t at end)) D r after

-- the words of a function's line before its numbers
unfoldable pub FunctionWords : Text → ℕ → ℕ → ℕ → ℕ → Result ℕ Unread → Type 0
FunctionWords t at end stop n r =
    (g : Grammar Sofar) → live g ≡ true
    → hears (ltb end stop) (word function (word (decimal n) (word locations g))) (words_from t at end)
    ≡ onward r λ p. hears (ltb end stop) g (words_from t p end)

-- how many words there are for the arguments of a function with k locations
abbrev pub most_arguments : ℕ → ℕ
most_arguments k = suc (elim (leb k 8) [ true ↦ k | false ↦ 8 ])

unfoldable pub Arguments : Text → ℕ → ℕ → ℕ → ℕ → Result (ℕ × ℕ) Unread → Type 0
Arguments t at end stop k r =
    (g : ℕ → Grammar Sofar) → ((m : ℕ) → m < most_arguments k → live (g m) ≡ true)
    → hears (ltb end stop) (word arguments (ask none (up_to 0 (most_arguments k) decimal) g)) (words_from t at end)
    ≡ onward r λ n. hears (ltb end stop) (g n.0) (words_from t n.1 end)

-- what may stand outside blocks: a function, main, either
abbrev pub functions_of : Sofar → List (Grammar Sofar)
functions_of p = elim p.after [ none ↦ [] | some fs ↦ function_lines fs p.bytes ]

abbrev pub mains_of : Sofar → List (Grammar Sofar)
mains_of p = elim p.after [ none ↦ [] | some fs ↦ main_line fs p.bytes ∷ [] ]

abbrev pub tops_of : Sofar → List (Grammar Sofar)
tops_of p = top_lines p.after p.bytes

-- every line that may follow the first
abbrev pub lines_of : Sofar → List (Grammar Sofar)
lines_of p = lines (sofar p)

-- the else of the innermost block
abbrev pub else_after : Scope → Option (List Function) → List Opened → List ℕ → Grammar Sofar
else_after S a [] bytes = dead
else_after S a (b ∷ bs) bytes = indent (length bs) (word else (grammar.stop (some (else_begun S a b bs bytes))))

abbrev pub else_line : Sofar → Grammar Sofar
else_line p = else_after p.scope p.after p.open_blocks p.bytes

-- how many bytes a check gives
unfoldable pub length_of : Check (List ℕ) → Check ℕ
length_of m = m >>= λ s. ok (length s)

-- a line that ends at `end` stops behind its newline where it has one
pub record Stop (t : Text) (end r : ℕ) : Type 0 where
  pub whole : ltb end r ≡ ltb end (length t)
  pub from : end ≤ r
  pub near : r ≤ end + 1
  pub within : r ≤ length t
