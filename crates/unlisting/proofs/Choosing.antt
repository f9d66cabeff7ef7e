-- Which line it is. The lines that may follow are offered from the innermost block outwards; where a line has a block's indent, none of those outside it is
-- the line, since each of them would have a word where the indent goes on.
use mathlib.Core.Bool.{Bool, true, false}
use mathlib.Core.List.{List, [], ◌∷◌, ◌++◌}
use mathlib.Core.Logic.{inr}
use mathlib.Core.Option.{Option, none, some}
use mathlib.Core.Path.{◌≡◌, refl, sym, ap, ◌∙◌}
use native.Mathlib.Omega.{arith}
use Prim.Native.Nat.{ℕ, zero, suc, ◌+◌}
use lib.Dec.{ltb, leb}
use lib.ListN.{length}
use Rattle.rules.specs.Syntax.{Function}
use Rattle.rules.specs.Program.{Scope}
use Rattle.rules.specs.Words.{Text, place}
use Rattle.rules.specs.Names.{function, main, else}
use Rattle.rules.specs.Table.{names}
use Rattle.rules.specs.Grammar.{Grammar, stop, ask, word}
use Rattle.rules.specs.Unlisting.{Opened, Sofar, sofar, sized, indent, statement_line, function_line, function_lines, main_line, top_lines}
use Rattle.rules.specs.Unlisting.{else_begun, lines_after, lines}
use Rattle.reading.specs.Hearing.{Hearing, not, begun, hears, hears_one, Further, blanks}
use Rattle.stating.specs.Statements.{only}
use Rattle.unlisting.specs.Lines.{else_after, else_line}
use Rattle.reading.proofs.Hearings.{hears_ask, hears_word, hears_one_lem, hears_others, hears_first, hears_begun, hears_both}

-- more words follow a blank one
further : (whole : Bool) (v : Text) (vs : List Text) → Further whole (v ∷ vs)
unfolding Further
further whole v vs = inr (v, vs, refl)

module _ (whole : Bool) where
  -- an indent of d before e + 1 more
  hears_blank : (d e : ℕ) (g : Grammar Sofar) (ws : List Text) → hears whole (indent d g) (blanks (d + suc e) ws) ≡ hears whole g (blanks (suc e) ws)
  hears_blank zero e g ws = let z : 0 + suc e ≡ suc e = omega arith in ap (λ (n : ℕ). hears whole g (blanks n ws)) z
  hears_blank (suc d) e g ws =
      let z : suc d + suc e ≡ suc (suc (d + e)) = omega arith in
      let q : suc (d + e) ≡ d + suc e = omega arith in
      ap (λ (n : ℕ). hears whole (indent (suc d) g) (blanks n ws)) z
      ∙ hears_word whole [] (word [] (indent d g)) [] ([] ∷ blanks (suc (d + e)) ws) (further whole [] (blanks (suc (d + e)) ws)) refl
      ∙ hears_word whole [] (indent d g) [] (blanks (suc (d + e)) ws) (further whole [] ([] ∷ blanks (d + e) ws)) refl
      ∙ ap (λ (n : ℕ). hears whole (indent d g) (blanks n ws)) q ∙ hears_blank d e g ws

  -- a word is asked for where a blank one stands
  no_blank : (vs : List Text) (k : ℕ → Grammar Sofar) (e : ℕ) (ws : List Text) → place [] vs ≡ none
      → hears whole (ask none vs k) (blanks (suc e) ws) ≡ not
  no_blank vs k e ws h =
      hears_ask whole none vs k [] ([] ∷ blanks e ws) (further whole [] (blanks e ws)) ∙ go (place [] vs) h
    where
      go : (o : Option ℕ) → o ≡ none → ◌≡◌ {A = Hearing Sofar} (elim o [ none ↦ not | some i ↦ hears whole (k i) ([] ∷ blanks e ws) ]) not
      go none q = refl
      go (some i) q = absurd (let z : ◌≡◌ {A = ℕ} 0 1 = cc in omega arith)

  functions_not : (fs : List Function) (F : List ℕ) (e : ℕ) (ws : List Text) → hears_one whole (function_lines fs F) (blanks (suc e) ws) ≡ not
  unfolding hears_one
  functions_not fs F e ws = go (leb (12 + length F) 4096) (ltb (length fs) 15)
    where
      go : (a b : Bool)
          → hears_one {A = Sofar} whole (elim a [ true ↦ elim b [ true ↦ function_line fs F ∷ [] | false ↦ [] ] | false ↦ [] ]) (blanks (suc e) ws)
          ≡ not
      go true true = hears_one_lem whole (function_line fs F) (blanks (suc e) ws) ∙ no_blank (function ∷ []) _ e ws refl
      go true false = refl
      go false b = refl

  top_not : (a : Option (List Function)) (F : List ℕ) (e : ℕ) (ws : List Text) → hears_one whole (top_lines a F) (blanks (suc e) ws) ≡ not
  unfolding hears_one
  top_not none F e ws = refl
  top_not (some fs) F e ws =
      hears_both whole (function_lines fs F) (main_line fs F ∷ []) (blanks (suc e) ws) (functions_not fs F e ws)
      ∙ hears_one_lem whole (main_line fs F) (blanks (suc e) ws) ∙ no_blank (main ∷ []) _ e ws refl

  -- none of the lines outside is one with a deeper indent
  -- the lines outside block b, which is ended where no else is due
  abbrev rest : Scope → Option (List Function) → Opened → List Opened → List ℕ → List (Grammar Sofar)
  rest S a b bs bytes = elim b.due [
    | true ↦ indent (length bs) (word else (stop (some (else_begun S a b bs bytes)))) ∷ []
    | false ↦ lines_after S a bs (b.before ++ sized bytes)
  ]

  else_not : (S : Scope) (a : Option (List Function)) (b : Opened) (bs : List Opened) (bytes : List ℕ) (e : ℕ) (ws : List Text)
      → hears whole (indent (length bs) (word else (stop (some (else_begun S a b bs bytes))))) (blanks (length bs + suc e) ws) ≡ not
  else_not S a b bs bytes e ws =
      hears_blank (length bs) e (word else (stop (some (else_begun S a b bs bytes)))) ws ∙ no_blank (else ∷ []) _ e ws refl

  rest_not : (S : Scope) (a : Option (List Function)) (b : Opened) (bs : List Opened) (bytes : List ℕ) (e : ℕ) (ws : List Text)
      → hears_one whole (lines_after S a bs (b.before ++ sized bytes)) (blanks (length bs + suc e) ws) ≡ not
      → hears_one whole (rest S a b bs bytes) (blanks (length bs + suc e) ws) ≡ not
  rest_not S a b bs bytes e ws h = go b.due
    where
      go : (due : Bool) → hears_one {A = Sofar} whole (elim due [
        | true ↦ indent (length bs) (word else (stop (some (else_begun S a b bs bytes)))) ∷ []
        | false ↦ lines_after S a bs (b.before ++ sized bytes)
      ]) (blanks (length bs + suc e) ws) ≡ not
      go true = hears_one_lem whole (indent (length bs) (word else (stop (some (else_begun S a b bs bytes))))) (blanks (length bs + suc e) ws)
          ∙ else_not S a b bs bytes e ws
      go false = h

  outside_not : (S : Scope) (a : Option (List Function)) (bs : List Opened) (bytes : List ℕ) (e : ℕ) (ws : List Text)
      → hears_one whole (lines_after S a bs bytes) (blanks (length bs + suc e) ws) ≡ not
  outside_not S a [] bytes e ws =
      let z : 0 + suc e ≡ suc e = omega arith in
      ap (λ (n : ℕ). hears_one whole (top_lines a bytes) (blanks n ws)) z ∙ top_not a bytes e ws
  outside_not S a (b ∷ bs) bytes e ws =
      let p : Sofar = record { scope = S; after = a; open_blocks = b ∷ bs; bytes = bytes } in
      let g : Grammar Sofar = indent (suc (length bs)) (statement_line p) in
      let z : suc (length bs) + suc e ≡ length bs + suc (suc e) = omega arith in
      hears_others whole g (rest S a b bs bytes) (blanks (suc (length bs) + suc e) ws)
      (hears_blank (suc (length bs)) e (statement_line p) ws ∙ no_blank names _ e ws refl)
      ∙ ap (λ (n : ℕ). hears_one whole (rest S a b bs bytes) (blanks n ws)) z
      ∙ rest_not S a b bs bytes (suc e) ws (outside_not S a bs (b.before ++ sized bytes) (suc e) ws)

-- In the innermost block: what is heard of the line, from what its statement is.
module _ (whole : Bool) (p : Sofar) (b : Opened) (bs : List Opened) (e : p.open_blocks ≡ b ∷ bs) (ws : List Text) where
  abbrev here : Grammar Sofar
  here = indent (suc (length bs)) (statement_line p)

  abbrev others : List (Grammar Sofar)
  others = rest whole p.scope p.after b bs p.bytes

  offered : hears_one whole (lines (sofar p)) ws ≡ hears_one whole (here ∷ others) ws
  offered =
      let same : record { scope = p.scope; after = p.after; open_blocks = b ∷ bs; bytes = p.bytes } ≡ p =
      ap (λ (os : List Opened). record { scope = p.scope; after = p.after; open_blocks = os; bytes = p.bytes }) (sym e) in
      ap (λ (os : List Opened). hears_one whole (lines_after p.scope p.after os p.bytes) ws) e
      ∙ ap (λ (q : Sofar). hears_one whole (indent (suc (length bs)) (statement_line q) ∷ others) ws) same

  -- the line has the block's indent
  pub a_statement : (vs : List Text) → ws ≡ blanks (suc (length bs)) vs → hears whole here ws ≡ hears whole (statement_line p) vs
      → hears_one whole (lines (sofar p)) ws ≡ hears_one whole (only statement_line p) vs
  a_statement vs h q =
      let z : suc (length bs) ≡ length bs + 1 = omega arith in
      let none_else : hears_one whole others ws ≡ not =
      ap (hears_one whole others) (h ∙ ap (λ (n : ℕ). blanks n vs) z)
      ∙ rest_not whole p.scope p.after b bs p.bytes 0 vs (outside_not whole p.scope p.after bs (b.before ++ sized p.bytes) 0 vs) in
      offered ∙ hears_first whole here others ws none_else ∙ q ∙ sym (hears_one_lem whole (statement_line p) vs)

  -- it is unfinished, and a statement may begin so
  pub a_start : hears whole here ws ≡ begun → hears_one whole (lines (sofar p)) ws ≡ begun
  a_start h = offered ∙ hears_begun whole here others ws h

  -- it is no statement: the else is asked for where one is due, else what may follow once the block has ended
  pub an_else : hears whole here ws ≡ not → b.due ≡ true → hears_one whole (lines (sofar p)) ws ≡ hears_one whole (only else_line p) ws
  an_else h d =
      offered ∙ hears_others whole here others ws h
      ∙ ap (λ (due : Bool). hears_one {A = Sofar} whole (elim due [
        | true ↦ indent (length bs) (word else (stop (some (else_begun p.scope p.after b bs p.bytes)))) ∷ []
        | false ↦ lines_after p.scope p.after bs (b.before ++ sized p.bytes)
      ]) ws) d
      ∙ ap (λ (os : List Opened). hears_one whole (else_after p.scope p.after os p.bytes ∷ []) ws) (sym e)

  abbrev pub ended : Sofar
  ended = record { scope = p.scope; after = p.after; open_blocks = bs; bytes = b.before ++ sized p.bytes }

  pub an_end : hears whole here ws ≡ not → b.due ≡ false → hears_one whole (lines (sofar p)) ws ≡ hears_one whole (lines (sofar ended)) ws
  an_end h d =
      offered ∙ hears_others whole here others ws h
      ∙ ap (λ (due : Bool). hears_one {A = Sofar} whole (elim due [
        | true ↦ indent (length bs) (word else (stop (some (else_begun p.scope p.after b bs p.bytes)))) ∷ []
        | false ↦ lines_after p.scope p.after bs (b.before ++ sized p.bytes)
      ]) ws) d
