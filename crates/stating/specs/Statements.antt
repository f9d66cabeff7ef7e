-- What is promised of a line, and of each part of a statement's line.
use Rattle.std.specs.Prelude.{Bool, true, false, List, [], ◌∷◌, ◌++◌, ◌≡◌, ℕ, ◌+◌, ◌-◌, ◌<◌, ◌≤◌, eqb, ltb, length, drop, replicate, Result, Ok, Err}
use Rattle.std.proofs.Math.Option.{some}
use Rattle.std.proofs.lemmas.List.Edits.{sets}
use Rattle.rules.specs.declared.statements.Operand.{Operand}
use Rattle.rules.specs.declared.statements.Operand.TheVariants.{CalleeK, CalleeM}
use Rattle.rules.specs.Basics.{chosen}
use Rattle.rules.specs.Words.{Text, decimal}
use Rattle.rules.specs.Table.{Row, row_of, calls}
use Rattle.rules.specs.Program.{Scope}
use Rattle.rules.specs.Listing.{spoken, silent}
use Rattle.rules.specs.Grammar as grammar
use Rattle.rules.specs.Grammar.{Grammar, live}
use Rattle.rules.specs.Unlisting.{count, Sofar, added, opened, others, operands, list, made}
use Rattle.reading.specs.Cursor.{words_from}
use Rattle.reading.specs.Hearing.{Hearing, took, hears, hears_one, unread, onward}
use Rattle.reading.specs.declared.cursor.Unread.{Unread}
use Rattle.standing.specs.From.{from_operand}
use Rattle.standing.specs.Numbers.{unwritten_of}
use Rattle.standing.specs.Means.{laid, Means}
use Rattle.standing.specs.declared.state.Standing.{Standing}
use Rattle.stating.specs.declared.statement.Operands.{Operands}

-- Bytes xs were read and stand in the buffer from i on; h is what the line is, k what it is behind them.
pub record Put (h : Hearing Sofar) (before : List ℕ) (i : ℕ) (k : List ℕ → Hearing Sofar) (n : ℕ) (after : List ℕ) : Type 0 where
  pub bytes : List ℕ
  pub many : length bytes ≡ n
  pub is : h ≡ k bytes
  pub stand : after ≡ sets before i bytes

-- n bytes were read up to a position, or the line is none or only begins one
unfoldable pub Took-bytes : Hearing Sofar → List ℕ → ℕ → (List ℕ → ℕ → Hearing Sofar) → ℕ → Result ℕ Unread → List ℕ → Type 0
Took-bytes h before i k n (Err e) after = h ≡ unread e
Took-bytes h before i k n (Ok p) after = Put h before i (λ xs. k xs p) n after

module _ (t : Text) (at end stop : ℕ) where
  -- n decimals of a kind with so many words, from i on
  unfoldable pub ReadsNumbers : ℕ → ℕ → ℕ → List ℕ → Result ℕ Unread → List ℕ → Type 0
  ReadsNumbers n limit i before r after =
      (S : Scope) (o : Operand) (k : List ℕ → Grammar Sofar) → silent o ≡ false → ((x : ℕ) → spoken o x ≡ decimal x) → count S o ≡ limit
      → ((xs : List ℕ) → live (k xs) ≡ true)
      → Took-bytes (hears (ltb end stop) (others S 0 (replicate n o) k) (words_from t at end)) before i
      (λ xs p. hears (ltb end stop) (k xs) (words_from t p end)) n r after

  -- the same as a list behind its word
  unfoldable pub ReadsList : Text → ℕ → ℕ → ℕ → List ℕ → Result ℕ Unread → List ℕ → Type 0
  ReadsList w n limit i before r after =
      (S : Scope) (o : Operand) (k : List ℕ → Grammar Sofar) → silent o ≡ false → ((x : ℕ) → spoken o x ≡ decimal x) → count S o ≡ limit
      → ((xs : List ℕ) → live (k xs) ≡ true)
      → Took-bytes (hears (ltb end stop) (list S w o n k) (words_from t at end)) before i
      (λ xs p. hears (ltb end stop) (k xs) (words_from t p end)) n r after

  -- The operands of statement b: its byte and theirs stand behind the program's bytes. A call's are its callee, and the callee's k and m.
  pub record PutOperands (p : Sofar) (row : Row) (b : ℕ) (c : Standing) (q first : ℕ) (before after : List ℕ) : Type 0 where
    pub bytes : List ℕ
    pub many : length bytes ≡ length row.operands
    pub is : hears (ltb end stop) (operands p.scope row.operands λ xs. made p row.meaning (b ∷ xs)) (words_from t at end)
        ≡ hears (ltb end stop) (made p row.meaning (b ∷ bytes)) (words_from t q end)
    pub stand : after ≡ sets before c.used (b ∷ bytes)
    pub call : b ≡ 12 → (first < c.callees) × (bytes ≡ first ∷ unwritten_of c CalleeK first ∷ unwritten_of c CalleeM first ∷ [])

  unfoldable pub OperandsAs : Sofar → Row → ℕ → Standing → List ℕ → Result Operands Unread → List ℕ → Type 0
  OperandsAs p row b c before (Err e) after =
      hears (ltb end stop) (operands p.scope row.operands λ xs. made p row.meaning (b ∷ xs)) (words_from t at end) ≡ unread e
  OperandsAs p row b c before (Ok o) after = PutOperands p row b c o.to o.first before after

  unfoldable pub ReadsOperands : ℕ → Standing → List ℕ → Result Operands Unread → List ℕ → Type 0
  ReadsOperands b c before r after = (p : Sofar) (row : Row) → Means c p → row_of b ≡ some row → OperandsAs p row b c before r after

  -- operand number n of statement b, which is written: xs are the bytes of those before, the first of which is `first`
  unfoldable pub ReadsOperand : ℕ → ℕ → ℕ → Standing → Result (ℕ × ℕ) Unread → Type 0
  ReadsOperand b n first c r =
      (p : Sofar) (row : Row) (xs : List ℕ) → Means c p → row_of b ≡ some row → length xs + 1 ≡ n
      → hears (ltb end stop) (from_operand p row b n first (drop (n - 1) row.operands) xs) (words_from t at end)
      ≡ onward r λ o. hears (ltb end stop) (from_operand p row b (n + 1) (chosen (eqb n 1) o.0 first) (drop n row.operands) (xs ++ (o.0 ∷ [])))
      (words_from t o.1 end)

-- the position behind operands lies in the line
abbrev pub OperandsOnto : ℕ → ℕ → Result Operands Unread → Type 0
OperandsOnto at stop (Err e) = Unit
OperandsOnto at stop (Ok o) = (at ≤ o.to) × (o.to ≤ stop)

-- A line was taken: the numbers stand for the program behind it, whose bytes are in the buffer. D is what the buffer held at first.
pub record TookLine (h : Hearing Sofar) (D : List ℕ) (c : Standing) (after : List ℕ) : Type 0 where
  pub program : Sofar
  pub is : h ≡ took program
  pub means : Means c program
  pub stand : after ≡ sets D 6 (laid program)

unfoldable pub LineAs : Hearing Sofar → List ℕ → Result Standing Unread → List ℕ → Type 0
LineAs h D (Err e) after = h ≡ unread e
LineAs h D (Ok c) after = TookLine h D c after

-- a line is what one of the grammars of the program so far hears in it
unfoldable pub ReadsLine : Text → ℕ → ℕ → ℕ → (Sofar → List (Grammar Sofar)) → Standing → List ℕ → Result Standing Unread → List ℕ → Type 0
ReadsLine t at end stop gs c before r after =
    (p : Sofar) (D : List ℕ) → Means c p → before ≡ sets D 6 (laid p)
    → LineAs (hears_one (ltb end stop) (gs p) (words_from t at end)) D r after

-- one grammar alone
abbrev pub only : (Sofar → Grammar Sofar) → Sofar → List (Grammar Sofar)
only g p = g p ∷ []

-- a call's lists behind its operands
unfoldable pub ReadsLists : Text → ℕ → ℕ → ℕ → ℕ → Standing → List ℕ → Result ℕ Unread → List ℕ → Type 0
ReadsLists t at end stop first c before r after =
    (p : Sofar) → Means c p → (bs : List ℕ) → bs ≡ 12 ∷ first ∷ unwritten_of c CalleeK first ∷ unwritten_of c CalleeM first ∷ []
    → Took-bytes (hears (ltb end stop) (made p calls bs) (words_from t at end)) before (c.used + 4)
    (λ xs q. hears (ltb end stop) (grammar.stop (some (added p (bs ++ xs)))) (words_from t q end))
    (unwritten_of c CalleeK first + unwritten_of c CalleeM first) r after

-- A statement that holds a block: the buffer holds its byte and operand, bs, behind the program's bytes.
unfoldable pub OpensBlock : Text → ℕ → ℕ → ℕ → Bool → Standing → List ℕ → Result Standing Unread → List ℕ → Type 0
OpensBlock t at end stop due c before r after =
    (p : Sofar) (D bs : List ℕ) → Means c p → length bs ≡ 2 → before ≡ sets D 6 (laid p ++ bs)
    → LineAs (hears (ltb end stop) (grammar.stop (some (opened p due bs))) (words_from t at end)) D r after

-- What a statement makes of the program: the buffer holds its byte and operands, bs, behind the program's bytes.
unfoldable pub BehindOperands : Text → ℕ → ℕ → ℕ → ℕ → ℕ → Standing → List ℕ → Result Standing Unread → List ℕ → Type 0
BehindOperands t at end stop b first c before r after =
    (p : Sofar) (row : Row) (D xs : List ℕ) → Means c p → row_of b ≡ some row → length xs ≡ length row.operands
    → (b ≡ 12 → xs ≡ first ∷ unwritten_of c CalleeK first ∷ unwritten_of c CalleeM first ∷ [])
    → before ≡ sets D 6 (laid p ++ (b ∷ xs))
    → LineAs (hears (ltb end stop) (made p row.meaning (b ∷ xs)) (words_from t at end)) D r after
