-- A statement's line: its name, which is looked for among those of the table; where the statement fits, its operands; and what it makes of the program.
use mathlib.Core.Bool.{Bool, true, false}
use mathlib.Core.List.{List, ◌∷◌, ◌++◌}
use mathlib.Core.Option as places
use mathlib.Core.Option.{none, some}
use mathlib.Core.Path.{◌≡◌, refl, ap, ◌∙◌}
use native.Mathlib.Omega.{arith}
use Prim.Native.Nat.{ℕ, suc, ◌+◌, ◌-◌, ◌<◌}
use lib.Dec.{ltb}
use lib.Seq.{sets}
use Rattle.std.specs.Prelude.{Option, None, Some, Result, Ok, Err}
use Rattle.rules.specs.declared.statements.Kind.{Kind}
use Rattle.rules.specs.Basics.{chosen}
use Rattle.rules.specs.Kinds.{byte_of}
use Rattle.rules.specs.Words.{Text}
use Rattle.rules.specs.Table.{Row, row_of, names}
use Rattle.rules.specs.Grammar.{Grammar}
use Rattle.rules.specs.Unlisting.{Sofar, operands, made, row_line, statement_line}
use Rattle.rules.proofs.KindBytes.{byte_above, byte_below}
use Rattle.reading.specs.Cursor.{part, words_from, named, Named}
use Rattle.reading.specs.Hearing.{Hearing, not, begun, hears, NextWord, unread}
use Rattle.reading.specs.declared.cursor.Unread.{Unread}
use Rattle.reading.specs.declared.cursor.Unread.TheVariants.{Not, Begun}
use Rattle.reading.specs.declared.cursor.Next.TheVariants.{Nothing as NoWord, Unfinished, To}
use Rattle.reading.proofs.Hearings.{hears_ask, hears_nothing, hears_one_lem}
use Rattle.standing.specs.Numbers.{fits_of, name_begins}
use Rattle.standing.specs.Means.{laid, Means}
use Rattle.standing.specs.declared.state.Standing.{Standing}
use Rattle.standing.proofs.Thirteen.{row_there, row_byte}
use Rattle.standing.proofs.Lives.{name_begins_lem, row_fits, row_unfit}
use Rattle.standing.proofs.Meaning.{sets_behind}
use Rattle.stating.specs.Statements.{PutOperands, OperandsAs, ReadsOperands, BehindOperands, LineAs, ReadsLine, only}
use Rattle.stating.specs.declared.statement.Operands.{Operands}
use Rattle.stating.proofs.Called.{hears_dead}
use Rattle.stating.proofs.Behind.{line_same}

-- a kind has a row
pub kind_row : (kind : Kind) → (row : Row) × (row_of (byte_of kind) ≡ some row)
kind_row kind = row_there (byte_of kind) (byte_above kind refl) (byte_below kind refl)

module _ (t : Text) (at end stop : ℕ) (c : Standing) (before : List ℕ) where
  -- what the line is alone
  stated : (r : Result Standing Unread) (after : List ℕ)
      → ((p : Sofar) (D : List ℕ) → Means c p → before ≡ sets D 6 (laid p)
      → LineAs (hears (ltb end stop) (statement_line p) (words_from t at end)) D r after)
      → ReadsLine t at end stop (only statement_line) c before r after
  unfolding ReadsLine
  stated r after h p D mean b =
      line_same _ _ D r after (hears_one_lem (ltb end stop) (statement_line p) (words_from t at end)) (h p D mean b)

  -- it is not read
  not_read : (e : Unread) (after : List ℕ)
      → ((p : Sofar) → Means c p → hears (ltb end stop) (statement_line p) (words_from t at end) ≡ unread e)
      → ReadsLine t at end stop (only statement_line) c before (Err e) after
  unfolding LineAs
  not_read e after h = stated (Err e) after (λ p D mean b. h p mean)

  pub line_nothing : (after : List ℕ) → NextWord t at end stop NoWord → ReadsLine t at end stop (only statement_line) c before (Err Not) after
  line_nothing after none_left = not_read Not after (λ p mean. ap (hears (ltb end stop) (statement_line p)) none_left ∙ hears_nothing (ltb end stop) _ _)

  -- its name is unfinished
  heard_name : NextWord t at end stop Unfinished → (p : Sofar) → Means c p
      → hears (ltb end stop) (statement_line p) (words_from t at end) ≡ chosen (name_begins c (part t at end)) begun not
  heard_name last p mean =
      ap (λ (whole : Bool). hears whole (statement_line p) (words_from t at end)) last.1 ∙ ap (hears false (statement_line p)) last.0
      ∙ name_begins_lem c p mean (part t at end)

  pub line_begun : (after : List ℕ) → NextWord t at end stop Unfinished → name_begins c (part t at end) ≡ true
      → ReadsLine t at end stop (only statement_line) c before (Err Begun) after
  line_begun after last f = not_read Begun after (λ p mean. heard_name last p mean ∙ ap (λ (z : Bool). chosen z begun not) f)

  pub line_unbegun : (after : List ℕ) → NextWord t at end stop Unfinished → name_begins c (part t at end) ≡ false
      → ReadsLine t at end stop (only statement_line) c before (Err Not) after
  line_unbegun after last f = not_read Not after (λ p mean. heard_name last p mean ∙ ap (λ (z : Bool). chosen z begun not) f)

  -- it has a name
  module _ (to : ℕ) (word : NextWord t at end stop (To to)) where
    abbrev rows_of : Sofar → places.Option ℕ → Hearing Sofar
    rows_of p o = elim o [ none ↦ not | some i ↦ hears (ltb end stop) (row_line p (suc i) (row_of (suc i))) (words_from t (to + 1) end) ]

    heard_named : (r : Option Kind) → Named (part t at to) r → (p : Sofar)
        → hears (ltb end stop) (statement_line p) (words_from t at end) ≡ rows_of p (named r)
    unfolding Named
    heard_named r name p =
        ap (hears (ltb end stop) (statement_line p)) word.0
        ∙ hears_ask (ltb end stop) none names (λ i. row_line p (suc i) (row_of (suc i))) (part t at to) (words_from t (to + 1) end) word.1
        ∙ ap (rows_of p) name

    -- of no statement
    pub line_unknown : (after : List ℕ) → Named (part t at to) None → ReadsLine t at end stop (only statement_line) c before (Err Not) after
    line_unknown after name = not_read Not after (λ p mean. heard_named None name p)

    module _ (kind : Kind) (name : Named (part t at to) (Some kind)) where
      abbrev b : ℕ
      b = byte_of kind

      heard_row : (p : Sofar) (row : Row) → row_of b ≡ some row
          → hears (ltb end stop) (statement_line p) (words_from t at end) ≡ hears (ltb end stop) (row_line p b (some row)) (words_from t (to + 1) end)
      heard_row p row is =
          let low = row_byte b row is in
          let i : suc (b - 1) ≡ b = omega (arith, low.0) in
          heard_named (Some kind) name p
          ∙ ap (λ (x : ℕ). hears (ltb end stop) (row_line p x (row_of x)) (words_from t (to + 1) end)) i
          ∙ ap (λ (o : places.Option Row). hears (ltb end stop) (row_line p b o) (words_from t (to + 1) end)) is

      -- of one that does not fit
      pub line_unfit : (after : List ℕ) → fits_of c b ≡ false → ReadsLine t at end stop (only statement_line) c before (Err Not) after
      line_unfit after f = not_read Not after (λ p mean.
          let row = kind_row kind in
          let low = row_byte b row.0 row.1 in
          heard_row p row.0 row.1
          ∙ ap (λ (y : Grammar Sofar). hears (ltb end stop) y (words_from t (to + 1) end)) (row_unfit c p mean row.0 b low.0 low.1 row.1 f)
          ∙ hears_dead (ltb end stop) (words_from t (to + 1) end))

      -- of one that fits: its operands follow
      module _ (f : fits_of c b ≡ true) (mid : List ℕ) where
        heard_operands : (p : Sofar) (row : Row) → Means c p → row_of b ≡ some row
            → hears (ltb end stop) (statement_line p) (words_from t at end)
            ≡ hears (ltb end stop) (operands p.scope row.operands λ xs. made p row.meaning (b ∷ xs)) (words_from t (to + 1) end)
        heard_operands p row mean is =
            let low = row_byte b row is in
            heard_row p row is
            ∙ ap (λ (y : Grammar Sofar). hears (ltb end stop) y (words_from t (to + 1) end)) (row_fits c p mean row b low.0 low.1 is f)

        pub line_operands : (e : Unread) (after : List ℕ) → ReadsOperands t (to + 1) end stop b c before (Err e) mid
            → ReadsLine t at end stop (only statement_line) c before (Err e) after
        unfolding ReadsOperands OperandsAs
        line_operands e after read = not_read e after (λ p mean.
            let row = kind_row kind in
            heard_operands p row.0 mean row.1 ∙ read p row.0 mean row.1)

        module _ (o : Operands) (read : ReadsOperands t (to + 1) end stop b c before (Ok o) mid) where
          operands_are : (p : Sofar) → Means c p → PutOperands t (to + 1) end stop p (kind_row kind).0 b c o.to o.first before mid
          unfolding ReadsOperands OperandsAs
          operands_are p mean = read p (kind_row kind).0 mean (kind_row kind).1

          -- a call's callee is one of those there are
          pub callee_there : (p : Sofar) → Means c p → b ≡ 12 → o.first < c.callees
          callee_there p mean e = ((operands_are p mean).call e).0

          -- behind them the statement is made
          pub line_statement : (r : Result Standing Unread) (after : List ℕ) → BehindOperands t o.to end stop b o.first c mid r after
              → ReadsLine t at end stop (only statement_line) c before r after
          unfolding BehindOperands
          line_statement r after behind = stated r after (λ p D mean e.
              let row = kind_row kind in
              let put : PutOperands t (to + 1) end stop p row.0 b c o.to o.first before mid = operands_are p mean in
              let stand : mid ≡ sets D 6 (laid p ++ (b ∷ put.bytes)) =
              put.stand ∙ ap (λ (y : List ℕ). sets y c.used (b ∷ put.bytes)) e
              ∙ ap (λ (i : ℕ). sets (sets D 6 (laid p)) i (b ∷ put.bytes)) mean.used
              ∙ sets_behind D 6 (laid p) (b ∷ put.bytes) in
              line_same _ _ D r after (heard_operands p row.0 mean row.1 ∙ put.is)
              (behind p row.0 D put.bytes mean row.1 put.many (λ y. (put.call y).1) stand))
