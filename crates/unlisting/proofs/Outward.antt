-- The loop of a line goes from the innermost block outwards: blocks that have ended are closed, and the lines still offered are those that may follow then.
use mathlib.Core.Bool.{Bool, true, false, false≢true}
use mathlib.Core.List.{List, [], ◌∷◌, ◌++◌, append-nil}
use mathlib.Core.Path.{◌≡◌, refl, sym, ap, subst, ◌∙◌}
use Prim.Native.Nat.{ℕ, suc, ◌<◌}
use lib.Dec.{ltb}
use lib.ListN.{length}
use lib.Seq.{sets}
use Rattle.std.specs.Prelude.{Result, Ok, Err}
use Rattle.rules.specs.Words.{Text}
use Rattle.rules.specs.Unlisting.{Opened, Sofar, State, fresh, sofar, sized, indent, statement_line, lines_after, lines}
use Rattle.reading.specs.Cursor.{words_from}
use Rattle.reading.specs.Hearing.{Hearing, hears, hears_one, onward, Indents, Blank, blanks}
use Rattle.reading.specs.declared.cursor.Unread.{Unread}
use Rattle.reading.specs.declared.cursor.Unread.TheVariants.{Not, Begun}
use Rattle.standing.specs.declared.state.Standing.{Standing}
use Rattle.standing.specs.Numbers.{fresh_of, closed_of, statement_lives}
use Rattle.standing.specs.Means.{outside, laid, laid_at, Means, Stands}
use Rattle.standing.proofs.Lives.{statement_lives_lem}
use Rattle.standing.proofs.Meaning.{block_depth, means_closed}
use Rattle.stating.specs.Statements.{only, LineAs, ReadsLine}
use Rattle.unlisting.specs.Lines.{else_line, tops_of, lines_of, ReadsAny, FirstLine, Closes}
use Rattle.unlisting.proofs.Choosing.{a_statement, a_start, an_else, an_end, ended}
use Rattle.unlisting.proofs.Closing.{innermost as block-open, innermost_open, block_due}
use Rattle.unlisting.proofs.Tops.{none_open}

-- a block is open where the depth is not 0
record Innermost (c : Standing) (p : Sofar) : Type 0 where
  block : Opened
  blocks : List Opened
  are : p.open_blocks ≡ block ∷ blocks
  depth : c.depth ≡ suc (length blocks)
  due : (innermost_open c).due ≡ block.due

innermost : (c : Standing) (p : Sofar) → Means c p → 0 < c.depth → Innermost c p
innermost c p M h =
    let i : (b : Opened) × (bs : List Opened) × (p.open_blocks ≡ b ∷ bs) = block-open c p M h in
    record {
      block = i.0;
      blocks = i.1;
      are = i.2;
      depth = block_depth c p i.0 i.1 M i.2;
      due = block_due c p i.0 i.1 M i.2;
    }

-- where the first line has been read, the numbers mean a program
pub some_program : (c : Standing) (σ : State) → Stands c σ → c.started ≡ true → (p : Sofar) × (σ ≡ sofar p) × Means c p
unfolding Stands
some_program c fresh S h = absurd (false≢true (ap (λ (x : Standing). x.started) (sym S) ∙ h))
some_program c (sofar p) S h = (p, refl, S)

-- nothing has been read
pub no_program : (c : Standing) (σ : State) → Stands c σ → c.started ≡ false → (σ ≡ fresh) × (c ≡ fresh_of)
unfolding Stands
no_program c fresh S h = (refl, S)
no_program c (sofar p) S h = absurd (false≢true (sym h ∙ S.started))

module _ (t : Text) (at end stop : ℕ) (from : Standing) (entry : List ℕ) where
  abbrev whole : Bool
  whole = ltb end stop

  abbrev ws : List Text
  ws = words_from t at end

  -- the blocks inside p have ended
  pub record Reached (c : Standing) (out : List ℕ) (p₀ : Sofar) : Type 0 where
    pub program : Sofar
    pub means : Means c program
    pub same : hears_one whole (lines (sofar p₀)) ws ≡ hears_one whole (lines (sofar program)) ws
    pub stand : (D : List ℕ) → entry ≡ sets D 6 (laid p₀) → out ≡ sets D 6 (laid program)

  abbrev pub Reaches : Standing → List ℕ → Type 0
  Reaches c out = (p₀ : Sofar) → Means from p₀ → Reached c out p₀

  pub reached_none : Reaches from entry
  reached_none p₀ M = record { program = p₀; means = M; same = refl; stand = λ D e. e }

  -- what a line is to every program that the numbers meant at first
  abbrev AnyLine : Result Standing Unread → List ℕ → Type 0
  AnyLine r after = ReadsLine t at end stop lines_of from entry r after

  module _ (c : Standing) (out : List ℕ) (R : Reaches c out) (h : 0 < c.depth) (lives : Bool) (l : lives ≡ statement_lives c) where
    -- the statement of the innermost block, by what the indent was
    said : (p : Sofar) (M : Means c p) (I : Innermost c p) (r : Result ℕ Unread) → Indents t at end stop c.depth lives r
        → hears whole (indent (suc (length I.blocks)) (statement_line p)) ws ≡ onward r λ q. hears whole (statement_line p) (words_from t q end)
    unfolding Indents
    said p M I r i =
        subst (λ (d : ℕ). hears whole (indent d (statement_line p)) ws ≡ onward r λ q. hears whole (statement_line p) (words_from t q end))
        I.depth (i (statement_line p) (sym (l ∙ statement_lives_lem c p M)))

    -- a statement's line
    pub line_statement : (q : ℕ) → Indents t at end stop c.depth lives (Ok q) → Blank t at end c.depth (Ok q) → (r : Result Standing Unread) (after : List ℕ)
        → ReadsLine t q end stop (only statement_line) c out r after → AnyLine r after
    unfolding ReadsLine
    line_statement q i b r after reads p₀ D M s =
        let X : Reached c out p₀ = R p₀ M in
        let p : Sofar = X.program in
        let I : Innermost c p = innermost c p X.means h in
        let blank : ws ≡ blanks (suc (length I.blocks)) (words_from t q end) = subst (λ (d : ℕ). ws ≡ blanks d (words_from t q end)) I.depth b in
        let is : hears_one whole (lines (sofar p₀)) ws ≡ hears_one whole (only statement_line p) (words_from t q end) =
        X.same ∙ a_statement whole p I.block I.blocks I.are ws (words_from t q end) blank (said p X.means I (Ok q) i) in
        subst (λ (k : Hearing Sofar). LineAs k D r after) (sym is) (reads p D X.means (X.stand D s))

    -- an unfinished line that begins one
    pub line_begun : Indents t at end stop c.depth lives (Err Begun) → (after : List ℕ) → AnyLine (Err Begun) after
    unfolding ReadsLine LineAs
    line_begun i after p₀ D M s =
        let X : Reached c out p₀ = R p₀ M in
        let I : Innermost c X.program = innermost c X.program X.means h in
        X.same ∙ a_start whole X.program I.block I.blocks I.are ws (said X.program X.means I (Err Begun) i)

    module _ (i : Indents t at end stop c.depth lives (Err Not)) where
      -- the else that is due
      pub line_else : (innermost_open c).due ≡ true → (r : Result Standing Unread) (after : List ℕ)
          → ReadsLine t at end stop (only else_line) c out r after → AnyLine r after
      unfolding ReadsLine
      line_else d r after reads p₀ D M s =
          let X : Reached c out p₀ = R p₀ M in
          let p : Sofar = X.program in
          let I : Innermost c p = innermost c p X.means h in
          let is : hears_one whole (lines (sofar p₀)) ws ≡ hears_one whole (only else_line p) ws =
          X.same ∙ an_else whole p I.block I.blocks I.are ws (said p X.means I (Err Not) i) (sym I.due ∙ d) in
          subst (λ (k : Hearing Sofar). LineAs k D r after) (sym is) (reads p D X.means (X.stand D s))

      -- the innermost block has ended
      pub reached_more : (innermost_open c).due ≡ false → (after : List ℕ) → Closes c out after → (state : Standing) → state ≡ closed_of c
          → Reaches state after
      unfolding Closes
      reached_more d after closes state f p₀ M =
          let X : Reached c out p₀ = R p₀ M in
          let p : Sofar = X.program in
          let I : Innermost c p = innermost c p X.means h in
          let q : Sofar = ended whole p I.block I.blocks I.are ws in
          record {
            program = q;
            means = subst (λ (x : Standing). Means x q) (sym f)
                (means_closed c p I.block I.blocks X.means I.are (sym I.due ∙ d));
            same = X.same ∙ an_end whole p I.block I.blocks I.are ws (said p X.means I (Err Not) i) (sym I.due ∙ d);
            stand = λ D s. closes p I.block I.blocks D [] X.means I.are (X.stand D s ∙ ap (sets D 6) (sym (append-nil (laid p))))
                ∙ ap (λ (b : List ℕ). sets D 6 (outside I.blocks ++ (I.block.before ++ b))) (append-nil (sized p.bytes));
          }

  -- outside blocks
  pub line_top : (c : Standing) (out : List ℕ) → Reaches c out → c.depth ≡ 0 → (r : Result Standing Unread) (after : List ℕ)
      → ReadsLine t at end stop tops_of c out r after → AnyLine r after
  unfolding ReadsLine
  line_top c out R h r after reads p₀ D M s =
      let X : Reached c out p₀ = R p₀ M in
      let p : Sofar = X.program in
      let is : hears_one whole (lines (sofar p₀)) ws ≡ hears_one whole (tops_of p) ws =
      X.same ∙ ap (λ (os : List Opened). hears_one whole (lines_after p.scope p.after os p.bytes) ws) (none_open c p X.means h) in
      subst (λ (k : Hearing Sofar). LineAs k D r after) (sym is) (reads p D X.means (X.stand D s))

  -- a line after the first is any line, and so is the first
  pub any_line : from.started ≡ true → (r : Result Standing Unread) (after : List ℕ) → ReadsLine t at end stop lines_of from entry r after
      → ReadsAny t at end stop from entry r after
  unfolding ReadsAny ReadsLine
  any_line h r after f σ D S s =
      let P : (p : Sofar) × (σ ≡ sofar p) × Means from p = some_program from σ S h in
      subst (λ (τ : State). LineAs (hears_one whole (lines τ) ws) D r after) (sym P.1)
      (f P.0 D P.2 (s ∙ ap (λ (τ : State). sets D 6 (laid_at τ)) P.1))

  pub first_any : from.started ≡ false → (r : Result Standing Unread) → FirstLine t at end stop r → ReadsAny t at end stop from entry r entry
  unfolding ReadsAny FirstLine
  first_any h r f σ D S s =
      let P : (σ ≡ fresh) × (from ≡ fresh_of) = no_program from σ S h in
      subst (λ (τ : State). LineAs (hears_one whole (lines τ) ws) D r entry) (sym P.0)
      (f D entry (s ∙ ap (λ (τ : State). sets D 6 (laid_at τ)) P.0))
