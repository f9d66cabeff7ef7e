-- The loop over a block's statements. At a position some of the statements are left to be put; a statement that is put goes from the rest to what is
-- put, and at the block's end there is no rest.
use Rattle.std.proofs.Common.{List, ◌≡◌, ℕ, suc, sym, ap, subst, ◌∙◌, ◌+◌, ◌<◌, ◌≤◌, arith}
use Rattle.rules.specs.Basics.{word}
use Rattle.rules.specs.Syntax.{Side, Statements, Block, block}
use Rattle.rules.specs.Program.{Scope}
use Rattle.rules.specs.Words.{written}
use Rattle.rules.specs.Listing.{statement_lines, statements_lines, block_lines}
use Rattle.program.specs.In.{BlockIn, StatementsIn}
use Rattle.program.proofs.In.{block_in, statements_end, statements_next}
use Rattle.listing.specs.declared.writer.Writer.{Writer}
use Rattle.listing.specs.Puts.{Puts}
use Rattle.listing.specs.Blocks.{BlockHere, StatementHere, BlockPut, StatementPut}
use Rattle.listing.proofs.Putting.{puts_as, Left, left_next, left_none}
use Rattle.listing.proofs.LineLaws.{written_append}

module _ (s : List ℕ) (n : ℕ) where
  -- the statements from one position to a block's end, whichever they are, were put by a, up to another position and to where b is
  pub record Along (from stop : ℕ) (a : Writer) (p : ℕ) (b : Writer) : Type 0 where
    pub along : (d : Side) (S : Scope) (depths : ℕ) (ts : Statements d) → StatementsIn s S depths from stop ts
        → (rest : Statements d) × StatementsIn s S depths p stop rest
        × Left a (written (statements_lines s n ts)) b (written (statements_lines s n rest))

  -- the statements of a block that ends at r
  inside : {d : Side} {S : Scope} {depths i q : ℕ} {x : Block d} (r : ℕ) → r ≡ i + 2 + word s i → BlockIn s S depths i x q
      → (ts : Statements d) × (k : ℕ) × (x ≡ block i ts) × (depths ≡ suc k) × (q ≡ r) × StatementsIn s S k (i + 2) r ts
  inside {S = S} {i = i} {q = q} r e h =
      let b = block_in h in
      let f : q ≡ r = b.4 ∙ sym e in
      (b.0, b.1, b.2, b.3, f, subst (λ (j : ℕ). StatementsIn s S b.1 (i + 2) j b.0) f b.6)

  module _ {a b : Writer} where
    pub along_next : (i stop p : ℕ) → BlockHere s n i → stop ≡ i + 2 + word s i → Along (i + 2) stop a p b → p < stop → StatementHere s n p
    along_next i stop p h f g l =
        let k = inside stop f h.stands in
        let r = g.along h.side h.scope k.1 k.0 k.5 in
        let m = statements_next r.1 l in
        record {
          side = h.side;
          scope = h.scope;
          depths = k.1;
          tree = m.0;
          past = m.1;
          stands = m.4;
          shallow = omega (arith, h.shallow, k.3);
          size = h.size;
        }

    pub along_step : {c : Writer} (from stop p r : ℕ) → Along from stop a p b → p < stop → StatementPut s n p b r c → Along from stop a r c
    along_step {c = c} from stop p r g l h = record { along = step }
      where
        step : (d : Side) (S : Scope) (depths : ℕ) (ts : Statements d) → StatementsIn s S depths from stop ts
            → (rest : Statements d) × StatementsIn s S depths r stop rest
            × Left a (written (statements_lines s n ts)) c (written (statements_lines s n rest))
        step d S depths ts k =
            let i = g.along d S depths ts k in
            let m = statements_next i.1 l in
            let u = h.statement d S depths m.0 m.1 m.4 in
            let f = ap (λ y. written (statements_lines s n y)) m.3 ∙ written_append (statement_lines s n m.0) (statements_lines s n m.2) in
            (m.2, subst (λ (j : ℕ). StatementsIn s S depths j stop m.2) (sym u.0) m.5, left_next i.2 f u.1)

    pub along_end : (i stop p : ℕ) → stop ≡ i + 2 + word s i → Along (i + 2) stop a p b → stop ≤ p → BlockPut s n i a p b
    along_end i stop p f g l = record { block = end }
      where
        end : (d : Side) (S : Scope) (depths : ℕ) (x : Block d) (q : ℕ) → BlockIn s S depths i x q → (p ≡ q) × Puts a (written (block_lines s n x)) b
        end d S depths x q h =
            let k = inside stop f h in
            let r = g.along d S k.1 k.0 k.5 in
            let z : p ≡ stop = omega (arith, r.1.starts) in
            let none = ap (λ y. written (statements_lines s n y)) (statements_end r.1 z) in
            (z ∙ sym k.4, puts_as (ap (λ y. written (block_lines s n y)) (sym k.2)) (left_none r.2 none))
