-- The else of the innermost block, where one is due: its indent and its word; then the block's length word is put, and an empty one behind it.
use mathlib.Core.Bool.{Bool, true}
use mathlib.Core.List.{List, [], ◌∷◌, ◌++◌, append_assoc, append-nil}
use mathlib.Core.Option.{some}
use mathlib.Core.Path.{◌≡◌, refl, sym, ap, ◌∙◌}
use native.Mathlib.Omega.{arith}
use Prim.Native.Nat.{ℕ, ◌+◌, ◌-◌, ◌<◌, ◌≤◌}
use lib.Dec.{ltb}
use lib.ListN.{length, length-append}
use lib.Seq.{sets}
use Rattle.std.specs.Prelude.{Result}
use Rattle.rules.specs.Basics.{chosen}
use Rattle.rules.specs.Words.{Text}
use Rattle.rules.specs.Names.{else}
use Rattle.rules.specs.Grammar.{stop, word}
use Rattle.rules.specs.Unlisting.{Opened, Sofar, sized, indent, else_begun}
use Rattle.reading.specs.Cursor.{words_from}
use Rattle.reading.specs.Hearing.{hears, hears_one, onward, Expects, Indents}
use Rattle.reading.specs.declared.cursor.Unread.{Unread}
use Rattle.reading.proofs.Hearings.{hears_one_lem}
use Rattle.standing.specs.declared.state.Standing.{Standing}
use Rattle.standing.specs.Numbers.{turned_of}
use Rattle.standing.specs.Means.{outside, laid, Means}
use Rattle.standing.proofs.Meaning.{means_turned, outside_owed, block_used, block_owed, block_depth, sets_behind}
use Rattle.stating.specs.Statements.{only}
use Rattle.unlisting.specs.Lines.{Closes, else_after, else_line}
use Rattle.unlisting.proofs.Closing.{innermost, innermost_open, block_due}

-- its length word is owed
pub due_owed : (c : Standing) (p : Sofar) → Means c p → 0 < c.depth → (innermost_open c).due ≡ true → 2 ≤ c.owed
due_owed c p m l u =
    let i : (b : Opened) × (bs : List Opened) × (p.open_blocks ≡ b ∷ bs) = innermost c p m l in
    let z : chosen {A = ℕ} i.0.due 2 0 ≡ 2 = ap (λ (x : Bool). chosen x 2 0) (sym (block_due c p i.0 i.1 m i.2) ∙ u) in
    omega (arith, block_used c p i.0 i.1 m i.2, block_owed c p i.0 i.1 m i.2, outside_owed i.1)

module _ (c : Standing) (l : 0 < c.depth) (p : Sofar) (m : Means c p) where
  abbrev block : Opened
  block = (innermost c p m l).0

  abbrev outer : List Opened
  outer = (innermost c p m l).1

  abbrev are : p.open_blocks ≡ block ∷ outer
  are = (innermost c p m l).2

  abbrev pub turned : Sofar
  turned = else_begun p.scope p.after block outer p.bytes

  -- what is heard of the line
  module _ (t : Text) (at end full : ℕ) where
    pub indent_heard : (r : Result ℕ Unread) → Indents t at end full (c.depth - 1) true r
        → hears_one (ltb end full) (only else_line p) (words_from t at end)
        ≡ onward r λ q. hears (ltb end full) (word else (stop (some turned))) (words_from t q end)
    unfolding Indents
    indent_heard r x =
        let d : c.depth - 1 ≡ length outer = omega (arith, block_depth c p block outer m are) in
        hears_one_lem (ltb end full) (else_line p) (words_from t at end)
        ∙ ap (λ (os : List Opened). hears (ltb end full) (else_after p.scope p.after os p.bytes) (words_from t at end)) are
        ∙ ap (λ (n : ℕ). hears (ltb end full) (indent n (word else (stop (some turned)))) (words_from t at end)) (sym d)
        ∙ x (word else (stop (some turned))) refl

    pub else_heard : (r : Result ℕ Unread) → Expects t at end full else true r
        → hears (ltb end full) (word else (stop (some turned))) (words_from t at end)
        ≡ onward r λ q. hears (ltb end full) (stop (some turned)) (words_from t q end)
    unfolding Expects
    else_heard r x = x (stop (some turned)) refl

  pub turned_means : (innermost_open c).due ≡ true → Means (turned_of c) turned
  turned_means due = means_turned c p block outer m are (sym (block_due c p block outer m are) ∙ due)

  pub turned_laid : (D before closed after : List ℕ) → before ≡ sets D 6 (laid p) → Closes c before closed → after ≡ sets closed c.used (0 ∷ 0 ∷ [])
      → after ≡ sets D 6 (laid turned)
  unfolding Closes
  turned_laid D before closed after b k e =
      let X : List ℕ = outside outer ++ (block.before ++ sized p.bytes) in
      let long : c.used ≡ 6 + length X =
      block_used c p block outer m are
      ∙ omega (arith, length-append (outside outer) (block.before ++ sized p.bytes), length-append block.before (sized p.bytes)) in
      let closes : closed ≡ sets D 6 X =
      k p block outer D [] m are (b ∙ ap (sets D 6) (sym (append-nil (laid p))))
      ∙ ap (λ (Y : List ℕ). sets D 6 (outside outer ++ (block.before ++ Y))) (append-nil (sized p.bytes)) in
      e ∙ ap (λ (E : List ℕ). sets E c.used (0 ∷ 0 ∷ [])) closes ∙ ap (λ (j : ℕ). sets (sets D 6 X) j (0 ∷ 0 ∷ [])) long
      ∙ sets_behind D 6 X (0 ∷ 0 ∷ [])
      ∙ ap (sets D 6) (append_assoc (outside outer) (block.before ++ sized p.bytes) (0 ∷ 0 ∷ [])
      ∙ sym (append-nil (outside outer ++ ((block.before ++ sized p.bytes) ++ (0 ∷ 0 ∷ [])))))
