-- What a line is, from what its words were found to be: one word after another, and then it must end. What was not read of it is passed on.
use Rattle.std.proofs.Common.{ℕ, ◌<◌, ◌≤◌, ◌≡◌, Bool, true, false, ltb, refl, sym, ap, ◌∙◌, List, Result, Ok, Err, arith}
use Rattle.std.specs.Prelude.{IsErrAnd}
use borrow.Author.Tests.{lt-ltb, ltb-true, ltb-false}
use Rattle.std.proofs.Math.Option.{some}
use Rattle.std.proofs.lemmas.List.Edits.{sets}
use Rattle.rules.specs.Basics.{chosen}
use Rattle.rules.specs.Words.{Text}
use Rattle.rules.specs.Grammar.{stop}
use Rattle.rules.specs.Unlisting.{Sofar}
use Rattle.reading.specs.Cursor.{words_from}
use Rattle.reading.specs.Hearing.{Hearing, took, hears, unread, onward}
use Rattle.reading.proofs.Hearings.{hears_end, hears_more}
use Rattle.reading.proofs.Spellings.{no_words, some_words}
use Rattle.reading.specs.declared.cursor.Unread.{Unread}
use Rattle.reading.specs.declared.cursor.Unread.TheVariants.{Not}
use Rattle.standing.specs.declared.state.Standing.{Standing}
use Rattle.standing.specs.Means.{laid, Means}
use Rattle.stating.specs.Statements.{LineAs}

-- a `?` passes on what was not read
pub onward_unread : {X : Type 0} (h : Hearing Sofar) (e : Unread) (r : Result X Unread) (k : X → Hearing Sofar) → IsErrAnd r (λ x. x ≡ e) → h ≡ unread e
    → h ≡ onward r k
onward_unread h e (Ok x) k i q = absurd i
onward_unread h e (Err x) k i q = q ∙ ap unread (sym i)

module _ (h : Hearing Sofar) (D after : List ℕ) where
  pub line_unread : (e : Unread) (r : Result Standing Unread) → IsErrAnd r (λ x. x ≡ e) → h ≡ unread e → LineAs h D r after
  unfolding LineAs
  line_unread e (Ok c) i q = absurd i
  line_unread e (Err x) i q = q ∙ ap unread (sym i)

  pub line_taken : (c : Standing) (p : Sofar) → h ≡ took p → Means c p → after ≡ sets D 6 (laid p) → LineAs h D (Ok c) after
  unfolding LineAs
  line_taken c p is m s = record { program = p; is = is; means = m; stand = s }

-- the line must end here: past its last word it is whole, since that stands before its newline
pub ends_heard : (t : Text) (at end full : ℕ) (p : Sofar) (r : Result (Unit {0}) Unread) → r ≡ chosen (ltb end at) (Ok tt) (Err Not) → at ≤ full
    → hears (ltb end full) (stop (some p)) (words_from t at end) ≡ onward r λ _. took p
ends_heard t at end full p r e l = go (ltb end at) refl ∙ ap (λ (x : Result (Unit {0}) Unread). onward x λ _. took p) (sym e)
  where
    heard : Hearing Sofar
    heard = hears (ltb end full) (stop (some p)) (words_from t at end)

    said : Bool → Hearing Sofar
    said b = onward {X = Unit {0}} (chosen b (Ok tt) (Err Not)) λ _. took p

    go : (b : Bool) → ltb end at ≡ b → heard ≡ said (ltb end at)
    go true b =
        let past : end < at = ltb-true end at b in
        ap (λ (whole : Bool). hears whole (stop (some p)) (words_from t at end)) (lt-ltb end full (omega arith))
        ∙ ap (hears true (stop (some p))) (no_words t at end past) ∙ hears_end p ∙ ap said (sym b)
    go false b =
        let more = some_words t at end (ltb-false end at b) in
        ap (hears (ltb end full) (stop (some p))) more.2 ∙ hears_more (ltb end full) (some p) more.0 more.1 ∙ ap said (sym b)
