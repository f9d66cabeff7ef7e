-- A call's lists behind its operands: where there is room for them, the callee's locations and then its arguments.
use mathlib.Core.Bool.{Bool, true, false}
use mathlib.Core.List.{List, [], ◌∷◌, ◌++◌}
use mathlib.Core.Option.{some}
use mathlib.Core.Path.{◌≡◌, refl, sym, ap, subst, ◌∙◌}
use native.Mathlib.Omega.{arith}
use Prim.Native.Nat.{ℕ, zero, suc, ◌+◌}
use lib.Dec.{ltb}
use lib.ListN.{replicate}
use Rattle.std.specs.Prelude.{Result, Ok, Err}
use Rattle.rules.specs.declared.statements.Operand.TheVariants.{Slot, Location, CalleeK, CalleeM}
use Rattle.rules.specs.Names as names
use Rattle.rules.specs.Words.{Text}
use Rattle.rules.specs.Table.{calls}
use Rattle.rules.specs.Grammar.{Grammar, dead, stop, live}
use Rattle.rules.specs.Unlisting.{Sofar, added, others, list, made}
use Rattle.reading.specs.Cursor.{words_from}
use Rattle.reading.specs.Hearing.{not, took, hears}
use Rattle.standing.specs.Numbers.{room_of, unwritten_of}
use Rattle.standing.specs.Means.{Means}
use Rattle.stating.specs.Statements.{Took-bytes, ReadsList, ReadsLists}
use Rattle.standing.specs.declared.state.Standing.{Standing}
use Rattle.reading.specs.declared.cursor.Unread.{Unread}
use Rattle.reading.specs.declared.cursor.Unread.TheVariants.{Not}
use Rattle.reading.proofs.Hearings.{live_word}
use Rattle.stating.proofs.Listed.{live_numbers, took_same, took_then}
use Rattle.standing.proofs.Lives.{room_is}

-- nothing goes on from here
pub hears_dead : (whole : Bool) (ws : List Text) → hears {A = Sofar} whole dead ws ≡ not
unfolding hears
hears_dead true [] = refl
hears_dead true (w ∷ ws) = refl
hears_dead false ws = refl

-- a call's byte and operands
abbrev pub call_bytes : ℕ → ℕ → ℕ → List ℕ
call_bytes f k m = 12 ∷ f ∷ k ∷ m ∷ []

-- the line behind the operands, where there is room
abbrev slots : Sofar → List ℕ → ℕ → List ℕ → Grammar Sofar
slots p bs m ls = list p.scope names.with Slot m λ xs. stop (some (added p (bs ++ (ls ++ xs))))

abbrev call_line : Sofar → List ℕ → ℕ → ℕ → Grammar Sofar
call_line p bs k m = list p.scope names.at Location k (slots p bs m)

slots_live : (p : Sofar) (bs : List ℕ) (m : ℕ) (ls : List ℕ) → live (slots p bs m ls) ≡ true
slots_live p bs zero ls = refl
slots_live p bs (suc m) ls =
    let k : List ℕ → Grammar Sofar = λ xs. stop (some (added p (bs ++ (ls ++ xs)))) in
    live_word names.with (others p.scope 0 (replicate (suc m) Slot) k) ∙ live_numbers p.scope Slot refl (suc m) k (omega arith) (λ xs. refl)

-- by whether there is room
abbrev in_room : Sofar → ℕ → ℕ → ℕ → Bool → Grammar Sofar
in_room p f k m b = elim b [ true ↦ call_line p (call_bytes f k m) k m | false ↦ dead ]

room_made : (c : Standing) (p : Sofar) (f k m : ℕ) (b : Bool) → Means c p → room_of c (4 + k + m) ≡ b
    → made p calls (call_bytes f k m) ≡ in_room p f k m b
room_made c p f k m b mean e = ap (in_room p f k m) (sym (room_is c p mean (4 + k + m)) ∙ e)

-- a call that is taken had room
pub call_room : (c : Standing) (p : Sofar) (f k m : ℕ) (whole : Bool) (ws : List Text) (q : Sofar) → Means c p
    → hears whole (made p calls (call_bytes f k m)) ws ≡ took q → room_of c (4 + k + m) ≡ true
call_room c p f k m whole ws q mean e = go (room_of c (4 + k + m)) refl
  where
    go : (b : Bool) → room_of c (4 + k + m) ≡ b → b ≡ true
    go true r = refl
    go false r =
        let dry : hears whole (made p calls (call_bytes f k m)) ws ≡ not =
        ap (λ (g : Grammar Sofar). hears whole g ws) (room_made c p f k m false mean r) ∙ hears_dead whole ws in
        let z : ◌≡◌ {A = ℕ} 0 1 = cc in
        absurd (omega arith)

module _ (t : Text) (at end stop' first : ℕ) (c : Standing) (before : List ℕ) where
  -- what a call's lists are, its bytes being bs
  abbrev ListsTook : Sofar → ℕ → ℕ → List ℕ → Result ℕ Unread → List ℕ → Type 0
  ListsTook p k m bs r after = Took-bytes (hears (ltb end stop') (made p calls bs) (words_from t at end)) before (c.used + 4)
      (λ xs q. hears (ltb end stop') (stop (some (added p (bs ++ xs)))) (words_from t q end)) (k + m) r after

  module _ (k m places : ℕ) (ek : k ≡ unwritten_of c CalleeK first) (em : m ≡ unwritten_of c CalleeM first) (ep : places ≡ c.places) where
    lists_are : (r : Result ℕ Unread) (after : List ℕ) → ((p : Sofar) → Means c p → ListsTook p k m (call_bytes first k m) r after)
        → ReadsLists t at end stop' first c before r after
    unfolding ReadsLists
    lists_are r after h p mean bs e =
        subst (λ (x : List ℕ). ListsTook p (unwritten_of c CalleeK first) (unwritten_of c CalleeM first) x r after) (sym e)
        (subst (λ (x : ℕ). ListsTook p (unwritten_of c CalleeK first) x (call_bytes first (unwritten_of c CalleeK first) x) r after) em
        (subst (λ (x : ℕ). ListsTook p x m (call_bytes first x m) r after) ek (h p mean)))

    pub lists_full : (after : List ℕ) → room_of c (4 + k + m) ≡ false → ReadsLists t at end stop' first c before (Err Not) after
    unfolding Took-bytes
    lists_full after e = lists_are (Err Not) after λ p mean. ap (λ (g : Grammar Sofar). hears (ltb end stop') g (words_from t at end))
        (room_made c p first k m false mean e)
        ∙ hears_dead (ltb end stop') (words_from t at end)

    -- the locations
    locations_read : (p : Sofar) → Means c p → room_of c (4 + k + m) ≡ true → (r : Result ℕ Unread) (mid : List ℕ)
        → ReadsList t at end stop' names.at k places (c.used + 4) before r mid
        → Took-bytes (hears (ltb end stop') (made p calls (call_bytes first k m)) (words_from t at end)) before (c.used + 4)
        (λ ls q. hears (ltb end stop') (slots p (call_bytes first k m) m ls) (words_from t q end)) k r mid
    unfolding ReadsList
    locations_read p mean e r mid reads =
        took_same _ (hears (ltb end stop') (call_line p (call_bytes first k m) k m) (words_from t at end)) before (c.used + 4) _ k r mid
        (ap (λ (g : Grammar Sofar). hears (ltb end stop') g (words_from t at end)) (room_made c p first k m true mean e))
        (reads p.scope Location (slots p (call_bytes first k m) m) refl (λ x. refl) (sym (ep ∙ mean.places)) (slots_live p (call_bytes first k m) m))

    pub lists_err : (e : Unread) (mid : List ℕ) → room_of c (4 + k + m) ≡ true
        → ReadsList t at end stop' names.at k places (c.used + 4) before (Err e) mid → ReadsLists t at end stop' first c before (Err e) mid
    unfolding Took-bytes
    lists_err e mid h reads = lists_are (Err e) mid λ p mean. locations_read p mean h (Err e) mid reads

    -- and the slots behind them
    pub lists_read : (q : ℕ) (mid : List ℕ) (r : Result ℕ Unread) (after : List ℕ) → room_of c (4 + k + m) ≡ true
        → ReadsList t at end stop' names.at k places (c.used + 4) before (Ok q) mid
        → ReadsList t q end stop' names.with m 32 (c.used + 4 + k) mid r after → ReadsLists t at end stop' first c before r after
    unfolding Took-bytes ReadsList
    lists_read q mid r after e one two = lists_are r after λ p mean.
        took_then _ before (c.used + 4) (λ ls. hears (ltb end stop') (slots p (call_bytes first k m) m ls) (words_from t q end)) _ k m mid r after
        (locations_read p mean e (Ok q) mid one)
        λ ls. two p.scope Slot (λ xs. stop (some (added p (call_bytes first k m ++ (ls ++ xs))))) refl (λ x. refl) refl (λ xs. refl)
