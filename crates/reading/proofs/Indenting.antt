-- The indent of a depth as so many empty words: each is expected in turn, and what was read so far are empty words before those that are left.
use mathlib.Core.Bool.{Bool, true, false}
use mathlib.Core.List.{List, [], ◌∷◌}
use mathlib.Core.Path.{◌≡◌, refl, sym, ap, ◌∙◌}
use native.Mathlib.Omega.{arith}
use Prim.Native.Nat.{ℕ, zero, suc, ◌+◌, ◌-◌, ◌*◌, ◌<◌, ◌≤◌}
use borrow.Author.Tests.{ltb-true, ltb-false}
use lib.Dec.{ltb}
use lib.ListN.{get_or, length, take, drop}
use lib.Seq.{drop-cons}
use Rattle.std.specs.Prelude.{Ok, Err}
use Rattle.rules.specs.Basics.{chosen}
use Rattle.rules.specs.Words.{Text}
use Rattle.rules.specs.Grammar.{Grammar, word, live}
use Rattle.rules.specs.Unlisting.{Sofar, indent}
use Rattle.reading.specs.Cursor.{part, words_from}
use Rattle.reading.specs.Hearing.{Hearing, not, begun, hears, Further, NextWord, Indents, Blank, blanks}
use Rattle.reading.specs.declared.cursor.Unread.TheVariants.{Not, Begun}
use Rattle.reading.specs.declared.cursor.Next.TheVariants.{Nothing, Unfinished, To}
use Rattle.reading.proofs.Hearings.{hears_nothing, hears_word, hears_other, hears_word_begun, live_word}

-- n empty words, then others
abbrev pub empties : ℕ → List Text → List Text
empties zero ws = ws
empties (suc n) ws = [] ∷ empties n ws

pub one_more : (n : ℕ) (ws : List Text) → empties n ([] ∷ ws) ≡ empties (suc n) ws
one_more zero ws = refl
one_more (suc n) ws = ap (λ (v : List Text). [] ∷ v) (one_more n ws)

pub blanks_are : (d n : ℕ) (ws : List Text) → n ≡ 2 * d → empties n ws ≡ blanks d ws
blanks_are zero zero ws e = refl
blanks_are zero (suc n) ws e = absurd (omega arith)
blanks_are (suc d) zero ws e = absurd (omega arith)
blanks_are (suc d) (suc zero) ws e = absurd (omega arith)
blanks_are (suc d) (suc (suc n)) ws e = ap (λ (v : List Text). [] ∷ [] ∷ v) (blanks_are d n ws (omega arith))

-- no characters, and some
pub part_none : (t : Text) (i : ℕ) → part t i i ≡ []
unfolding part
part_none t i = let z : i - i ≡ 0 = omega arith in ap (λ (n : ℕ). take n (drop i t)) z

pub part_some : (t : Text) (i j : ℕ) → i < j → j ≤ length t → part t i j ≡ get_or t i 0 ∷ part t (suc i) j
unfolding part
part_some t i j h l =
    let z : j - i ≡ suc (j - suc i) = omega arith in
    ap (λ (n : ℕ). take n (drop i t)) z ∙ ap (take (suc (j - suc i))) (drop-cons t i 0 (omega arith))

module _ {A : Type 0} where
  -- m empty words are expected before g
  abbrev pub awaits : ℕ → Grammar A → Grammar A
  awaits zero g = g
  awaits (suc m) g = word [] (awaits m g)

  pub awaits_indent : (d m : ℕ) (g : Grammar A) → m ≡ 2 * d → awaits m g ≡ indent d g
  awaits_indent zero zero g e = refl
  awaits_indent zero (suc m) g e = absurd (omega arith)
  awaits_indent (suc d) zero g e = absurd (omega arith)
  awaits_indent (suc d) (suc zero) g e = absurd (omega arith)
  awaits_indent (suc d) (suc (suc m)) g e = ap (λ (h : Grammar A). word [] (word [] h)) (awaits_indent d m g (omega arith))

  live_awaits : (m : ℕ) (g : Grammar A) → live (awaits m g) ≡ live g
  live_awaits zero g = refl
  live_awaits (suc m) g = live_word [] (awaits m g) ∙ live_awaits m g

  -- with at least one still expected: no word is left, an empty one stands there, or another
  pub awaits_nothing : (whole : Bool) (m : ℕ) (g : Grammar A) → 0 < m → hears whole (awaits m g) [] ≡ not
  awaits_nothing whole zero g h = absurd (omega arith)
  awaits_nothing whole (suc m) g h = hears_nothing whole ([] ∷ []) (λ i. awaits m g)

  pub awaits_empty : (whole : Bool) (m : ℕ) (g : Grammar A) (ws : List Text) → 0 < m → Further whole ws
      → hears whole (awaits m g) ([] ∷ ws) ≡ hears whole (awaits (m - 1) g) ws
  awaits_empty whole zero g ws h f = absurd (omega arith)
  awaits_empty whole (suc m) g ws h f =
      let z : suc m - 1 ≡ m = omega arith in
      hears_word whole [] (awaits m g) [] ws f refl ∙ ap (λ (n : ℕ). hears whole (awaits n g) ws) (sym z)

  pub awaits_other : (whole : Bool) (m : ℕ) (g : Grammar A) (x : ℕ) (w : Text) (ws : List Text) → 0 < m → Further whole ws
      → hears whole (awaits m g) ((x ∷ w) ∷ ws) ≡ not
  awaits_other whole zero g x w ws h f = absurd (omega arith)
  awaits_other whole (suc m) g x w ws h f = hears_other whole [] (awaits m g) (x ∷ w) ws f refl

  pub awaits_begun : (m : ℕ) (g : Grammar A) → 0 < m → hears false (awaits m g) ([] ∷ []) ≡ chosen (live g) begun not
  awaits_begun zero g h = absurd (omega arith)
  awaits_begun (suc m) g h =
      hears_word_begun [] (awaits m g) [] ∙ ap (λ (b : Bool). chosen {A = Hearing A} b begun not) (live_awaits m g)

  pub awaits_no_start : (m : ℕ) (g : Grammar A) (x : ℕ) (w : Text) → 0 < m → hears false (awaits m g) ((x ∷ w) ∷ []) ≡ not
  awaits_no_start zero g x w h = absurd (omega arith)
  awaits_no_start (suc m) g x w h = hears_word_begun [] (awaits m g) (x ∷ w)

-- n empty words were read, up to p
module _ (t : Text) (at end stop depth : ℕ) where
  pub record Passed (p n : ℕ) : Type 0 where
    pub from : at ≤ p
    pub within : p ≤ stop
    pub few : n ≤ 2 * depth
    pub blank : words_from t at end ≡ empties n (words_from t p end)
    pub same : (g : Grammar Sofar)
        → hears (ltb end stop) (indent depth g) (words_from t at end) ≡ hears (ltb end stop) (awaits (2 * depth - n) g) (words_from t p end)

  pub passed_none : at ≤ stop → Passed at 0
  passed_none h = record {
    from = omega arith;
    within = h;
    few = omega arith;
    blank = refl;
    same = λ g. ap (λ (k : Grammar Sofar). hears (ltb end stop) k (words_from t at end)) (sym (awaits_indent depth (2 * depth - 0) g (omega arith)));
  }

  module _ (p n : ℕ) (P : Passed p n) (l : n < 2 * depth) where
    pub passed_more : (to : ℕ) → NextWord t p end stop (To to) → to ≤ p → Passed (to + 1) (n + 1)
    passed_more to h m =
        let f : to ≡ p = omega (arith, h.2) in
        let b : part t p to ≡ [] = ap (part t p) f ∙ part_none t p in
        let ws : words_from t p end ≡ [] ∷ words_from t (to + 1) end = h.0 ∙ ap (λ (u : Text). u ∷ words_from t (to + 1) end) b in
        let n₁ : suc n ≡ n + 1 = omega arith in
        let less : 2 * depth - n - 1 ≡ 2 * depth - (n + 1) = omega arith in
        record {
          from = omega (arith, P.from);
          within = omega (arith, h.4);
          few = omega arith;
          blank = P.blank ∙ ap (empties n) ws ∙ one_more n (words_from t (to + 1) end) ∙ ap (λ (k : ℕ). empties k (words_from t (to + 1) end)) n₁;
          same = λ g. P.same g ∙ ap (hears (ltb end stop) (awaits (2 * depth - n) g)) ws
              ∙ awaits_empty (ltb end stop) (2 * depth - n) g (words_from t (to + 1) end) (omega arith) h.1
              ∙ ap (λ (k : ℕ). hears (ltb end stop) (awaits k g) (words_from t (to + 1) end)) less;
        }

    -- what is heard where it ends with n words read
    heard : (g : Grammar Sofar) (ws : List Text) (h : Hearing Sofar) → words_from t p end ≡ ws
        → hears (ltb end stop) (awaits (2 * depth - n) g) ws ≡ h → hears (ltb end stop) (indent depth g) (words_from t at end) ≡ h
    heard g ws h e q = P.same g ∙ ap (hears (ltb end stop) (awaits (2 * depth - n) g)) e ∙ q

    module _ (lives : Bool) where
      pub indents_nothing : NextWord t p end stop Nothing → Indents t at end stop depth lives (Err Not)
      unfolding Indents
      indents_nothing h g k = heard g [] not h (awaits_nothing (ltb end stop) (2 * depth - n) g (omega arith))

      pub indents_other : end ≤ length t → (to : ℕ) → NextWord t p end stop (To to) → p < to → Indents t at end stop depth lives (Err Not)
      unfolding Indents
      indents_other b to h m g k =
          let s : part t p to ≡ get_or t p 0 ∷ part t (suc p) to = part_some t p to (omega arith) (omega (arith, h.3)) in
          heard g ((get_or t p 0 ∷ part t (suc p) to) ∷ words_from t (to + 1) end) not (h.0 ∙ ap (λ (u : Text). u ∷ words_from t (to + 1) end) s)
          (awaits_other (ltb end stop) (2 * depth - n) g (get_or t p 0) (part t (suc p) to) (words_from t (to + 1) end) (omega arith) h.1)

      -- the line is unfinished, and all of it is blank
      blank_start : NextWord t p end stop Unfinished → p ≡ end → (g : Grammar Sofar) → live g ≡ lives
          → hears (ltb end stop) (indent depth g) (words_from t at end) ≡ chosen lives begun not
      blank_start h z g k =
          let s : part t p end ≡ [] = ap (λ (i : ℕ). part t i end) z ∙ part_none t end in
          heard g ([] ∷ []) (chosen lives begun not) (h.0 ∙ ap (λ (u : Text). u ∷ []) s)
          (ap (λ (v : Bool). hears v (awaits (2 * depth - n) g) ([] ∷ [])) h.1 ∙ awaits_begun (2 * depth - n) g (omega arith)
          ∙ ap (λ (v : Bool). chosen {A = Hearing Sofar} v begun not) k)

      -- it is unfinished, and not blank
      no_start : end ≤ length t → NextWord t p end stop Unfinished → p < end → (g : Grammar Sofar)
          → hears (ltb end stop) (indent depth g) (words_from t at end) ≡ not
      no_start b h m g =
          let s : part t p end ≡ get_or t p 0 ∷ part t (suc p) end = part_some t p end m b in
          heard g ((get_or t p 0 ∷ part t (suc p) end) ∷ []) not (h.0 ∙ ap (λ (u : Text). u ∷ []) s)
          (ap (λ (v : Bool). hears v (awaits (2 * depth - n) g) ((get_or t p 0 ∷ part t (suc p) end) ∷ [])) h.1
          ∙ awaits_no_start (2 * depth - n) g (get_or t p 0) (part t (suc p) end) (omega arith))

      pub indents_begun : NextWord t p end stop Unfinished → p ≡ end → lives ≡ true → Indents t at end stop depth lives (Err Begun)
      unfolding Indents
      indents_begun h m v g k = blank_start h m g k ∙ ap (λ (b : Bool). chosen {A = Hearing Sofar} b begun not) v

      pub indents_not : end ≤ length t → NextWord t p end stop Unfinished → (p ≡ end → lives ≡ false) → Indents t at end stop depth lives (Err Not)
      unfolding Indents
      indents_not b h v g k = go (ltb p end) refl
        where
          go : (x : Bool) → ltb p end ≡ x → hears (ltb end stop) (indent depth g) (words_from t at end) ≡ not
          go true e = no_start b h (ltb-true p end e) g
          go false e =
              let z : p ≡ end = omega (arith, h.2, ltb-false p end e) in
              blank_start h z g k ∙ ap (λ (c : Bool). chosen {A = Hearing Sofar} c begun not) (v z)

  -- all are read
  module _ (p n : ℕ) (P : Passed p n) (l : 2 * depth ≤ n) where
    pub indents_at : (lives : Bool) → Indents t at end stop depth lives (Ok p)
    unfolding Indents
    indents_at lives g k =
        let z : 2 * depth - n ≡ 0 = omega arith in
        P.same g ∙ ap (λ (m : ℕ). hears (ltb end stop) (awaits m g) (words_from t p end)) z

    pub blank_at : Blank t at end depth (Ok p)
    blank_at = P.blank ∙ blanks_are depth n (words_from t p end) (omega (arith, P.few))
