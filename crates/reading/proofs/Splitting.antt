-- The first part of a split ends at the first separator, or with the text. From this, where words and lines end, by positions in a text.
use mathlib.Core.Bool.{Bool, true, false, cond, not}
use mathlib.Core.List.{List, [], ◌∷◌}
use mathlib.Core.Path.{◌≡◌, refl, sym, ap, ◌∙◌}
use native.Mathlib.Omega.{arith}
use Prim.Native.Nat.{ℕ, zero, suc, ◌+◌, ◌-◌, ◌<◌, ◌≤◌}
use borrow.Author.Tests.{lt-ltb, le-ltb, ltb-true, ltb-false}
use lib.Dec.{eqb, ltb, leb-suc-suc}
use lib.ListN.{length, take, drop, length-take, length-drop}
use lib.Seq.{take-nil, take-take, take_all, drop-drop}
use Rattle.std.specs.List.{prefix_len}
use Rattle.std.proofs.lemmas.List.Sums.{prefix_len-le-length}
use Rattle.rules.specs.Basics.{chosen}
use Rattle.rules.specs.Words.{Text, space, newline, onto, split}
use Rattle.reading.specs.Cursor.{part, words_from, WordEnd, LineEnd}
use Rattle.reading.proofs.Spellings.{words_in, no_words}

-- where the first part of a split ends
module _ (c : ℕ) where
  abbrev pub first : Text → ℕ
  first u = prefix_len (λ x. not (eqb x c)) u

  abbrev next : Bool → Text → ℕ
  next b u = cond (not b) (1 + first u) 0

  pub first_most : (u : Text) → first u ≤ length u
  first_most u = prefix_len-le-length (λ x. not (eqb x c)) u

  -- the parts where the first ends at n
  abbrev parts : Text → ℕ → List Text
  parts u n = take n u ∷ chosen (ltb n (length u)) (split c (drop (suc n) u)) []

  split_first : (u : Text) → split c u ≡ parts u (first u)
  split_first [] = refl
  split_first (x ∷ u) = go (split_first u) (eqb x c)
    where
      go : split c u ≡ parts u (first u) → (b : Bool) → elim b [ true ↦ [] ∷ split c u | false ↦ onto x (split c u) ] ≡ parts (x ∷ u) (next b u)
      go rest true = ap (λ (b : Bool). [] ∷ chosen b (split c u) []) (sym (lt-ltb 0 (suc (length u)) (omega arith)))
      go rest false =
          let z : 1 + first u ≡ suc (first u) = omega arith in
          ap (onto x) rest
          ∙ ap (λ (b : Bool). (x ∷ take (first u) u) ∷ chosen b (split c (drop (suc (first u)) u)) []) (sym (leb-suc-suc (suc (first u)) (length u)))
          ∙ ap (parts (x ∷ u)) (sym z)

-- parts of a text
drop_take : (a b m : ℕ) (l : Text) → m ≡ a + b → drop a (take m l) ≡ take b (drop a l)
drop_take zero b m l e = let q : m ≡ b = omega arith in ap (λ (n : ℕ). take n l) q
drop_take (suc a) b zero l e = absurd (omega arith)
drop_take (suc a) b (suc m) [] e = sym (take-nil b)
drop_take (suc a) b (suc m) (x ∷ l) e = drop_take a b m l (omega arith)

module _ (t : Text) (i e : ℕ) (within : i ≤ e) (fits : e ≤ length t) where
  pub length_part : length (part t i e) ≡ e - i
  unfolding part
  length_part = simp (length-take, length-drop) (omega arith)

  -- the word at i ends where a space first stands
  pub word_first : (n : ℕ) → n ≡ first space (part t i e) → WordEnd t i e (i + n)
  unfolding WordEnd part
  word_first n h =
      let few : n ≤ e - i = omega (arith, length_part, first_most space (part t i e)) in
      let front : take n (part t i e) ≡ part t i (i + n) =
      take-take n (e - i) (drop i t) few ∙ ap (λ (k : ℕ). take k (drop i t)) (omega arith) in
      words_in t i e within ∙ split_first space (part t i e) ∙ ap (parts space (part t i e)) (sym h)
      ∙ ap (λ (p : Text). p ∷ chosen (ltb n (length (part t i e))) (split space (drop (suc n) (part t i e))) []) front
      ∙ ap (λ (ws : List Text). part t i (i + n) ∷ ws) (go (ltb n (length (part t i e))) refl)
    where
      go : (b : Bool) → ltb n (length (part t i e)) ≡ b
          → chosen b (split space (drop (suc n) (part t i e))) [] ≡ words_from t (i + n + 1) e
      go true l =
          let more : n < e - i = omega (arith, length_part, ltb-true n (length (part t i e)) l) in
          let q : i + suc n ≡ i + n + 1 = omega arith in
          ap (split space) (drop_take (suc n) (e - (i + n + 1)) (e - i) (drop i t) (omega arith)
          ∙ ap (λ (v : Text). take (e - (i + n + 1)) v) (drop-drop (suc n) i t ∙ ap (λ (k : ℕ). drop k t) q))
          ∙ sym (words_in t (i + n + 1) e (omega arith))
      go false l = sym (no_words t (i + n + 1) e (omega (arith, length_part, ltb-false n (length (part t i e)) l)))

-- the line at i ends where a newline first stands
module _ (t : Text) (i : ℕ) where
  abbrev pub rest : Text
  rest = part t i (length t)

  rest_is : rest ≡ drop i t
  unfolding part
  rest_is = take_all (length t - i) (drop i t) (omega (arith, length-drop i t))

  front : (n : ℕ) → i + n - i ≡ n → n ≤ length t - i → take n rest ≡ part t i (i + n)
  unfolding part
  front n width few = take-take n (length t - i) (drop i t) few ∙ ap (λ (k : ℕ). take k (drop i t)) (sym width)

  pub line_first : (n : ℕ) → i ≤ length t → n ≡ first newline rest → LineEnd t i (i + n)
  unfolding LineEnd
  line_first n l h =
      let width : i + n - i ≡ n = omega arith in
      let behind : i + suc n ≡ i + n + 1 = omega arith in
      let few : n ≤ length t - i = omega (arith, first_most newline rest, length_part t i (length t) l (omega arith)) in
      ap (split newline) (sym rest_is) ∙ split_first newline rest ∙ ap (parts newline rest) (sym h)
      ∙ ap (λ (u : Text). u ∷ chosen (ltb n (length rest)) (split newline (drop (suc n) rest)) []) (front n width few)
      ∙ ap (λ (u : Text). part t i (i + n) ∷ chosen (ltb n (length rest)) (split newline u) [])
      (ap (drop (suc n)) rest_is ∙ drop-drop (suc n) i t ∙ ap (λ (k : ℕ). drop k t) behind)
      ∙ ap (λ (b : Bool). part t i (i + n) ∷ chosen b (split newline (drop (i + n + 1) t)) []) (go n l (ltb n (length rest)) refl)
    where
      go : (n : ℕ) → i ≤ length t → (b : Bool) → ltb n (length rest) ≡ b → ltb n (length rest) ≡ ltb (i + n) (length t)
      go n l true e =
          e ∙ sym (lt-ltb (i + n) (length t) (omega (arith, length_part t i (length t) l (omega arith), ltb-true n (length rest) e)))
      go n l false e =
          e ∙ sym (le-ltb (i + n) (length t) (omega (arith, length_part t i (length t) l (omega arith), ltb-false n (length rest) e)))
