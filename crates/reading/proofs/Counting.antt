-- A decimal below a limit, by the next word: a whole word is looked for among the decimals, and an unfinished one begins one of them or none.
use mathlib.Core.Bool.{Bool, true, false, ◌&&◌}
use mathlib.Core.List.{[], ◌∷◌}
use mathlib.Core.Option as places
use mathlib.Core.Option.{none, some}
use mathlib.Core.Path.{◌≡◌, refl, ap, ◌∙◌}
use native.Mathlib.Nat.{le_of_suc-le-suc, not-suc-le-zero}
use native.Mathlib.Omega.{arith}
use Prim.Native.Nat.{ℕ, zero, suc, ◌+◌, ◌<◌, ◌≤◌}
use borrow.Author.Tests.{lt-ltb, le-ltb}
use lib.Dec.{ltb}
use lib.ListN.{get_or}
use Rattle.std.specs.Prelude.{Option, None, Some, Ok, Err}
use Rattle.rules.specs.Basics.{chosen, up_to}
use Rattle.rules.specs.Words.{Text, opens, decimal}
use Rattle.rules.specs.Grammar.{Grammar, ask, live, some_below}
use Rattle.rules.specs.Unlisting.{Sofar}
use Rattle.rules.proofs.Basics.{length_up_to, get_d_up_to_zero}
use Rattle.reading.specs.Cursor.{part, words_from, below, Numeral}
use Rattle.reading.specs.Hearing.{Hearing, not, begun, hears, NextWord, Numbers}
use Rattle.reading.specs.declared.cursor.Unread.TheVariants.{Not, Begun}
use Rattle.reading.specs.declared.cursor.Next.TheVariants.{Nothing, Unfinished, To}
use Rattle.reading.proofs.Hearings.{hears_ask, hears_nothing, hears_unfinished}
use Rattle.reading.proofs.Numerals.{numeral_placed}

some_below_lem : (n : ℕ) (p : ℕ → Bool) (i : ℕ) → i < n → p i ≡ true → some_below n p ≡ true
some_below_lem zero p i l h = absurd (not-suc-le-zero l)
some_below_lem (suc n) p zero l h = ap (λ (b : Bool). elim b [ true ↦ true | false ↦ some_below n λ i. p (suc i) ]) h
some_below_lem (suc n) p (suc i) l h = go (p 0) (some_below_lem n (λ i. p (suc i)) i (le_of_suc-le-suc l) h)
  where
    go : (b : Bool) → some_below n (λ i. p (suc i)) ≡ true → elim b [ true ↦ true | false ↦ some_below n λ i. p (suc i) ] ≡ true
    go true r = refl
    go false r = r

none_below : (n : ℕ) (p : ℕ → Bool) → ((i : ℕ) → i < n → p i ≡ false) → some_below n p ≡ false
none_below zero p h = refl
none_below (suc n) p h =
    ap (λ (b : Bool). elim b [ true ↦ true | false ↦ some_below n λ i. p (suc i) ]) (h 0 (omega arith))
    ∙ none_below n (λ i. p (suc i)) (λ i l. h (suc i) (omega arith))

module _ (t : Text) (at end stop limit : ℕ) where
  pub numbers_nothing : NextWord t at end stop Nothing → Numbers t at end stop limit (Err Not)
  unfolding Numbers
  numbers_nothing n k l =
      ap (hears (ltb end stop) (ask none (up_to 0 limit decimal) k)) n
      ∙ hears_nothing (ltb end stop) (up_to 0 limit decimal) k

  abbrev begins : (ℕ → Grammar Sofar) → ℕ → Bool
  begins k i = opens (part t at end) (get_or (up_to 0 limit decimal) i []) && live (k i)

  last : NextWord t at end stop Unfinished → (k : ℕ → Grammar Sofar)
      → hears (ltb end stop) (ask none (up_to 0 limit decimal) k) (words_from t at end) ≡ chosen (some_below limit (begins k)) begun not
  last n k =
      ap (hears (ltb end stop) (ask none (up_to 0 limit decimal) k)) n.0
      ∙ ap (λ (b : Bool). hears b (ask none (up_to 0 limit decimal) k) (part t at end ∷ [])) n.1
      ∙ hears_unfinished none (up_to 0 limit decimal) k (part t at end)
      ∙ ap (λ (m : ℕ). chosen (some_below m (begins k)) begun not) (length_up_to 0 limit decimal)

  begins_is : (k : ℕ → Grammar Sofar) (v : ℕ) → v < limit → begins k v ≡ (opens (part t at end) (decimal v) && live (k v))
  begins_is k v h = ap (λ (w : Text). opens (part t at end) w && live (k v)) (get_d_up_to_zero limit v decimal [] h)

  pub numbers_begun : NextWord t at end stop Unfinished → (v : ℕ) → v < limit → opens (part t at end) (decimal v) ≡ true
      → Numbers t at end stop limit (Err Begun)
  unfolding Numbers
  numbers_begun n v h o k l =
      last n k ∙ ap (λ (b : Bool). chosen b begun not)
      (some_below_lem limit (begins k) v h (begins_is k v h ∙ ap (λ (b : Bool). b && live (k v)) o ∙ l v h))

  pub numbers_other : NextWord t at end stop Unfinished → ((v : ℕ) → v < limit → opens (part t at end) (decimal v) ≡ false)
      → Numbers t at end stop limit (Err Not)
  unfolding Numbers
  numbers_other n o k l =
      last n k ∙ ap (λ (b : Bool). chosen b begun not)
      (none_below limit (begins k) λ v h. begins_is k v h ∙ ap (λ (b : Bool). b && live (k v)) (o v h))

  module _ (to : ℕ) (n : NextWord t at end stop (To to)) (few : limit ≤ 1000) where
    abbrev taken : (ℕ → Grammar Sofar) → places.Option ℕ → Hearing Sofar
    taken k o = elim o [ none ↦ not | some i ↦ hears (ltb end stop) (k i) (words_from t (to + 1) end) ]

    placed : (r : Option ℕ) → Numeral (part t at to) r → (k : ℕ → Grammar Sofar)
        → hears (ltb end stop) (ask none (up_to 0 limit decimal) k) (words_from t at end) ≡ taken k (below r limit)
    placed r u k =
        ap (hears (ltb end stop) (ask none (up_to 0 limit decimal) k)) n.0
        ∙ hears_ask (ltb end stop) none (up_to 0 limit decimal) k (part t at to) (words_from t (to + 1) end) n.1
        ∙ ap (taken k) (numeral_placed (part t at to) r u limit few)

    pub numbers_is : (v : ℕ) → Numeral (part t at to) (Some v) → v < limit → Numbers t at end stop limit (Ok (v, to + 1))
    unfolding Numbers
    numbers_is v u h k l = placed (Some v) u k ∙ ap (λ (b : Bool). taken k (chosen b (some v) none)) (lt-ltb v limit h)

    pub numbers_not : (v : ℕ) → Numeral (part t at to) (Some v) → limit ≤ v → Numbers t at end stop limit (Err Not)
    unfolding Numbers
    numbers_not v u h k l = placed (Some v) u k ∙ ap (λ (b : Bool). taken k (chosen b (some v) none)) (le-ltb v limit h)

    pub numbers_none : Numeral (part t at to) None → Numbers t at end stop limit (Err Not)
    unfolding Numbers
    numbers_none u k l = placed None u k
