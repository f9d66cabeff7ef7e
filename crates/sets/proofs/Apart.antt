-- A row of numbers gone through from its end, with the set of those that were met: nothing comes twice among them.
use mathlib.Core.Bool.{true, false, not, ◌||◌, and-false}
use mathlib.Core.List.{List, [], ◌∷◌}
use mathlib.Core.Path.{◌≡◌, sym, ap, ◌∙◌}
use native.Mathlib.Omega.{arith}
use Prim.Native.Nat.{ℕ, zero, suc, ◌-◌, ◌≤◌, ◌<◌}
use lib.Dec.{eqb}
use lib.ListN.{get_or, length, drop, drop_of_length-le}
use lib.Seq.{drop-cons}
use Rattle.std.specs.List.{list_any}
use Rattle.sets.specs.declared.LocationSet.{LocationSet}
use Rattle.sets.specs.Bytes.{all_apart}
use Rattle.sets.specs.Sets.{has}

-- a repeat among the later ones is one among them all
earlier : (xs : List ℕ) (i : ℕ) → all_apart (drop i xs) ≡ false → all_apart xs ≡ false
earlier xs zero h = h
earlier [] (suc i) h = h
earlier (x ∷ xs) (suc i) h = rw (earlier xs i h) (and-false (not (list_any (eqb x) xs)))

-- those from i on are apart, and the set has them
pub record Met (xs : List ℕ) (i : ℕ) (set : LocationSet) : Type 0 where
  pub once : all_apart (drop i xs) ≡ true
  pub members : (y : ℕ) → has set y ≡ list_any (eqb y) (drop i xs)

module _ (xs : List ℕ) where
  pub met_none : (set : LocationSet) → ((y : ℕ) → has set y ≡ false) → Met xs (length xs) set
  met_none set h = record {
    once = rw (drop_of_length-le xs {i = length xs} (omega arith));
    members = λ y. rw (drop_of_length-le xs {i = length xs} (omega arith)) (h y);
  }

  module _ (i : ℕ) (set : LocationSet) (l : 0 < i) (m : i ≤ length xs) (h : Met xs i set) where
    abbrev x : ℕ
    x = get_or xs (i - 1) 0

    back : drop (i - 1) xs ≡ x ∷ drop i xs
    back = let q : suc (i - 1) ≡ i = omega arith in drop-cons xs (i - 1) 0 (omega arith) ∙ ap (λ (j : ℕ). x ∷ drop j xs) q

    pub met_one : (more : LocationSet) → has set x ≡ false → ((y : ℕ) → has more y ≡ (eqb y x || has set y)) → Met xs (i - 1) more
    met_one more q a = record {
      once = rw (back, sym (h.members x), q) h.once;
      members = λ y. a y ∙ rw (back, h.members y);
    }

    pub met_twice : has set x ≡ true → all_apart xs ≡ false
    met_twice q = earlier xs (i - 1) (rw (back, sym (h.members x), q))

  pub met_all : (i : ℕ) (set : LocationSet) → i ≤ 0 → Met xs i set → all_apart xs ≡ true
  met_all zero set l h = h.once
  met_all (suc i) set l h = absurd (omega arith)
