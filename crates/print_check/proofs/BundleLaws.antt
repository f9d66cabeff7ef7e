-- A bundle is one file after the other and nothing more: each exit of the split is one of the tests of its definition.
use Rattle.std.proofs.Common.{Bool, true, false, List, ◌≡◌, ℕ, refl, ap, ◌∙◌, ◌+◌, ◌*◌, ◌≤◌, ◌<◌, length, get_or, take, drop, inl, inr, add-zero, arith}
use Rattle.std.proofs.lemmas.List.{get_or-drop, drop-drop, length-drop}
use Rattle.std.proofs.lemmas.Bool.{cases_lt}
use Rattle.std.specs.Prelude.{Option, Some, None}
use Rattle.std.specs.Option.{MatchOption}
use Rattle.std.specs.List.{IsSplitAt}
use Rattle.std.specs.Borrow.{Bor}
use borrow.Author.Tests.{le-leb, lt-leb, eq-eqb, ne_eqb}
use lib.Dec.{leb}
use mathlib.Core.Bool.{◌&&◌}
use Rattle.rules.specs.Basics.{word}
use Rattle.print_check.specs.Printed.{fits, files, bundle_of}
use Rattle.print_check.specs.Parts.{file_in, split_as}

and_false : (a : Bool) → (a && false) ≡ false
and_false true = refl
and_false false = refl

-- two files, or a file and what follows it
abbrev Two : Type 0
Two = List ℕ × List ℕ

-- the file at the start of s: where it is too short for one, and where it is not
module _ (s : List ℕ) where
  abbrev here : Two
  here = (take (word s 0) (drop 2 s), drop (word s 0) (drop 2 s))

  pub no_file : length s < 2 + word s 0 → None ≡ file_in s
  unfolding file_in
  no_file h = rw (lt-leb (2 + word s 0) (length s) h) refl

  pub a_file : 2 + word s 0 ≤ length s → Some here ≡ file_in s
  unfolding file_in
  a_file h = rw (le-leb (2 + word s 0) (length s) h) refl

  -- and back
  too_short : None ≡ file_in s → length s < 2 + word s 0
  too_short e = elim (cases_lt (length s) (2 + word s 0)) [ inl l ↦ l | inr g ↦ let f = a_file g in absurd cc ]

  taken : {x : Two} → Some x ≡ file_in s → (2 + word s 0 ≤ length s) × (x ≡ here)
  taken {x} e =
      elim (cases_lt (length s) (2 + word s 0)) [
        | inl l ↦ let f = no_file l in absurd cc
        | inr g ↦ let f = a_file g in (g, cc)
      ]

-- what the split of the bytes behind the length gives
pub file_split : (s rest : List ℕ) (n : ℕ) (r : Option (Bor (List ℕ) × Bor (List ℕ))) → 2 ≤ length s → rest ≡ drop 2 s → n ≡ word s 0
    → MatchOption r (length rest < n) (λ p. IsSplitAt rest n p.0.now p.1.now)
    → split_as r ≡ file_in s
file_split s rest n (Some p) l f e m =
    let w : 2 + word s 0 ≤ length s = omega (arith, m.0, ap length f, length-drop 2 s) in
    rw (m.1, m.2, f, e) (a_file s w)
file_split s rest n None l f e m = no_file s (omega (arith, m, ap length f, length-drop 2 s))

-- where the bytes are no bundle
module _ (s : List ℕ) where
  abbrev D : ℕ
  D = word s 0

  abbrev P : ℕ
  P = word s (2 + D)

  bad : fits s D P ≡ false → None ≡ bundle_of s
  unfolding files
  bad e = rw e refl

  pub bad_long : 8192 < length s → None ≡ bundle_of s
  unfolding fits
  bad_long h = bad (rw (lt-leb (length s) 8192 h) refl)

  uneven : (4 + D + P ≡ length s → ⊥) → None ≡ bundle_of s
  unfolding fits
  uneven h = bad (rw (ne_eqb (4 + D + P) (length s) h) (and_false (leb (length s) 8192 && leb (4 + D) (length s))))

  pub bad_device : None ≡ file_in s → None ≡ bundle_of s
  bad_device e = let l = too_short s e in uneven (λ q. omega arith)

  -- a first file, and what follows it
  module _ {d r : List ℕ} (e : Some (d, r) ≡ file_in s) where
    rest : r ≡ drop (2 + D) s
    rest = let k = (taken s e).1 in ap (λ x. x.1) k ∙ drop-drop D 2 s

    length_rest : length r + (2 + D) ≡ length s
    length_rest = omega (arith, (taken s e).0, ap length rest, length-drop (2 + D) s)

    word_rest : word r 0 ≡ P
    word_rest = rw (rest, get_or-drop (2 + D) s 0 0, get_or-drop (2 + D) s 1 0)
        (ap (λ (k : ℕ). get_or s k 0 * 256 + get_or s (2 + D + 1) 0) (add-zero (2 + D)))

    pub bad_program : None ≡ file_in r → None ≡ bundle_of s
    bad_program f = let l = too_short r f in uneven (λ q. omega (arith, length_rest, word_rest))

    module _ {p t : List ℕ} (f : Some (p, t) ≡ file_in r) where
      length_end : length t + (4 + D + P) ≡ length s
      length_end =
          omega (arith, (taken r f).0, ap length (ap (λ x. x.1) (taken r f).1), length-drop (word r 0) (drop 2 r), length-drop 2 r, length_rest, word_rest)

      pub bad_end : 0 < length t → None ≡ bundle_of s
      bad_end h = uneven (λ q. omega (arith, length_end))

      pub both : length s ≤ 8192 → length t ≡ 0 → Some (d, p) ≡ bundle_of s
      unfolding fits files
      both h k =
          let n : 4 + D + P ≡ length s = omega (arith, length_end) in
          rw (le-leb (length s) 8192 h, le-leb (4 + D) (length s) (omega arith), eq-eqb (4 + D + P) (length s) n)
          (ap (λ x. Some (x, p)) (ap (λ x. x.0) (taken s e).1) ∙ ap (λ x. Some (take D (drop 2 s), x)) second)
        where
          second : p ≡ take P (drop (4 + D) s)
          second =
              let i : 2 + D + 2 ≡ 4 + D = omega arith in
              ap (λ x. x.0) (taken r f).1
              ∙ ap (λ (n : ℕ). take n (drop 2 r)) word_rest
              ∙ ap (λ (l : List ℕ). take P l) (ap (drop 2) rest ∙ drop-drop 2 (2 + D) s ∙ ap (λ (n : ℕ). drop n s) i)
