-- The members of one word of a set, taken from the lowest on. What is left of the word has the word's bits from some bit on and none below; its lowest bit is
-- the next member, so between two that are taken there is none, and where nothing is left there is none to the word's end.
use mathlib.Core.Bool.{Bool, true, false}
use mathlib.Core.Logic.{⊎_elim}
use mathlib.Core.Path.{◌≡◌, refl, sym, ap, ◌∙◌}
use native.Mathlib.Decide.{ℕ_discrete}
use native.Mathlib.Omega.{arith}
use Prim.Native.Nat.{ℕ, zero, suc, ◌+◌, ◌-◌, ◌*◌, ◌≤◌, ◌<◌}
use borrow.Author.Tests.{eq-eqb, ne_eqb}
use lib.Dec.{eqb}
use lib.ListN.{get_or}
use Rattle.sets.specs.declared.LocationSet.{LocationSet}
use Rattle.sets.specs.Sets.{bit_of, has, Lowest, Cleared}
use Rattle.sets.proofs.Bits.{bit_lt, no_bit}
use Rattle.sets.proofs.Bools.{side}
use Rattle.sets.proofs.SetLaws.{in_word, off_word}
use Rattle.route.specs.Sweeps.{Word}

-- r is what is left of w from bit m on
pub record Rest (w r m : ℕ) : Type 0 where
  pub room : m ≤ 64
  pub done : (j : ℕ) → j < m → bit_of r j ≡ 0
  pub same : (j : ℕ) → m ≤ j → bit_of r j ≡ bit_of w j

pub set_word : (s : LocationSet) (i : ℕ) → i < 4 → Word (has s) i (get_or s.words i 0)
set_word s i h = record { bit = λ j l. go j l (bit_of (get_or s.words i 0) j) refl (bit_lt _ j) }
  where
    go : (j : ℕ) → j < 64 → (d : ℕ) → bit_of (get_or s.words i 0) j ≡ d → d < 2 → has s (i * 64 + j) ≡ eqb (bit_of (get_or s.words i 0) j) 1
    go j l zero e b = off_word s (i * 64 + j) i j refl h l e ∙ sym (ne_eqb (bit_of (get_or s.words i 0) j) 1 (omega arith))
    go j l (suc zero) e b = in_word s (i * 64 + j) i j refl h l e ∙ sym (eq-eqb _ 1 e)
    go j l (suc (suc d)) e b = absurd (omega arith)

pub rest_start : (w : ℕ) → Rest w w 0
rest_start w = record { room = omega arith; done = λ j h. absurd (omega arith); same = λ j h. refl }

module _ {w r m : ℕ} (u : Rest w r m) where
  pub rest_first : (t : ℕ) → Lowest r t → m ≤ t
  rest_first t l = ⊎_elim (λ h. let z = u.done t h in let o = l.on in absurd (omega arith)) (λ h. h) (side t m)

  pub rest_more : (t q : ℕ) → Lowest r t → Cleared r q → Rest w q (t + 1)
  rest_more t q l k =
      let f = rest_first t l in
      record {
        room = let s = l.small in omega arith;
        done = λ j h. done j h (ℕ_discrete j t);
        same = λ j h. k.same t j l (λ e. absurd (omega arith)) ∙ u.same j (omega arith);
      }
    where
      done : (j : ℕ) → j < t + 1 → Dec (j ≡ t) → bit_of q j ≡ 0
      done j h (yes e) = ap (bit_of q) e ∙ k.off t l
      done j h (no e) = k.same t j l e ∙ l.below j (omega arith)

  module _ {S : ℕ → Bool} {i : ℕ} (s : Word S i w) where
    off : (z : ℕ) → i * 64 + m ≤ z → z < i * 64 + 64 → bit_of r (z - i * 64) ≡ 0 → S z ≡ false
    off z h l e =
        let q : bit_of w (z - i * 64) ≡ 0 = sym (u.same (z - i * 64) (omega arith)) ∙ e in
        ap S (omega arith) ∙ s.bit (z - i * 64) (omega arith) ∙ ne_eqb (bit_of w (z - i * 64)) 1 (omega arith)

    pub rest_here : (t : ℕ) → Lowest r t → S (i * 64 + t) ≡ true
    rest_here t l = s.bit t l.small ∙ eq-eqb _ 1 (sym (u.same t (rest_first t l)) ∙ l.on)

    pub rest_between : (t : ℕ) → Lowest r t → (z : ℕ) → i * 64 + m ≤ z → z < i * 64 + t → S z ≡ false
    rest_between t l z h b = let p = l.small in off z h (omega arith) (l.below (z - i * 64) (omega arith))

    pub rest_end : r ≡ 0 → (z : ℕ) → i * 64 + m ≤ z → z < i * 64 + 64 → S z ≡ false
    rest_end e z h b = off z h b (ap (λ (v : ℕ). bit_of v (z - i * 64)) e ∙ no_bit (z - i * 64))
