-- The route written by its hops: what is written so far with what the hops still give is the whole, and past it stands what stood there before.
use mathlib.Core.List.{List, [], ◌∷◌, ◌++◌, append-nil}
use mathlib.Core.Path.{◌≡◌, refl, sym, ap, ◌∙◌}
use native.Mathlib.Numerals.{add-one}
use native.Mathlib.Omega.{arith}
use Prim.Native.Nat.{ℕ, suc, ◌+◌, ◌-◌, ◌<◌}
use lib.ListN.{length, get_or, set, drop, length-append, drop_of_length-le}
use lib.Seq.{drop-cons, set_at, append_snoc}
use Rattle.route.specs.Hops.{hops}

-- i locations are written, x comes next, and the whole has n
pub record Writing (h : List ℕ) (a n : ℕ) (before out : List ℕ) (x i : ℕ) : Type 0 where
  pub done : List ℕ
  pub long : length done ≡ i
  pub held : out ≡ done ++ drop i before
  pub whole : hops h n a ≡ done ++ hops h (n - i) x

pub writing_start : (h : List ℕ) (a n : ℕ) (before : List ℕ) → Writing h a n before before a 0
writing_start h a n before = record { done = []; long = refl; held = refl; whole = let z : n ≡ n - 0 = omega arith in ap (λ (m : ℕ). hops h m a) z }

module _ {h : List ℕ} {a n : ℕ} {before out : List ℕ} {x i : ℕ} (w : Writing h a n before out x i) where
  pub writing_more : i < n → i < length before → Writing h a n before (set out i x) (get_or h x 0) (i + 1)
  writing_more b l =
      let z : n - i ≡ suc (n - (i + 1)) = omega arith in
      record {
        done = w.done ++ (x ∷ []);
        long = length-append w.done (x ∷ []) ∙ (let e = w.long in omega arith);
        held = ap (λ (o : List ℕ). set o i x) (w.held ∙ ap (λ (o : List ℕ). w.done ++ o) (drop-cons before i 0 l))
            ∙ set_at w.done (get_or before i 0) (drop (suc i) before) x i w.long
            ∙ sym (append_snoc w.done x (drop (suc i) before)) ∙ rw (add-one i);
        whole = w.whole ∙ ap (λ (m : ℕ). w.done ++ hops h m x) z ∙ sym (append_snoc w.done x (hops h (n - (i + 1)) (get_or h x 0)));
      }

  -- all is written
  pub writing_all : n ≡ length before → i ≡ n → out ≡ hops h n a
  writing_all l e =
      let z : n - i ≡ 0 = omega arith in
      w.held ∙ ap (λ (rest : List ℕ). w.done ++ rest) (drop_of_length-le before (omega arith)) ∙ append-nil w.done
      ∙ sym (w.whole ∙ ap (λ (m : ℕ). w.done ++ hops h m x) z ∙ append-nil w.done)
