-- The number of qubits in the slots of the rules. A block's closing only forgets bools and references, so the number at main's end is the number
-- before its closing.
use mathlib.Core.Bool.{Bool, true, false, not, ◌&&◌}
use mathlib.Core.List.{List}
use mathlib.Core.Path.{◌≡◌, refl, sym}
use native.Mathlib.Omega.{arith}
use Prim.Native.Nat.{ℕ, zero, suc, ◌+◌}
use lib.ListN.{length, drop, drop_of_length-le}
use lib.Seq.{drop-cons}
use Rattle.rules.specs.Basics.{chosen, how_many, up_to}
use Rattle.rules.specs.Syntax.{Side}
use Rattle.rules.specs.Slots.{unbound, qubit, bool, ref, slot, holds_no_qubit, is_classical}
use Rattle.rules.specs.Typing.{Kind, narrowed}

module _ {d : Side} where
  abbrev live : Kind d → Bool
  live v = not (holds_no_qubit v)

  abbrev pub live_of : List (Kind d) → ℕ
  live_of vs = how_many live vs

  -- a row that has a qubit wherever the slots have one
  same_row : (vs : List (Kind d)) (f : ℕ → Kind d) → ((x : ℕ) → live (f x) ≡ live (slot vs x)) → (i m : ℕ) → i + m ≡ length vs
      → live_of (up_to i m f) ≡ live_of (drop i vs)
  same_row vs f h i zero e = rw (drop_of_length-le vs {i = i} (omega arith))
  same_row vs f h i (suc m) e = let rest = same_row vs f h (suc i) m (omega arith) in rw (drop-cons vs i unbound (omega arith), h i, rest)

  -- what a closing forgets is no qubit
  if_forgotten : (t : Bool) (w : Kind d) → live w ≡ false → live (chosen t unbound w) ≡ false
  if_forgotten true w h = refl
  if_forgotten false w h = h

  forgotten : (v w : Kind d) → live (chosen (is_classical w && not (is_classical v)) unbound w) ≡ live w
  forgotten v unbound = refl
  forgotten v (qubit l) = refl
  forgotten v (bool b) = if_forgotten (not (is_classical v)) (bool b) refl
  forgotten v (ref b) = if_forgotten (not (is_classical v)) (ref b) refl

  pub live_narrowed : (vs ws : List (Kind d)) → length ws ≡ 32 → live_of (narrowed vs ws) ≡ live_of ws
  live_narrowed vs ws e = same_row ws leaves (λ x. forgotten (slot vs x) (slot ws x)) 0 32 (sym e)
    where
      leaves : ℕ → Kind d
      leaves x = chosen (is_classical (slot ws x) && not (is_classical (slot vs x))) unbound (slot ws x)
