-- Runs of quiet statements: they rise, and one run after another is a run. So a table that is filled from the last byte to the first is right where
-- each entry is the position itself, or what the entry after one quiet statement says.
use mathlib.Core.List.{List}
use mathlib.Core.Path.{◌≡◌, sym, subst}
use native.Mathlib.Decide.{dec_lt, ℕ_discrete}
use native.Mathlib.Omega.{arith}
use Prim.Native.Nat.{ℕ, ◌+◌, ◌<◌, ◌≤◌}
use Rattle.std.specs.Prelude.{Option}
use lib.ListN.{get_or, set, length}
use lib.Seq.{get_or-set_same, get_or-set_other}
use Rattle.walking.specs.Quiet.{Run, none, operation, call, Stepped}

-- the table is right from byte i on
pub record Marked (s : List ℕ) (counts : List (Option ℕ)) (t : List ℕ) (i : ℕ) : Type 0 where
  pub runs : (k : ℕ) → i ≤ k → k < length s → Run s counts k (get_or t k 0)

module _ {s : List ℕ} {counts : List (Option ℕ)} where
  -- a run after a run
  pub run_then : {i j p : ℕ} → Run s counts i j → Run s counts j p → Run s counts i p
  run_then none k = k
  run_then (operation z h) k = operation z (run_then h k)
  run_then (call e z h) k = call e z (run_then h k)

  pub run_rises : {i p : ℕ} → Run s counts i p → i ≤ p
  run_rises none = omega arith
  run_rises {i} (operation z h) = omega (arith, run_rises h)
  run_rises {i} (call e z h) = omega (arith, run_rises h)

  -- with one entry more: the end of a run from there
  marked_more : (t : List ℕ) (i v : ℕ) → i < length t → Run s counts i v
      → ((k : ℕ) → i < k → k < length s → Run s counts k (get_or t k 0)) → Marked s counts (set t i v) i
  marked_more t i v l q h = record { runs = λ k a b. go k a b (ℕ_discrete k i) }
    where
      go : (k : ℕ) → i ≤ k → k < length s → Dec (k ≡ i) → Run s counts k (get_or (set t i v) k 0)
      go k a b (yes e) =
          subst (λ (n : ℕ). Run s counts n (get_or (set t i v) n 0)) (sym e) (subst (Run s counts i) (sym (get_or-set_same t i v 0 l)) q)
      go k a b (no d) = subst (Run s counts k) (sym (get_or-set_other t i k v 0 d)) (h k (omega arith) b)

  -- the position itself
  pub marked_here : (t : List ℕ) (i : ℕ) → i < length t → Marked s counts t (i + 1) → Marked s counts (set t i i) i
  marked_here t i l h = marked_more t i i l none λ k a b. h.runs k (omega arith) b

  -- what the entry at j says, after a run from i to j
  pub marked_run : (t : List ℕ) (i j : ℕ) → i < length t → i < j → j < length s → Run s counts i j → Marked s counts t (i + 1)
      → Marked s counts (set t i (get_or t j 0)) i
  marked_run t i j l a b q h = marked_more t i (get_or t j 0) l (run_then q (h.runs j (omega arith) b)) λ k c d. h.runs k (omega arith) d

  -- where a step over a run ends
  pub stepped_bounds : {p stop r : ℕ} → Stepped s counts p stop r → p ≤ stop → (p ≤ r) × (r ≤ stop)
  stepped_bounds {p} {stop} {r} S l = go (dec_lt S.end stop)
    where
      go : Dec (S.end < stop) → (p ≤ r) × (r ≤ stop)
      go (yes i) = (omega (arith, S.inside i, run_rises S.run), omega (arith, S.inside i, i))
      go (no o) = let e = S.outside (omega (arith, o)) in (omega (arith, e, l), omega (arith, e))
