-- Laws of the edges. The loop over them keeps that the edges not yet tested, after the one before them, decide as all of them do; each of its exits is
-- a law here. And what the edges are, once they are read: two bytes each, the first below the second and the second below the number of locations.
use mathlib.Core.Bool.{Bool, true, false, ◌&&◌}
use mathlib.Core.List.{List, ◌∷◌}
use mathlib.Core.Option.{Option, none, some}
use mathlib.Core.Path.{◌≡◌, refl, sym, ap, ap₂, ◌∙◌}
use native.Mathlib.Numerals.{add-one}
use native.Mathlib.Omega.{arith}
use Prim.Native.Nat.{ℕ, zero, suc, ◌+◌, ◌-◌, ◌*◌, ◌≤◌, ◌<◌}
use borrow.Author.Tests.{ltb-true}
use lib.Dec.{ltb}
use lib.ListN.{length, get_or}
use Rattle.answers.proofs.Laws.{Holds, by, holds_bind, holds_then, holds_need}
use Rattle.answers.specs.Check.{Check, ok, refused, refusal, ◌>>◌}
use Rattle.answers.specs.declared.Refusal.{Refusal}
use Rattle.rules.specs.Basics.{byte}
use Rattle.rules.specs.Device.{Edge, edges, increases}
use Rattle.sets.proofs.Bools.{and_both}
use Rattle.device.specs.Parts.{tested, edge_at, edge_before, edge_stands}
use Rattle.device.proofs.OwnerLaws.{tested_map}

abbrev passes : List ℕ → ℕ → Option Edge → ℕ → Bool
passes s n before i = ltb (byte s i) (byte s (i + 1)) && ltb (byte s (i + 1)) n && increases before (edge_at s i)

module _ (s : List ℕ) (n : ℕ) where
  more : (before : Option Edge) (i m : ℕ) → passes s n before i ≡ true
      → tested (edges s n before i (suc m)) ≡ tested (edges s n (some (edge_at s i)) (i + 2) m)
  unfolding ◌>>◌
  more before i m h = rw h (tested_map (edges s n (some (edge_at s i)) (i + 2) m) (λ rest. edge_at s i ∷ rest))

  stop : (before : Option Edge) (i m : ℕ) → passes s n before i ≡ false → tested (edges s n before i (suc m)) ≡ refused (refusal 7 i)
  unfolding ◌>>◌ tested
  stop before i m h = rw h

  -- the tests of m edges from number i on
  abbrev tests_from : ℕ → ℕ → ℕ → Check (Unit {0})
  tests_from start i m = tested (edges s n (edge_before s start i) (start + 2 * i) m)

  -- ---- the loop, at edge i of e
  module _ (start e i : ℕ) (same : tested (edges s n none start e) ≡ tests_from start i (e - i)) where
    pub edge_bad : i < e → edge_stands s n start i ≡ false → (x : Refusal) → x ≡ refusal 7 (start + 2 * i)
        → refused x ≡ tested (edges s n none start e)
    edge_bad h b x q =
        let c : e - i ≡ suc (e - (i + 1)) = omega arith in
        ap refused q ∙ sym (same ∙ ap (tests_from start i) c ∙ stop (edge_before s start i) (start + 2 * i) (e - (i + 1)) b)

    pub edge_good : i < e → edge_stands s n start i ≡ true → tested (edges s n none start e) ≡ tests_from start (i + 1) (e - (i + 1))
    edge_good h b =
        let c : e - i ≡ suc (e - (i + 1)) = omega arith in
        let p : start + 2 * i + 2 ≡ start + 2 * (i + 1) = omega arith in
        let d : some (edge_at s (start + 2 * i)) ≡ edge_before s start (i + 1) = rw (add-one i) in
        same ∙ ap (tests_from start i) c ∙ more (edge_before s start i) (start + 2 * i) (e - (i + 1)) b
        ∙ ap₂ (λ (o : Option Edge) (k : ℕ). tested (edges s n o k (e - (i + 1)))) d p

    pub edge_done : e ≤ i → ok tt ≡ tested (edges s n none start e)
    unfolding tested
    edge_done h =
        let z : e - i ≡ 0 = omega arith in
        sym (same ∙ ap (tests_from start i) z)

  -- ---- what is read
  pub record EdgesAre (i m : ℕ) (es : List Edge) : Type 0 where
    pub long : length es ≡ m
    pub each : (k : ℕ) (d : Edge) → k < m → get_or es k d ≡ edge_at s (i + 2 * k)
    pub rises : (k : ℕ) → k < m → byte s (i + 2 * k) < byte s (i + 2 * k + 1)
    pub within : (k : ℕ) → k < m → byte s (i + 2 * k + 1) < n

  pub edges_are : (before : Option Edge) (i m : ℕ) → Holds (EdgesAre i m) (edges s n before i m)
  edges_are before i zero =
      by (record { long = refl; each = λ k d h. absurd (omega arith); rises = λ k h. absurd (omega arith); within = λ k h. absurd (omega arith) })
  edges_are before i (suc m) =
      holds_then (holds_need (passes s n before i) 7 i) λ u h. holds_bind (edges_are (some (edge_at s i)) (i + 2) m) λ es a.
      let both = and_both _ _ (and_both _ _ h).0 in
      by (record { long = ap suc a.long; each = each es a; rises = rises es a (ltb-true _ _ both.0); within = within es a (ltb-true _ _ both.1) })
    where
      at : (k : ℕ) → i + 2 + 2 * k ≡ i + 2 * suc k
      at k = omega arith

      here : i ≡ i + 2 * 0
      here = omega arith

      each : (es : List Edge) → EdgesAre (i + 2) m es → (k : ℕ) (d : Edge) → k < suc m → get_or (edge_at s i ∷ es) k d ≡ edge_at s (i + 2 * k)
      each es a zero d h = ap (edge_at s) here
      each es a (suc k) d h = a.each k d (omega arith) ∙ ap (edge_at s) (at k)

      rises : (es : List Edge) → EdgesAre (i + 2) m es → byte s i < byte s (i + 1) → (k : ℕ) → k < suc m
          → byte s (i + 2 * k) < byte s (i + 2 * k + 1)
      rises es a f zero h = rw (← here) f
      rises es a f (suc k) h = rw (← at k) (a.rises k (omega arith))

      within : (es : List Edge) → EdgesAre (i + 2) m es → byte s (i + 1) < n → (k : ℕ) → k < suc m → byte s (i + 2 * k + 1) < n
      within es a f zero h = rw (← here) f
      within es a f (suc k) h = rw (← at k) (a.within k (omega arith))
