-- Laws of the owner bytes. The loop over them keeps that the bytes not yet tested decide as all of them do; each of its exits is a law here. And what
-- the owners are, once they are read: the bytes, each at most 2.
use mathlib.Core.List.{List, ◌∷◌}
use mathlib.Core.Path.{◌≡◌, refl, sym, ap, ◌∙◌}
use native.Mathlib.Nat.{add-zero, add-suc, suc-add}
use native.Mathlib.Omega.{arith}
use Prim.Native.Nat.{ℕ, zero, suc, ◌+◌, ◌-◌, ◌≤◌, ◌<◌}
use borrow.Author.Tests.{leb-true, le-leb, lt-leb}
use lib.Dec.{leb}
use lib.ListN.{length, get_or}
use Rattle.answers.proofs.Laws.{Holds, by, holds_bind, holds_then, holds_need}
use Rattle.answers.specs.Check.{Check, ok, refused, refusal, ◌>>=◌, ◌>>◌}
use Rattle.answers.specs.declared.Refusal.{Refusal}
use Rattle.rules.specs.Basics.{byte}
use Rattle.rules.specs.Device.{owners}
use Rattle.device.specs.Parts.{tested}

-- a value made of what a check gives changes nothing for the test
pub tested_map : {A B : Type 0} (m : Check A) (f : A → B) → tested (m >>= λ a. ok (f a)) ≡ tested m
unfolding tested ◌>>=◌
tested_map (ok a) f = refl
tested_map (refused r) f = refl

module _ (s : List ℕ) where
  more : (i m : ℕ) → byte s i ≤ 2 → tested (owners s i (suc m)) ≡ tested (owners s (suc i) m)
  unfolding ◌>>◌
  more i m h = rw (le-leb (byte s i) 2 h) (tested_map (owners s (suc i) m) (λ rest. byte s i ∷ rest))

  stop : (i m : ℕ) → 2 < byte s i → tested (owners s i (suc m)) ≡ refused (refusal 6 i)
  unfolding ◌>>◌ tested
  stop i m h = rw (lt-leb (byte s i) 2 h)

  -- ---- the loop, at location i of n
  module _ (n i : ℕ) (same : tested (owners s 9 n) ≡ tested (owners s (9 + i) (n - i))) where
    pub owner_bad : i < n → 2 < byte s (9 + i) → (x : Refusal) → x ≡ refusal 6 (9 + i) → refused x ≡ tested (owners s 9 n)
    owner_bad h b x e =
        let c : n - i ≡ suc (n - (i + 1)) = omega arith in
        ap refused e ∙ sym (same ∙ ap (λ (m : ℕ). tested (owners s (9 + i) m)) c ∙ stop (9 + i) (n - (i + 1)) b)

    pub owner_good : i < n → byte s (9 + i) ≤ 2 → tested (owners s 9 n) ≡ tested (owners s (9 + (i + 1)) (n - (i + 1)))
    owner_good h b =
        let c : n - i ≡ suc (n - (i + 1)) = omega arith in
        let p : suc (9 + i) ≡ 9 + (i + 1) = omega arith in
        same ∙ ap (λ (m : ℕ). tested (owners s (9 + i) m)) c ∙ more (9 + i) (n - (i + 1)) b ∙ ap (λ (k : ℕ). tested (owners s k (n - (i + 1)))) p

    pub owner_done : n ≤ i → ok tt ≡ tested (owners s 9 n)
    unfolding tested
    owner_done h =
        let z : n - i ≡ 0 = omega arith in
        sym (same ∙ ap (λ (m : ℕ). tested (owners s (9 + i) m)) z)

  -- ---- what is read
  pub record OwnersAre (i m : ℕ) (ws : List ℕ) : Type 0 where
    pub long : length ws ≡ m
    pub each : (k : ℕ) → k < m → get_or ws k 0 ≡ byte s (i + k)
    pub few : (k : ℕ) → k < m → byte s (i + k) ≤ 2

  pub owners_are : (i m : ℕ) → Holds (OwnersAre i m) (owners s i m)
  owners_are i zero = by (record { long = refl; each = λ k h. absurd (omega arith); few = λ k h. absurd (omega arith) })
  owners_are i (suc m) =
      holds_then (holds_need (leb (byte s i) 2) 6 i) λ u h. holds_bind (owners_are (suc i) m) λ ws o.
      by (record { long = ap suc o.long; each = each ws o; few = few ws o (leb-true (byte s i) 2 h) })
    where
      each : (ws : List ℕ) → OwnersAre (suc i) m ws → (k : ℕ) → k < suc m → get_or (byte s i ∷ ws) k 0 ≡ byte s (i + k)
      each ws o zero h = ap (byte s) (sym (add-zero i))
      each ws o (suc k) h = o.each k (omega arith) ∙ ap (byte s) (suc-add i k ∙ sym (add-suc i k))

      few : (ws : List ℕ) → OwnersAre (suc i) m ws → byte s i ≤ 2 → (k : ℕ) → k < suc m → byte s (i + k) ≤ 2
      few ws o f zero h = rw (add-zero i) f
      few ws o f (suc k) h = rw (add-suc i k, ← suc-add i k) (o.few k (omega arith))
