-- Arrays of locations that a loop fills from the front: what is filled stays, and the rest is as it was.
use mathlib.Core.List.{List}
use mathlib.Core.Path.{◌≡◌, refl, ◌∙◌}
use native.Mathlib.Decide.{ℕ_discrete}
use native.Mathlib.Omega.{arith}
use Prim.Native.Nat.{ℕ, zero, suc, ◌+◌, ◌≤◌, ◌<◌}
use lib.ListN.{set, length, replicate}
use lib.Seq.{get_or-set_same, get_or-set_other}
use Rattle.walking.specs.Names.{placed}

pub none_placed : (n j : ℕ) → placed (replicate n 0) j ≡ 0
none_placed zero j = refl
none_placed (suc n) zero = refl
none_placed (suc n) (suc j) = none_placed n j

-- one more element is filled
pub filled : (f : List ℕ) (v : ℕ → ℕ) (i l : ℕ) → i < length f → l ≡ v i → ((j : ℕ) → j < i → placed f j ≡ v j) → (j : ℕ) → j < i + 1
    → placed (set f i l) j ≡ v j
filled f v i l r e h j k = go (ℕ_discrete j i)
  where
    go : Dec (j ≡ i) → placed (set f i l) j ≡ v j
    go (yes q) = rw q (get_or-set_same f i l 0 r ∙ e)
    go (no q) = get_or-set_other f i j l 0 q ∙ h j (omega arith)

-- the rest is as it was
pub unfilled : (f : List ℕ) (v : ℕ → ℕ) (i l : ℕ) → ((j : ℕ) → i ≤ j → placed f j ≡ v j) → (j : ℕ) → i + 1 ≤ j → placed (set f i l) j ≡ v j
unfilled f v i l h j k = get_or-set_other f i j l 0 (λ e. omega arith) ∙ h j (omega arith)
