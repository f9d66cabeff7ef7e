-- Laws of a job's region, as a set and as rows. The loop over the owner bytes keeps which of the locations before it are the job's; the loop over the
-- edges keeps that what the rows hold, or an edge still to come joins, is what the region joins. An edge is joined in both directions where both its
-- ends are the job's, and changes nothing else.
use mathlib.Core.Bool.{Bool, true, false, ◌&&◌, ◌||◌, and-false, and_comm, or_comm, or-false}
use mathlib.Core.List.{List, [], ◌∷◌}
use mathlib.Core.Logic.{⊎_elim}
use mathlib.Core.Path.{◌≡◌, refl, sym, ap, ap₂, ◌∙◌}
use native.Mathlib.Numerals.{add-one}
use native.Mathlib.Omega.{arith}
use Prim.Native.Nat.{ℕ, ◌+◌, ◌*◌, ◌≤◌, ◌<◌}
use borrow.Author.Tests.{eqb-true}
use lib.Dec.{eqb, ltb}
use lib.ListN.{length, drop, drop_of_length-le}
use lib.Seq.{drop-cons}
use Rattle.rules.specs.Basics.{byte, any}
use Rattle.rules.specs.Device.{Edge, Device}
use Rattle.rules.specs.Region.{Region, region_of, owns, touches, joined}
use Rattle.rules.specs.declared.device.DeviceHeader.{DeviceHeader}
use Rattle.sets.proofs.Bools.{and_both, or_cases}
use Rattle.device.specs.Parts.{edge_at, owned_by}
use Rattle.device.specs.Reader.{Reads}
use Rattle.device.proofs.DeviceLaws.{known, owns_is, owns_byte}

-- ---- the set: once every location is passed
pub all_taken : {s : List ℕ} {h : DeviceHeader} {D : Device} → Reads s h D → (j x y : ℕ) → x ≡ h.locations
    → (ltb y x && owned_by s j y) ≡ owns (region_of D j) y
all_taken {s} r j x y e = ap (λ (n : ℕ). ltb y n && owned_by s j y) e ∙ sym (owns_is r j y)

-- ---- the loop over the edges
shuffle : (h s t P J : Bool) → (((s && t && P) || h) || (s && t && J)) ≡ (h || (s && t && (P || J)))
shuffle true true true true J = refl
shuffle true true true false J = refl
shuffle true true false P J = refl
shuffle true false t P J = refl
shuffle false true true true J = refl
shuffle false true true false J = refl
shuffle false true false P J = refl
shuffle false false t P J = refl

-- the edges from number i on join x and y
pub to_come : Device → ℕ → ℕ → ℕ → ℕ → Bool
to_come D j i x y = owns (region_of D j) x && owns (region_of D j) y && any (touches x y) (drop i D.edges)

pub rows_start : (D : Device) (j x y : ℕ) (h : Bool) → h ≡ false → (h || to_come D j 0 x y) ≡ joined (region_of D j) x y
unfolding to_come
rows_start D j x y h e = rw e

pub rows_done : (D : Device) (j i x y : ℕ) (h : Bool) → length D.edges ≤ i → (h || to_come D j i x y) ≡ h
unfolding to_come
rows_done D j i x y h l = rw (drop_of_length-le D.edges l, and-false (owns (region_of D j) x && owns (region_of D j) y)) (or-false h)

touched_lt : (n p q x y : ℕ) → p < n → q < n → touches x y (record { from = p; to = q }) ≡ true → (x < n) × (y < n)
touched_lt n p q x y l m t =
    ⊎_elim
    (λ e. let w = and_both (eqb p x) (eqb q y) e in let a = eqb-true p x w.0 in let b = eqb-true q y w.1 in (omega arith, omega arith))
    (λ e. let w = and_both (eqb p y) (eqb q x) e in let a = eqb-true p y w.0 in let b = eqb-true q x w.1 in (omega arith, omega arith))
    (or_cases (eqb p x && eqb q y) (eqb p y && eqb q x) t)

-- edge number i is next
module _ {s : List ℕ} {h : DeviceHeader} {D : Device} (r : Reads s h D) (j i : ℕ) (l : i < h.edges) where
  abbrev next : Edge
  next = edge_at s (9 + h.locations + 2 * i)

  -- where an edge touches, the owner bytes are those of the region
  owned_touched : (x y : ℕ) → (owned_by s j x && owned_by s j y && touches x y next) ≡ (owns (region_of D j) x && owns (region_of D j) y && touches x y next)
  owned_touched x y =
      let k = known r in
      let a = k.edge_rises i l in
      let b = k.edge_within i l in
      go (touches x y next) (touched_lt h.locations next.from next.to x y (omega arith) b)
    where
      go : (t : Bool) → (t ≡ true → (x < h.locations) × (y < h.locations))
          → (owned_by s j x && owned_by s j y && t) ≡ (owns (region_of D j) x && owns (region_of D j) y && t)
      go true f = rw (owns_byte r j x (f refl).0, owns_byte r j y (f refl).1)
      go false f = and-false (owned_by s j x && owned_by s j y) ∙ sym (and-false (owns (region_of D j) x && owns (region_of D j) y))

  split : (x y : ℕ) → any (touches x y) (drop i D.edges) ≡ (touches x y next || any (touches x y) (drop (i + 1) D.edges))
  split x y =
      let k = known r in
      let none : Edge = record { from = 0; to = 0 } in
      rw (drop-cons D.edges i none (omega arith), k.edge i none l, add-one i)

  pub rows_more : (a b : ℕ) → a ≡ byte s (9 + h.locations + 2 * i) → b ≡ byte s (9 + h.locations + 2 * i + 1) → (x y : ℕ) (g g' : Bool)
      → g' ≡ ((owned_by s j x && owned_by s j y && touches x y (record { from = a; to = b })) || g)
      → (g' || to_come D j (i + 1) x y) ≡ (g || to_come D j i x y)
  unfolding to_come
  rows_more a b ea eb x y g g' e =
      rw (e, ea, eb, owned_touched x y, split x y)
      (shuffle g (owns (region_of D j) x) (owns (region_of D j) y) (touches x y next) (any (touches x y) (drop (i + 1) D.edges)))

-- ---- the edges of a region have no direction
any_turn : (x y : ℕ) (es : List Edge) → any (touches x y) es ≡ any (touches y x) es
any_turn x y [] = refl
any_turn x y (e ∷ es) = ap₂ ◌||◌ (or_comm (eqb e.from x && eqb e.to y) (eqb e.from y && eqb e.to x)) (any_turn x y es)

pub joined_turn : (R : Region) (x y : ℕ) → joined R x y ≡ joined R y x
joined_turn R x y = ap₂ ◌&&◌ (and_comm (owns R x) (owns R y)) (any_turn x y R.edges)
