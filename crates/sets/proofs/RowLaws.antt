-- The law of an empty table of rows: each of its rows is empty, and so is a row that is not there.
use mathlib.Core.Bool.{false}
use mathlib.Core.List.{[]}
use mathlib.Core.Path.{◌≡◌, refl}
use Prim.Native.Nat.{ℕ, zero, suc}
use lib.ListN.{replicate}
use Rattle.sets.specs.declared.LocationSet.{LocationSet}
use Rattle.sets.specs.Sets.{has, row_of}
use Rattle.sets.proofs.SetLaws.{zero_has}

-- a table of one empty set in each row
pub empty_rows : (e : LocationSet) → ((y : ℕ) → has e y ≡ false) → (n u v : ℕ) → has (row_of (record { rows = replicate n e }) u) v ≡ false
empty_rows e f zero u v = zero_has (record { words = [] }) v (λ i. refl)
empty_rows e f (suc n) zero v = f v
empty_rows e f (suc n) (suc u) v = empty_rows e f n u v
