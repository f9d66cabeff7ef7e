-- The invariant: what the rows hold, or an edge still to come joins, is what the region joins.
use mathlib.Core.Bool.{◌||◌}
use mathlib.Core.Path.{◌≡◌}
use Prim.Native.Nat.{ℕ}
use Rattle.rules.specs.Device.{Device}
use Rattle.rules.specs.Region.{region_of, joined}
use Rattle.sets.specs.Sets.{has, row_of}
use Rattle.device.specs.Reader.{Reads}
use Rattle.device.proofs.RegionLaws.{to_come}
use Rattle.device.proofs.file.DeviceFile.region_rows.Given as goal

abbrev pub invariant-loop-i : goal.invariant-loop-i
invariant-loop-i l = (D : Device) → Reads l.self.bytes.now l.self.header D → (x y : ℕ)
    → (has (row_of l.rows x) y || to_come D l.job l.i x y) ≡ joined (region_of D l.job) x y
