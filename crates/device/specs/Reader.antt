-- What the device reader answers, and what it hands on: the region of a job as a set of locations and rows of bits.
use Rattle.std.specs.Prelude.{List, ◌≡◌, ℕ, length}
use Rattle.answers.specs.Check.{Check, ok, ◌>>=◌}
use Rattle.rules.specs.declared.device.DeviceHeader.{DeviceHeader}
use Rattle.rules.specs.Device.{Device, read_device}
use Rattle.rules.specs.Region.{Region, owns, joined}
use Rattle.sets.specs.declared.LocationSet.{LocationSet}
use Rattle.sets.specs.declared.rows.Rows.{Rows}
use Rattle.sets.specs.Sets.{has, row_of}

-- the numbers of a device that reads, or its refusal
unfoldable pub device_read : List ℕ → Check DeviceHeader
device_read s = read_device s >>= λ D. ok (record { locations = length D.owners; edges = length D.edges })

-- the bytes s read as device D, whose numbers h has
pub record Reads (s : List ℕ) (h : DeviceHeader) (D : Device) : Type 0 where
  pub reads : read_device s ≡ ok D
  pub locations : h.locations ≡ length D.owners
  pub edges : h.edges ≡ length D.edges

-- the set holds the region's locations
pub record Owned (R : Region) (s : LocationSet) : Type 0 where
  pub owned : (x : ℕ) → has s x ≡ owns R x

-- row x holds the locations that a region edge joins with x
pub record RowsOf (R : Region) (rows : Rows) : Type 0 where
  pub row : (x y : ℕ) → has (row_of rows x) y ≡ joined R x y
