-- Sets of locations as 256 bits: which locations a set has. Nothing but the functions of the set looks into `has`.
use Rattle.std.specs.Prelude.{Bool, true, false, ◌&&◌, [], ◌≡◌, ℕ, ◌/◌, ◌%◌, ◌^◌, ◌≤◌, ◌<◌, eqb, ltb, get_or}
use Rattle.sets.specs.declared.LocationSet.{LocationSet}
use Rattle.sets.specs.declared.rows.Rows.{Rows}

-- bit j of x: 0 or 1
unfoldable pub bit_of : ℕ → ℕ → ℕ
bit_of x j = x / 2 ^ j % 2

-- y is in the set
unfoldable pub has : LocationSet → ℕ → Bool
has s y = ltb y 256 && eqb (bit_of (get_or s.words (y / 64) 0) (y % 64)) 1

-- row x of a table: the locations joined to x, none where the table has no such row
abbrev pub row_of : Rows → ℕ → LocationSet
row_of t x = get_or t.rows x (record { words = [] })

-- x is the first member of s
pub record First (s : LocationSet) (x : ℕ) : Type 0 where
  pub member : has s x ≡ true
  pub passed : (j : ℕ) → j < x → has s j ≡ false

-- x is the first member of s from a number on
pub record FirstFrom (s : LocationSet) (start x : ℕ) : Type 0 where
  pub least : start ≤ x
  pub member : has s x ≡ true
  pub passed : (j : ℕ) → start ≤ j → j < x → has s j ≡ false

-- t is the lowest bit of w that is set
pub record Lowest (w t : ℕ) : Type 0 where
  pub small : t < 64
  pub on : bit_of w t ≡ 1
  pub below : (j : ℕ) → j < t → bit_of w j ≡ 0

-- r is w without its lowest bit
pub record Cleared (w r : ℕ) : Type 0 where
  pub less : r < w
  pub off : (t : ℕ) → Lowest w t → bit_of r t ≡ 0
  pub same : (t j : ℕ) → Lowest w t → (j ≡ t → ⊥) → bit_of r j ≡ bit_of w j
