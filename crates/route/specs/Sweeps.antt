-- What the sweeps over a set's members have done when they stand before number n: the members below n are done, the others not.
use Rattle.std.specs.Prelude.{Bool, true, false, not, ◌&&◌, List, Option, MatchOption, ◌≡◌, ℕ, ◌+◌, ◌*◌, ◌≤◌, ◌<◌, eqb, length, get_or}
use Rattle.sets.specs.declared.LocationSet.{LocationSet}
use Rattle.sets.specs.declared.rows.Rows.{Rows}
use Rattle.sets.specs.Sets.{bit_of, has, row_of}
use Rattle.route.specs.declared.turn.Turn.{Turn}

-- w is word i of S
pub record Word (S : ℕ → Bool) (i w : ℕ) : Type 0 where
  pub bit : (j : ℕ) → j < 64 → S (i * 64 + j) ≡ eqb (bit_of w j) 1

-- r is s with the word w at i
pub record Put (s : LocationSet) (i w : ℕ) (r : LocationSet) : Type 0 where
  pub here : Word (has r) i w
  pub under : (y : ℕ) → y < i * 64 → has r y ≡ has s y
  pub above : (y : ℕ) → i * 64 + 64 ≤ y → has r y ≡ has s y

-- out has what the members of S are joined to; which members of S it has is left open
pub record Joined (rows : Rows) (S : ℕ → Bool) (n : ℕ) (out : LocationSet) : Type 0 where
  pub to : (y : ℕ) → has out y ≡ true → S y ≡ false → (x : ℕ) × (x < n) × (S x ≡ true) × (has (row_of rows x) y ≡ true)
  pub all : (x y : ℕ) → x < n → S x ≡ true → has (row_of rows x) y ≡ true → has out y ≡ true

-- an end's turn that meets nothing: N is its new level, F what the other end's newest level is joined to, L what was left before; t has what is left
-- afterwards, what N is joined to, and 0 exactly where N has no location
pub record Advanced (rows : Rows) (N F L : ℕ → Bool) (n : ℕ) (t : Turn) : Type 0 where
  pub taken : (y : ℕ) → y < n → has t.left y ≡ (L y && not (N y))
  pub later : (y : ℕ) → n ≤ y → has t.left y ≡ L y
  pub next : Joined rows N n t.joined
  pub some : (t.any ≡ 0 → ⊥) → (y : ℕ) × (N y ≡ true)
  pub none : t.any ≡ 0 → (y : ℕ) → y < n → N y ≡ false
  pub apart : (y : ℕ) → y < n → N y ≡ true → F y ≡ true → ⊥

-- a turn, none where N meets F
abbrev pub Turned : Rows → (ℕ → Bool) → (ℕ → Bool) → (ℕ → Bool) → ℕ → Option Turn → Type 0
Turned rows N F L n r = MatchOption r ((y : ℕ) × (N y ≡ true) × (F y ≡ true)) (Advanced rows N F L n)

-- v stands at the members of S, and elsewhere what stood there before
pub record Noted (S : ℕ → Bool) (v n : ℕ) (before after : List ℕ) : Type 0 where
  pub long : length after ≡ length before
  pub at : (y : ℕ) → y < n → S y ≡ true → get_or after y 0 ≡ v
  pub off : (y : ℕ) → S y ≡ false → get_or after y 0 ≡ get_or before y 0
  pub above : (y : ℕ) → n ≤ y → get_or after y 0 ≡ get_or before y 0

-- next has what the members of S are joined to among the locations L, and left has the others of these; in h stands for each of next the first of S that is
-- joined to it, and elsewhere what stood in before
pub record Spread (rows : Rows) (S : ℕ → Bool) (n : ℕ) (L : ℕ → Bool) (before : List ℕ) (left next : LocationSet) (h : List ℕ) : Type 0 where
  pub stay : (y : ℕ) → has left y ≡ (L y && not (has next y))
  pub new : (y : ℕ) → has next y ≡ true → L y ≡ true
  pub all : (x y : ℕ) → x < n → S x ≡ true → has (row_of rows x) y ≡ true → L y ≡ true → has next y ≡ true
  pub under : (y : ℕ) → has next y ≡ true → get_or h y 0 < n
  pub member : (y : ℕ) → has next y ≡ true → S (get_or h y 0) ≡ true
  pub edge : (y : ℕ) → has next y ≡ true → has (row_of rows (get_or h y 0)) y ≡ true
  pub least : (y z : ℕ) → has next y ≡ true → S z ≡ true → has (row_of rows z) y ≡ true → get_or h y 0 ≤ z
  pub old : (y : ℕ) → has next y ≡ false → get_or h y 0 ≡ get_or before y 0
