-- The numbers of the code stand for a state of the reader, and the bytes in the buffer are those of the program so far: a block's length word is 0 until
-- the block has ended.
use Rattle.std.specs.Prelude.{true, false, List, [], ◌∷◌, ◌++◌, ◌≡◌, ℕ, ◌+◌, ◌<◌, ◌≤◌, get_or, length}
use Rattle.std.proofs.Math.Option.{Option, none, some}
use Rattle.rules.specs.Syntax.{Function, function}
use Rattle.rules.specs.Unlisting.{Opened, Sofar, State, fresh, sofar, least}
use Rattle.standing.specs.declared.state.Standing.{Standing}
use Rattle.standing.specs.Numbers.{no_block, fresh_of, head_of}

-- the bytes before the innermost block's own, behind the file's header
abbrev pub outside : List Opened → List ℕ
outside [] = []
outside (b ∷ bs) = outside bs ++ (b.before ++ (0 ∷ 0 ∷ []))

abbrev pub laid : Sofar → List ℕ
laid p = outside p.open_blocks ++ p.bytes

abbrev pub laid_at : State → List ℕ
laid_at fresh = []
laid_at (sofar p) = laid p

module _ (c : Standing) where
  -- the locations and arguments of functions
  pub record Heads (fs : List Function) : Type 0 where
    pub locations : (g : ℕ) → g < length fs → (head_of c g).locations ≡ (function fs g).k
    pub arguments : (g : ℕ) → g < length fs → (head_of c g).arguments ≡ (function fs g).m
    pub few : length fs ≤ 15
    pub most_k : (g : ℕ) → g < length fs → (function fs g).k ≤ 16
    pub most_m : (g : ℕ) → g < length fs → (function fs g).m ≤ 8

  -- each open block, the innermost first: whether its else is due, and where its length word stands
  unfoldable pub Blocks : List Opened → Type 0
  Blocks [] = Unit {0}
  Blocks (b ∷ bs) =
      (get_or c.blocks (length bs) no_block ≡ record { due = b.due; word = 6 + length (outside bs ++ b.before) }) × Blocks bs

  -- in main, or outside it with the functions there are after the one being read
  unfoldable pub After : Option (List Function) → Type 0
  After none = (c.in_main ≡ true) × (c.functions ≡ c.callees)
  After (some fs) = (c.in_main ≡ false) × (c.functions ≡ length fs) × Heads fs

  pub record Means (p : Sofar) : Type 0 where
    pub started : c.started ≡ true
    pub places : c.places ≡ p.scope.places
    pub most : c.places ≤ 256
    pub callees : c.callees ≡ length p.scope.earlier
    pub heads : Heads p.scope.earlier
    pub after : After p.after
    pub depth : c.depth ≡ length p.open_blocks
    pub deep : c.depth ≤ 8
    pub blocks : Blocks p.open_blocks
    pub used : c.used ≡ 6 + length (laid p)
    pub owed : c.used + c.owed ≡ least p
    pub fits : c.used + c.owed ≤ 4096
    pub heads_long : length c.heads ≡ 16
    pub blocks_long : length c.blocks ≡ 8

  -- the same of nothing read yet
  unfoldable pub Stands : State → Type 0
  Stands fresh = c ≡ fresh_of
  Stands (sofar p) = Means p
