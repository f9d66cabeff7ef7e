-- What the walk's own values mean, and over what it goes: a block or a statement of a body that stands in the bytes of a program.
use Rattle.std.specs.Prelude.{Bool, false, List, Option, Result, Ok, Err, ◌≡◌, ℕ, ◌<◌, ◌≤◌, length, take}
use Rattle.std.specs.Option.{is_none}
use Rattle.answers.specs.Check.{Check, ok, refused, refusal, ◌>>=◌}
use Rattle.rules.specs.Region.{Region}
use Rattle.rules.specs.Syntax.{Side, device, Place, Statement, Statements, Block, Function, function, Program}
use Rattle.rules.specs.Program.{Scope}
use Rattle.rules.specs.Path.{route}
use Rattle.route.specs.Found.{edges_of}
use Rattle.sets.specs.declared.LocationSet.{LocationSet}
use Rattle.sets.specs.Sets.{has}
use Rattle.sets.specs.declared.rows.Rows.{Rows}
use Rattle.device.specs.Reader.{RowsOf}
use Rattle.program.specs.In.{BlockIn, StatementIn, StatementsIn, ProgramIn, offset_of}
use Rattle.program.specs.Heads.{entry}
use Rattle.walking.specs.declared.walk.Walk.{Walk}
use Rattle.walking.specs.declared.walk.NoPath.{NoPath}
use Rattle.walking.specs.Quiet.{Skips}
use Rattle.walking.specs.Names.{placed, Names, named}
use Rattle.walking.specs.Walk.{Standing, Walker, walk_statement, walk_block, Callees}

abbrev pub standing : List ℕ → LocationSet → Standing
standing f s = record { frame = placed f; free = has s }

-- no path joins a and b: there is no route that is singled out
unfoldable pub no_path : Region → (ℕ → Bool) → ℕ → ℕ → Bool
no_path R F a b = is_none (edges_of (route R F a b))

-- which locations are free after a walk, or 21 at the merge that has no path
abbrev pub walk_said : Result (Unit {0}) NoPath → LocationSet → Check (ℕ → Bool)
walk_said (Ok u) s = ok (has s)
walk_said (Err merge) s = refused (refusal 21 merge.place)

-- and the frame that stays
abbrev pub kept : List ℕ → Check (ℕ → Bool) → Check Standing
kept f m = m >>= λ F. ok (record { frame = placed f; free = F })

-- the body that g functions come before, main's where these are all: it may call those, and its places have names; the table of quiet runs is by the
-- counts
pub record BodyOf (w : Walk) (p : Program) (counts : List (Option ℕ)) (g : ℕ) (S : Scope) (n : Names) : Type 0 where
  pub program : ProgramIn w.bytes.now p
  pub offsets : (f : ℕ) → f < length p.functions → (entry w.functions.now f).body ≡ offset_of (function p.functions f).body
  pub reach : g ≤ length p.functions
  pub earlier : S.earlier ≡ take g p.functions
  pub room : n.main ≡ false → S.places ≤ 16
  pub table : Skips w.bytes.now counts w.quiet.now.ends

-- a block of it, a statement, and the statements up to a block's end
pub record BlockAt (w : Walk) (g : ℕ) (n : Names) (at : ℕ) : Type 0 where
  pub side : Side
  pub program : Program
  pub counts : List (Option ℕ)
  pub scope : Scope
  pub depths : ℕ
  pub tree : Block side
  pub next : ℕ
  pub body : BodyOf w program counts g scope n
  pub stands : BlockIn w.bytes.now scope depths at tree next

pub record StatementAt (w : Walk) (g : ℕ) (n : Names) (at : ℕ) : Type 0 where
  pub side : Side
  pub program : Program
  pub counts : List (Option ℕ)
  pub scope : Scope
  pub depths : ℕ
  pub tree : Statement side
  pub next : ℕ
  pub body : BodyOf w program counts g scope n
  pub stands : StatementIn w.bytes.now scope depths at tree next

pub record StatementsAt (w : Walk) (g : ℕ) (n : Names) (at end : ℕ) : Type 0 where
  pub side : Side
  pub program : Program
  pub counts : List (Option ℕ)
  pub scope : Scope
  pub depths : ℕ
  pub tree : Statements side
  pub body : BodyOf w program counts g scope n
  pub stands : StatementsIn w.bytes.now scope depths at end tree

-- over which region, with which callees and at which places it is walked
pub record Over {d : Side} (R : Region) (rows : Rows) (counts : List (Option ℕ)) (fs : List Function) (g : ℕ) (S : Scope) (n : Names) (W : Walker)
    (σ : Place d → Place device) : Type 0 where
  pub region : RowsOf R rows
  pub callees : Callees R fs counts g W
  pub places : (l : Place d) → l.no < S.places → (σ l).no ≡ named n l.no

-- how the walk over the block ends, and over the statement, which leaves the frame as it is
module _ (w : Walk) (g : ℕ) (n : Names) (at : ℕ) (frame : List ℕ) (free : LocationSet) (r : Result (Unit {0}) NoPath) (after : LocationSet) where
  pub record BlockWalked : Type 0 where
    pub block : (b : BlockAt w g n at) (R : Region) (W : Walker) (σ : Place b.side → Place device)
        → Over R w.rows.now b.counts b.program.functions g b.scope n W σ → walk_said r after ≡ walk_block R W σ b.tree (standing frame free)

  pub record StatementWalked : Type 0 where
    pub statement : (t : StatementAt w g n at) (R : Region) (W : Walker) (σ : Place t.side → Place device)
        → Over R w.rows.now t.counts t.program.functions g t.scope n W σ
        → kept frame (walk_said r after) ≡ walk_statement R W σ t.tree (standing frame free)

-- the same for a call, whatever the caller's frame is
pub record CallWalked (w : Walk) (g : ℕ) (n : Names) (at : ℕ) (free : LocationSet) (r : Result (Unit {0}) NoPath) (after : LocationSet) : Type 0 where
  pub call : (frame : List ℕ) → StatementWalked w g n at frame free r after
