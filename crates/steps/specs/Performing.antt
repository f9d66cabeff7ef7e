-- What the code's operations promise: each tells what the rules' move of its statement gives, whatever comes after the statement.
use Rattle.std.specs.Prelude.{Bool, List, ◌≡◌, ℕ, ◌-◌, ◌≤◌, ◌<◌, get_or, length, set, Result, Ok, Err}
use Rattle.answers.specs.declared.Fault.{Fault}
use Rattle.answers.specs.Check.{number_of, Check, ok, refused, refusal, ◌>>=◌}
use Rattle.rules.specs.declared.place.Location.{Location}
use Rattle.rules.specs.Basics.{byte}
use Rattle.rules.specs.Region.{Region, free_in}
use Rattle.rules.specs.Path.{route}
use Rattle.rules.specs.Commands.{need_route}
use Rattle.rules.specs.Syntax.{Side, device, Place, Preparation, Op, init, merge, Statement, op, Function}
use Rattle.rules.specs.Program.{Scope}
use Rattle.rules.specs.Slots as rules
use Rattle.rules.specs.Machine.{Frame, Actual, locate, Item, run, Move, move}
use Rattle.sets.specs.declared.LocationSet.{LocationSet}
use Rattle.sets.specs.declared.rows.Rows.{Rows}
use Rattle.device.specs.Reader.{Owned, RowsOf}
use Rattle.program.specs.In.{StatementIn}
use Rattle.steps.specs.declared.Act.{Act}
use Rattle.steps.specs.declared.Act.TheVariants.{Quiet}
use Rattle.steps.specs.declared.slots.Slots.{Slots}
use Rattle.steps.specs.declared.operations.Performed.{Performed}
use Rattle.steps.specs.declared.job.Job.{Job}
use Rattle.steps.specs.State.{place_of, slots_of, located_in}
use Rattle.steps.specs.Told.{act_of}

abbrev pub performed : Slots → ℕ → Act → Performed
performed φ e a = record { slots = φ; edges = e; act = a }

abbrev pub Answer : Type 0
Answer = Result Performed Fault

-- a move of an operation: other slots on top
abbrev pub move_to : Frame → List Frame → List Item → rules.Act device → ℕ → Move
move_to φ φs rest a e = record { next = record { top = φ; below = φs; items = rest }; act = a; edges = e }

-- r tells what a check of a move gives, the frames below and the items after being left as they are
pub data Tells (r : Answer) (φs : List Frame) (rest : List Item) : Check Move → Type 0 where
  moves : {φ : Frame} {a : rules.Act device} {e : ℕ} {ψ : Slots} → r ≡ Ok (performed ψ e (act_of a)) → slots_of ψ ≡ φ
      → Tells r φs rest (ok (move_to φ φs rest a e))
  fails : {reason : Fault} {o : ℕ} → r ≡ Err reason → Tells r φs rest (refused (refusal (number_of reason) o))

-- the move of the operation a, wherever it stands and whatever comes after
abbrev pub Does : Region → List Function → Bool → (ℕ → Bool) → {d : Side} → Actual d → Slots → Op d → Answer → Type 0
Does R fs v is_free σ φ a r = (o : ℕ) (φs : List Frame) (rest : List Item) → Tells r φs rest (move R fs v is_free (slots_of φ) φs (run σ (op o a)) rest)

-- an operation that asks nothing of the region
abbrev pub Performs : Slots → Bool → ((d : Side) → Op d) → Answer → Type 0
Performs φ v a r = (d : Side) (σ : Actual d) (R : Region) (fs : List Function) (is_free : ℕ → Bool) → Does R fs v is_free σ φ (a d) r

-- the map that the code has is the occupancy, and free past it
pub record Maps (map occupancy : List ℕ) : Type 0 where
  pub long : length map ≡ 256
  pub same : (x : ℕ) → get_or map x 0 ≡ get_or occupancy x 0

abbrev pub Inits : Slots → ℕ → Location → LocationSet → List ℕ → Answer → Type 0
Inits φ x l owned map r =
    (d : Side) (σ : Actual d) (q : Preparation) (p : Place d) (R : Region) (fs : List Function) (v : Bool) (occupancy : List ℕ)
    → Owned R owned → Maps map occupancy → locate σ p ≡ place_of l → Does R fs v (free_in R occupancy) σ φ (init q x p) r

-- a merge, once its qubits are known to be two at the locations l and k: what is left is its route
abbrev pub Routes : Slots → ℕ → Location → Location → Rows → LocationSet → List ℕ → Bool → Answer → Type 0
Routes φ y l k rows owned map v r =
    (R : Region) (occupancy : List ℕ) → Owned R owned → RowsOf R rows → Maps map occupancy
    → (a : rules.Act device) → act_of a ≡ Quiet → (o : ℕ) (φs : List Frame) (rest : List Item)
    → Tells r φs rest ((need_route (route R (free_in R occupancy) l.0 k.0) o >>= λ p. ok (length p - 1))
    >>= λ e. ok (move_to (set (slots_of φ) y (rules.bool v)) φs rest a e))

abbrev pub Merges : Slots → ℕ → ℕ → ℕ → Rows → LocationSet → List ℕ → Bool → Answer → Type 0
Merges φ y x z rows owned map v r =
    (d : Side) (σ : Actual d) (b c : ℕ) (R : Region) (fs : List Function) (occupancy : List ℕ)
    → Owned R owned → RowsOf R rows → Maps map occupancy → Does R fs v (free_in R occupancy) σ φ (merge y b x c z) r

-- places in the scope S are located as the code locates their bytes
pub record Named {d : Side} (S : Scope) (σ : Actual d) (j : Job) : Type 0 where
  pub named : (b : ℕ) → b < S.places → locate σ (record { no = b }) ≡ place_of (located_in j b)

-- an operation stands there, and its place, if it has one, can be located
pub record Operable (s : List ℕ) (at : ℕ) (j : Job) : Type 0 where
  pub d : Side
  pub S : Scope
  pub depths : ℕ
  pub t : Statement d
  pub p : ℕ
  pub here : StatementIn s S depths at t p
  pub size : length s ≤ 4096
  pub places : 0 < j.depth → S.places ≤ 16
  pub no_if : byte s at ≡ 10 → ⊥
  pub no_while : byte s at ≡ 11 → ⊥
  pub no_call : byte s at ≡ 12 → ⊥

abbrev pub Operates : List ℕ → ℕ → Job → Rows → LocationSet → List ℕ → Bool → Answer → Type 0
Operates s at j rows owned map v r =
    (d : Side) (S : Scope) (depths : ℕ) (t : Statement d) (p : ℕ) (σ : Actual d) (R : Region) (fs : List Function) (occupancy : List ℕ)
    → StatementIn s S depths at t p → Named S σ j → Owned R owned → RowsOf R rows → Maps map occupancy
    → (φs : List Frame) (rest : List Item) → Tells r φs rest (move R fs v (free_in R occupancy) (slots_of j.top.slots) φs (run σ t) rest)
