-- The steps of a job: one item is one step.
use Rattle.std.specs.Prelude.{Bool, List, [], ◌∷◌, map, ℕ, ◌-◌, length, take, replicate}
use Rattle.answers.specs.Check.{Check, ok, refused, ◌>>=◌, ◌>>◌}
use Rattle.rules.specs.Basics.{chosen, without, set_all}
use Rattle.rules.specs.Region.{Region, owns}
use Rattle.rules.specs.Path.{route}
use Rattle.rules.specs.Syntax.{Side, device, parameter, Place, at, Statement, op, if, while, call}
use Rattle.rules.specs.Syntax.{Statements, done, ◌⨾◌, Block, block, Function, function, Program}
use Rattle.rules.specs.Slots.{Slot, unbound, slot, need_bool, need_ref, holds_no_qubit, Setting}
use Rattle.rules.specs.Slots.{Act, quiet, takes, gives, merges, perform, callable, entered, kept}
use Rattle.rules.specs.Commands.{need_route}

abbrev pub Frame : Type 0
Frame = List (Slot device Bool)

-- What a body's places are on the device: in main themselves, in a function the call's locations
pub data Actual : Side → Type 0 where
  themselves : Actual device
  locations : List (Place device) → Actual parameter

abbrev pub locate : {s : Side} → Actual s → Place s → Place device
locate themselves l = l
locate (locations ls) p = at ls p.no

-- An item to come: a statement of a body, or the return from a call, with the call's offset, locations and argument slots
pub data Item : Type 0 where
  run : {s : Side} → Actual s → Statement s → Item
  return : ℕ → List (Place device) → List ℕ → Item

-- a job's own state: its frames of slots and the items to come
pub record Job : Type 0 where
  pub top : Frame
  pub below : List Frame
  pub items : List Item

-- a block's statements before the rest
abbrev pub statements_before : {s : Side} → Actual s → Statements s → List Item → List Item
statements_before σ done rest = rest
statements_before σ (t ⨾ ts) rest = run σ t ∷ statements_before σ ts rest

abbrev pub block_before : {s : Side} → Actual s → Block s → List Item → List Item
block_before σ (block o ts) rest = statements_before σ ts rest

abbrev pub fresh : Program → Job
fresh p = record { top = replicate 32 unbound; below = []; items = block_before themselves p.main [] }

abbrev pub offset_of : {s : Side} → Statement s → ℕ
offset_of (op o a) = o
offset_of (if o y b c) = o
offset_of (while o r b) = o
offset_of (call o f ls xs) = o

abbrev pub item_offset : Item → ℕ
item_offset (run σ t) = offset_of t
item_offset (return o ls xs) = o

-- A move: the job after it, what it does to the map, and the edges of a merge's route
pub record Move : Type 0 where
  pub next : Job
  pub act : Act device
  pub edges : ℕ

abbrev pub silent : Frame → List Frame → List Item → Move
silent φ φs is = record { next = record { top = φ; below = φs; items = is }; act = quiet; edges = 0 }

-- over the job's region, its functions, the outcome given, and which locations of the region are free
module _ (R : Region) (fs : List Function) (outcome : Bool) (is_free : ℕ → Bool) where
  -- binding overwrites a bool or a reference but not a qubit
  abbrev pub floor : {s : Side} → Actual s → Setting s device Bool
  floor σ =
      record { named = locate σ; may_bind = holds_no_qubit; inside = λ l. owns R l.no; is_free = λ l. is_free l.no; outcome = outcome; known = λ v. v }

  -- 21 comes last
  abbrev pub edges_of : Act device → ℕ → Check ℕ
  edges_of quiet o = ok 0
  edges_of (takes q l) o = ok 0
  edges_of (gives l) o = ok 0
  edges_of (merges b l e k) o = do
    p ← need_route (route R is_free l.no k.no) o
    ok (length p - 1)

  -- An if puts the chosen block before the rest; a while whose reference holds true its body and itself; a call the callee's body and a return.
  abbrev pub move : Frame → List Frame → Item → List Item → Check Move
  move φ φs (run σ (op o a)) rest = do
    d ← perform (floor σ) o φ a
    e ← edges_of d.act o
    ok (record { next = record { top = d.slots; below = φs; items = rest }; act = d.act; edges = e })
  move φ φs (run σ (if o y b c)) rest = do
    v ← need_bool (slot φ y) o
    ok (silent φ φs (chosen v (block_before σ b rest) (block_before σ c rest)))
  move φ φs (run σ (while o r b)) rest = do
    v ← need_ref (slot φ r) o
    ok (silent φ φs (chosen v (block_before σ b (run σ (while o r b) ∷ rest)) rest))
  move φ φs (run σ (call o f ls xs)) rest = do
    let actual : List (Place device) = map (locate σ) ls
    callable (floor σ) o φ actual xs
    ok (silent (entered (take (length xs) actual)) (φ ∷ φs) (block_before (locations actual) (function fs f).body (return o actual xs ∷ rest)))
  -- The caller's slot given for argument i stays bound exactly when callee slot i holds a qubit at the call's location i.
  move φ [] (return o ls xs) rest = ok (silent φ [] rest)
  move φ (χ ∷ φs) (return o ls xs) rest = ok (silent (set_all unbound (without (kept φ (at ls) (length xs)) xs) χ) φs rest)

-- What a step writes: 0 moved, 1 finished or the reason; the edges of a moved merge; the item's offset
pub record Record : Type 0 where
  pub code : ℕ
  pub edges : ℕ
  pub offset : ℕ

pub record Stepped : Type 0 where
  pub answer : Record
  pub act : Act device
  pub next : Job

-- stuck: nothing changes
abbrev pub stepped : Job → ℕ → Check Move → Stepped
stepped J o (ok m) = record { answer = record { code = 0; edges = m.edges; offset = o }; act = m.act; next = m.next }
stepped J o (refused r) = record { answer = record { code = r.number; edges = 0; offset = o }; act = quiet; next = J }

abbrev pub step_items : Region → List Function → Bool → (ℕ → Bool) → Frame → List Frame → List Item → Stepped
step_items R fs v is_free φ φs [] =
    record { answer = record { code = 1; edges = 0; offset = 0xFFFF }; act = quiet; next = record { top = φ; below = φs; items = [] } }
step_items R fs v is_free φ φs (i ∷ rest) = stepped (record { top = φ; below = φs; items = i ∷ rest }) (item_offset i) (move R fs v is_free φ φs i rest)

abbrev pub step : Region → List Function → Bool → (ℕ → Bool) → Job → Stepped
step R fs v is_free J = step_items R fs v is_free J.top J.below J.items
