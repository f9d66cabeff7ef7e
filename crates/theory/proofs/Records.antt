-- Record i of a run that is answered tells the turn of schedule byte i. The records stand four bytes each, in the turns' order, so record i is what the
-- i-th step answers; and a step answers by its cases: no item is to come, or the first one moved, or it is stuck. A moved merge has the edges of the route
-- that its last test found; and a stuck step has a reason (Reasons).
use mathlib.Core.Bool.{Bool, false}
use mathlib.Core.List.{List, [], ◌∷◌, ◌++◌, map}
use mathlib.Core.Option.{Option, none, some}
use mathlib.Core.Path.{◌≡◌, refl, sym, ap, ◌∙◌, subst}
use native.Mathlib.Omega.{arith}
use Prim.Native.Nat.{ℕ, zero, suc, ◌-◌, ◌*◌, ◌/◌, ◌%◌, ◌<◌}
use lib.ListN.{length, take}
use Rattle.answers.specs.Check.{Check, ok, refused, ◌>>=◌}
use Rattle.answers.specs.declared.Moved.{Moved}
use Rattle.answers.proofs.Laws.{Holds, by, holds_bind, holds_then, holds_any, holds_at}
use Rattle.rules.specs.Basics.{byte}
use Rattle.rules.specs.Device.{Device}
use Rattle.rules.specs.Region.{Region, region_of, free_in}
use Rattle.rules.specs.Path.{Along, last, then, Route, route}
use Rattle.rules.specs.Commands.{need_route}
use Rattle.rules.specs.Syntax as trees
use Rattle.rules.specs.Syntax.{Place, op, if, while, call, Function, Program}
use Rattle.rules.specs.Slots.{Act, quiet, takes, gives, merges}
use Rattle.rules.specs.Machine.{Frame, Item, run, return, Job, Move, edges_of, move, item_offset, Record, stepped, step_items}
use Rattle.rules.specs.Run.{Turn, Machine, started, step_of, after, final, records, record_bytes}
use Rattle.rules.specs.Promises.{Ran, run_of}
use Rattle.theory.specs.TheRun.{turn_of, record_at, of_job, OffsetOf, of_operation, of_if, of_while, of_call, of_return, is_merge}
use Rattle.theory.specs.TheRun.{Tells, finished, moved, merged, stuck, Files, RecordsInRuns}
use Rattle.theory.proofs.Routes.{the_route}
use Rattle.theory.proofs.Reasons.{reason_of, move_reasoned}
use Rattle.theory.proofs.TheRun.{bytewise, run_with}

-- ---- where record i stands
-- the four bytes of a record
abbrev pub four_bytes : Record → List ℕ
four_bytes r = r.code ∷ r.edges ∷ r.offset / 256 ∷ r.offset % 256 ∷ []

-- the machine that the turns of the first i bytes leave
abbrev pub machine_at : Device → (ℕ → Program) → List ℕ → ℕ → Machine → Machine
machine_at D P s i M = final D P (map turn_of (take i s)) M

module _ (D : Device) (P : ℕ → Program) (rest : List ℕ) where
  pub record_at_lem : (s : List ℕ) (i : ℕ) (M : Machine) → i < length s
      → record_at i (record_bytes (records D P (map turn_of s) M) ++ rest) ≡ four_bytes (step_of D P (turn_of (byte s i)) (machine_at D P s i M)).answer
  record_at_lem [] i M h = absurd (omega arith)
  record_at_lem (b ∷ s) zero M h = refl
  record_at_lem (b ∷ s) (suc i) M h =
      let four : 4 * suc i ≡ suc (suc (suc (suc (4 * i)))) = omega arith in
      rw four (record_at_lem s i (after D P (turn_of b) M) (omega arith))

-- ---- the edges of a move
-- a route has one location more than edges
route_length : (R : Region) (is_open : ℕ → Bool) (a b : ℕ) {x : ℕ} {p : List ℕ} → Along R is_open a b x p → length p ≡ suc (length p - 1)
route_length R is_open a b (last j) = omega arith
route_length R is_open a b (then j k w) = omega arith

module _ (R : Region) (fs : List Function) (v : Bool) (is_open : ℕ → Bool) where
  -- a merge has the edges of the route between its ends, and any other act none
  data Edges : Act trees.device → ℕ → Type 0 where
    no_merge : {a : Act trees.device} → is_merge a ≡ false → Edges a 0
    of_route : {b e n : ℕ} {l k : Place trees.device} {p : List ℕ} → Route R is_open l.no k.no p → length p ≡ suc n → Edges (merges b l e k) n

  edges_found : (b e : ℕ) (l k : Place trees.device) (o : ℕ) (r : Option (List ℕ)) → route R is_open l.no k.no ≡ r
      → Holds (Edges (merges b l e k)) (need_route r o >>= λ p. ok (length p - 1))
  unfolding ◌>>=◌
  edges_found b e l k o none h = Holds.not_ok
  edges_found b e l k o (some p) h =
      let r = (the_route R is_open l.no k.no p).0 h in
      by (of_route r (route_length R is_open l.no k.no r.path.along))

  edges_of_lem : (a : Act trees.device) (o : ℕ) → Holds (Edges a) (edges_of R fs v is_open a o)
  edges_of_lem quiet o = by (no_merge refl)
  edges_of_lem (takes q l) o = by (no_merge refl)
  edges_of_lem (gives l) o = by (no_merge refl)
  edges_of_lem (merges b l e k) o = edges_found b e l k o (route R is_open l.no k.no) refl

  move_edges : (φ : Frame) (φs : List Frame) (i : Item) (rest : List Item) → Holds (λ m. Edges m.act m.edges) (move R fs v is_open φ φs i rest)
  move_edges φ φs (run σ (op o a)) rest = holds_bind (holds_any _) λ d _. holds_bind (edges_of_lem d.act o) λ n h. by h
  move_edges φ φs (run σ (if o y b c)) rest = holds_bind (holds_any _) λ _ _. by (no_merge refl)
  move_edges φ φs (run σ (while o r b)) rest = holds_bind (holds_any _) λ _ _. by (no_merge refl)
  move_edges φ φs (run σ (call o f ls xs)) rest = holds_then (holds_any _) λ _ _. by (no_merge refl)
  move_edges φ [] (return o ls xs) rest = by (no_merge refl)
  move_edges φ (χ ∷ φs) (return o ls xs) rest = by (no_merge refl)

-- ---- what a step answers
offset_of : (i : Item) → OffsetOf i (item_offset i)
offset_of (run σ (op o a)) = of_operation
offset_of (run σ (if o y b c)) = of_if
offset_of (run σ (while o r b)) = of_while
offset_of (run σ (call o f ls xs)) = of_call
offset_of (return o ls xs) = of_return

module _ (D : Device) (P : ℕ → Program) (t : Turn) (M : Machine) where
  abbrev R : Region
  R = region_of D t.job

  abbrev J : Job
  J = M.jobs t.job

  abbrev is_open : ℕ → Bool
  is_open = free_in R M.occupancy

  abbrev moves : Item → List Item → Check Move
  moves i rest = move R (P t.job).functions t.outcome is_open J.top J.below i rest

  -- an item that moved
  tells_move : (i : Item) (rest : List Item) (m : Move) → J.items ≡ i ∷ rest → moves i rest ≡ ok m
      → Tells D P t M (0 ∷ m.edges ∷ item_offset i / 256 ∷ item_offset i % 256 ∷ [])
  tells_move i rest m e f =
      by_edges m.act m.edges refl (holds_at (move_edges R (P t.job).functions t.outcome is_open J.top J.below i rest) f)
    where
      by_edges : (a : Act trees.device) (n : ℕ) → m.act ≡ a → Edges R (P t.job).functions t.outcome is_open a n
          → Tells D P t M (0 ∷ n ∷ item_offset i / 256 ∷ item_offset i % 256 ∷ [])
      by_edges a n g (no_merge h) = moved (e, offset_of i) f (ap is_merge g ∙ h)
      by_edges a n g (of_route r h) = merged (e, offset_of i) f g r h

  -- the first item to come
  tells_item : (i : Item) (rest : List Item) (m : Check Move) → J.items ≡ i ∷ rest → moves i rest ≡ m
      → Tells D P t M (four_bytes (stepped (record { top = J.top; below = J.below; items = i ∷ rest }) (item_offset i) m).answer)
  tells_item i rest (ok m) e f = tells_move i rest m e f
  tells_item i rest (refused r) e f =
      stuck (e, offset_of i) f (reason_of (move_reasoned R (P t.job).functions t.outcome is_open J.top J.below i rest) f)

  tells_items : (is : List Item) → J.items ≡ is
      → Tells D P t M (four_bytes (step_items R (P t.job).functions t.outcome is_open J.top J.below is).answer)
  tells_items [] e = finished e
  tells_items (i ∷ rest) e = tells_item i rest (moves i rest) e refl

  pub tells_step : Tells D P t M (four_bytes (step_of D P t M).answer)
  tells_step = tells_items J.items refl

-- ---- in runs
-- record i of an answered run is what its i-th step answers
module _ (device first second schedule buffer map' : List ℕ) (m : Moved) (e : (run_of device first second schedule buffer map').answer ≡ ok m)
    (D : Device) (p q : Program) (F : Files device first second schedule buffer map' D p q) where
  abbrev at : ℕ → Machine
  at i = machine_at D (of_job p q) schedule i (started D (of_job p q))

  pub record_in_run : (i : ℕ) → i < length schedule
      → record_at i (run_of device first second schedule buffer map').records ≡ four_bytes (step_of D (of_job p q) (turn_of (byte schedule i)) (at i)).answer
  record_in_run i h =
      let B = bytewise device first second schedule buffer map' m e in
      ap (λ (w : Ran). record_at i w.records) (run_with device first second schedule buffer map' m e D p q F schedule (omega arith) B.all_turns)
      ∙ record_at_lem D (of_job p q) _ schedule i (started D (of_job p q)) h

  tells_in_run : (i : ℕ) → i < length schedule
      → Tells D (of_job p q) (turn_of (byte schedule i)) (at i) (record_at i (run_of device first second schedule buffer map').records)
  tells_in_run i h =
      subst (λ (bytes : List ℕ). Tells D (of_job p q) (turn_of (byte schedule i)) (at i) bytes) (sym (record_in_run i h))
      (tells_step D (of_job p q) (turn_of (byte schedule i)) (at i))

pub records_in_runs : RecordsInRuns
records_in_runs device first second schedule buffer map' m e D p q F i h = tells_in_run device first second schedule buffer map' m e D p q F i h
