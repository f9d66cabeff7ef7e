-- The walk over a program's tree at device locations: the statements in order, each slot's qubit at its location, the then-block before the
-- else-block, a loop's body once, a callee at the call's actual locations. Only a merge is tested. A block hands on which locations are free and
-- nothing else: at its end a qubit sits in a slot only where it sat there on entry.
use Rattle.std.specs.Prelude.{Option, Some, None, Bool, not, ◌&&◌, ◌||◌, cond, List, ◌≡◌, ℕ, ◌<◌, eqb, ltb, get_or}
use Rattle.answers.specs.Check.{Check, ok, ◌>>=◌, ◌>>◌}
use Rattle.rules.specs.Region.{Region}
use Rattle.rules.specs.Path.{route}
use Rattle.rules.specs.Syntax.{Side, device, parameter, Place, param, at, Op, init, free, gate, measure, merge, new_ref, get_ref, set_ref, constant}
use Rattle.rules.specs.Syntax.{Statement, op, if, while, call, Statements, done, ◌⨾◌, Block, block, Function, function}
use Rattle.rules.specs.Commands.{need_route}

-- where a body stands: the location of each slot's qubit, and which locations are free
pub record Standing : Type 0 where
  pub frame : ℕ → ℕ
  pub free : ℕ → Bool

-- how a callee is walked: from its number, its places on the device and the free locations to those free afterwards
abbrev pub Walker : Type 0
Walker = ℕ → (Place parameter → Place device) → (ℕ → Bool) → Check (ℕ → Bool)

-- slot x has its qubit at l
abbrev pub put : (ℕ → ℕ) → ℕ → ℕ → ℕ → ℕ
put f x l y = cond (eqb y x) l (f y)

-- location l is taken, and given back
abbrev pub taken : (ℕ → Bool) → ℕ → ℕ → Bool
taken F l y = not (eqb y l) && F y

abbrev pub given : (ℕ → Bool) → ℕ → ℕ → Bool
given F l y = eqb y l || F y

-- on entry of a callee with k places: slot i has its qubit at place i
abbrev pub entered_at : ℕ → (Place parameter → Place device) → (ℕ → Bool) → Standing
entered_at k τ F = record { frame = λ i. cond (ltb i k) (τ (param i)).no 0; free = F }

module _ {s : Side} (R : Region) (W : Walker) (σ : Place s → Place device) where
  unfoldable pub walk_op : ℕ → Op s → Standing → Check Standing
  walk_op o (init q x l) st = ok (record { frame = put st.frame x (σ l).no; free = taken st.free (σ l).no })
  walk_op o (free x) st = ok (record { frame = st.frame; free = given st.free (st.frame x) })
  walk_op o (gate g x) st = ok st
  walk_op o (measure y b x) st = ok st
  walk_op o (merge y b x e z) st = need_route (route R st.free (st.frame x) (st.frame z)) o >> ok st
  walk_op o (new_ref r y) st = ok st
  walk_op o (get_ref y r) st = ok st
  walk_op o (set_ref r y) st = ok st
  walk_op o (constant y v) st = ok st

  unfoldable mutual
    pub walk_statement : Statement s → Standing → Check Standing
    walk_statement (op o a) st = walk_op o a st
    walk_statement (if o y b c) st = do
      F ← walk_block b st
      walk_block c st
      ok (record { frame = st.frame; free = F })
    walk_statement (while o r b) st = do
      walk_block b st
      ok st
    walk_statement (call o f ls xs) st = do
      F ← W f (λ p. σ (at ls p.no)) st.free
      ok (record { frame = st.frame; free = F })

    pub walk_statements : Statements s → Standing → Check (ℕ → Bool)
    walk_statements done st = ok st.free
    walk_statements (t ⨾ ts) st = do
      e ← walk_statement t st
      walk_statements ts e

    pub walk_block : Block s → Standing → Check (ℕ → Bool)
    walk_block (block o ts) st = walk_statements ts st

-- W walks each function before number g by its body, and where the function's count is 0 it changes nothing
pub record Callees (R : Region) (fs : List Function) (counts : List (Option ℕ)) (g : ℕ) (W : Walker) : Type 0 where
  pub walks : (f : ℕ) → f < g → (τ : Place parameter → Place device) (F : ℕ → Bool)
      → W f τ F ≡ walk_block R W τ (function fs f).body (entered_at (function fs f).k τ F)
  pub skips : (f : ℕ) → f < g → get_or counts f None ≡ Some 0 → (τ : Place parameter → Place device) (F : ℕ → Bool) → W f τ F ≡ ok F
