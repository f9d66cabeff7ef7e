-- A run of quiet statements stepped over in a block. Each statement of the run that is in the block lets the walk on as it stands; the block's end
-- is met at a statement's end, so where the run goes on past it, nothing is left of the block.
use mathlib.Core.List.{List}
use mathlib.Core.Path.{◌≡◌, sym, subst}
use native.Mathlib.Decide.{dec_lt}
use native.Mathlib.Omega.{arith}
use Prim.Native.Nat.{ℕ, ◌+◌, ◌-◌, ◌<◌, ◌≤◌}
use Rattle.rules.specs.Basics.{word}
use Rattle.sets.specs.declared.LocationSet.{LocationSet}
use Rattle.program.proofs.In.{statement_view, statements_next}
use Rattle.walking.specs.Quiet.{Run, none, operation, call, Steps}
use Rattle.walking.specs.declared.walk.Walk.{Walk}
use Rattle.walking.specs.Names.{Names}
use Rattle.walking.specs.Stands.{standing, BlockAt, StatementAt, StatementsAt}
use Rattle.answers.specs.Check.{ok}
use Rattle.walking.proofs.Views.{view_size, view_call}
use Rattle.walking.proofs.QuietLaws.{run_rises, stepped_bounds}
use Rattle.walking.proofs.Steps.{Gives, statements_of, Left, left_on, statement_in, Rest, rest_start, rest_on, Loop, Turn}
use Rattle.walking.proofs.Arms.{on_quiet}
use Rattle.walking.proofs.Inner.{call_quiet}

module _ {w : Walk} {g : ℕ} {n : Names} {from stop : ℕ} (f₀ : List ℕ) (F₀ : LocationSet) (b : StatementsAt w g n from stop) (f : List ℕ) (F : LocationSet) where
  abbrev Here : ℕ → Type 0
  Here p = Left w g n from stop f₀ F₀ b p f F

  -- at or past the block's end the step stays
  stays : {p q r : ℕ} → (p < stop → ⊥) → p ≤ stop → p ≤ q → (stop ≤ q → r ≡ stop) → Here p → Here r
  stays {p} {q} {r} d l a o H = let e : p ≡ r = omega (arith, o (omega (arith, d, a))) in subst Here e H

  run_left : {p q r : ℕ} → Run w.bytes.now b.counts p q → Dec (p < stop) → p ≤ stop → (q < stop → r ≡ q) → (stop ≤ q → r ≡ stop) → Here p → Here r
  run_left none (yes h) l i o H = subst Here (sym (i h)) H
  run_left none (no d) l i o H = stays d l (omega arith) o H
  run_left (operation z k) (yes h) l i o H =
      let t = statement_in b H h in
      let e = view_size (statement_view t.stands) z in
      run_left k (dec_lt _ stop) (omega (arith, e, (statements_next H.stands h).7)) i o (left_on H h (sym e) λ R W σ O. (on_quiet z).gives t R W σ O)
  run_left (operation z k) (no d) l i o H = stays d l (omega (arith, run_rises k)) o H
  run_left (call c z k) (yes h) l i o H =
      let t = statement_in b H h in
      let e = (view_call (statement_view t.stands) c).next in
      run_left k (dec_lt _ stop) (omega (arith, e, (statements_next H.stands h).7)) i o (left_on H h (sym e) λ R W σ O. call_quiet f F c t z R W σ O)
  run_left (call c z k) (no d) l i o H = stays d l (omega (arith, run_rises k)) o H

-- what is left after the step, and where it ends
pub rest_run : {w : Walk} {g : ℕ} {n : Names} {from stop : ℕ} {f₀ : List ℕ} {F₀ : LocationSet} {p r : ℕ} {f : List ℕ} {F : LocationSet}
    → Steps w.quiet.now.ends p stop r → p ≤ stop → Rest w g n from stop f₀ F₀ p f F → Rest w g n from stop f₀ F₀ r f F
rest_run {w} {stop = stop} {f₀ = f₀} {F₀ = F₀} {p = p} {f = f} {F = F} k l H = record {
  left = λ b.
      let S = k.steps w.bytes.now b.counts b.stands.within b.body.table in
      run_left f₀ F₀ b f F S.run (dec_lt p stop) l S.inside S.outside (H.left b);
}

pub run_bounds : {w : Walk} {g : ℕ} {n : Names} {at stop p r : ℕ} → BlockAt w g n at → stop ≡ at + 2 + word w.bytes.now at
    → Steps w.quiet.now.ends p stop r → p ≤ stop → (p ≤ r) × (r ≤ stop)
run_bounds {w} {stop = stop} b e k l = let c = statements_of stop e b in stepped_bounds (k.steps w.bytes.now b.counts c.stands.within b.body.table) l

-- where the loop begins, behind the quiet statements that the block begins with
pub loop_starts : {w : Walk} {g : ℕ} {n : Names} {at stop r : ℕ} {f : List ℕ} {F : LocationSet} → BlockAt w g n at → stop ≡ at + 2 + word w.bytes.now at
    → Steps w.quiet.now.ends (at + 2) stop r → Loop w g n at stop f F r f F
loop_starts b e k =
    let l = run_bounds b e k (omega (arith, e)) in
    record { starts = l.0; inside = l.1; rest = rest_run k (omega (arith, e)) (rest_start _ _ _ _ _ _ _) }

-- The step behind the statement that a turn is at, and what the turn does: the walk goes on there, which every statement at p lets it do.
module _ {w : Walk} {g : ℕ} {n : Names} {p q stop r : ℕ} (T : Turn w g n p stop) (ends : (t : StatementAt w g n p) → q ≡ t.next)
    (k : Steps w.quiet.now.ends q stop r) where
  step_bounds : (q ≤ stop) × (p < r) × (r ≤ stop)
  step_bounds =
      let a = ends T.here in
      let c = stepped_bounds (k.steps w.bytes.now T.here.counts T.within T.here.body.table) (omega (arith, a, T.fits)) in
      (omega (arith, a, T.fits), omega (arith, a, T.further, c.0), c.1)

  -- less is left of the block
  pub further : stop - r < stop - p
  further = omega (arith, step_bounds.1, step_bounds.2)

pub goes_on : {w : Walk} {g : ℕ} {n : Names} {at stop : ℕ} {f₀ : List ℕ} {F₀ : LocationSet} {p q r : ℕ} {f f' : List ℕ} {F F' : LocationSet}
    → Loop w g n at stop f₀ F₀ p f F → Turn w g n p stop → ((t : StatementAt w g n p) → q ≡ t.next) → Steps w.quiet.now.ends q stop r
    → Gives w g n p f F (ok (standing f' F')) → Loop w g n at stop f₀ F₀ r f' F'
goes_on L T ends k h =
    let c = step_bounds T ends k in
    record { starts = omega (arith, L.starts, c.1); inside = c.2; rest = rest_run k c.0 (rest_on L.rest T.inside ends h) }
