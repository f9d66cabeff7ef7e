use mathlib.Core.Bool.{Bool, ◌&&◌}
use mathlib.Core.Logic.{inl}
use mathlib.Core.Path.{◌≡◌, refl, sym, ap, ◌∙◌}
use native.Mathlib.Omega.{arith}
use Prim.Native.Nat.{ℕ, ◌+◌, ◌<◌}
use Rattle.std.specs.Prelude.{Some}
use Rattle.rules.specs.Region.{Region, joined}
use Rattle.sets.specs.declared.LocationSet.{LocationSet}
use Rattle.sets.specs.declared.rows.Rows.{Rows}
use Rattle.sets.specs.Sets.{has}
use Rattle.sets.proofs.SetLaws.{has_lt}
use Rattle.device.specs.Reader.{RowsOf}
use Rattle.route.specs.declared.turn.Turn.{Turn}
use Rattle.route.specs.Sweeps.{Advanced}
use Rattle.route.proofs.Sizes.{count, count_but_two, count_some, set_less}
use Rattle.route.proofs.Levels.{level_left, level_lt, level_none, level_apart, all_taken}
use Rattle.route.proofs.Turns.{Turns, Inner, inner_of, inner_first, inner_second, turn_start, turns_next, turns_found, turns_none}
use Rattle.route.proofs.Turns.{ends_joined}
use Rattle.route.proofs.distance.Goals as goal

pub returns-then-contains : goal.returns-then-contains
returns-then-contains c =
    let a = c.args in
    λ R w. ends_joined R (has a.free) a.a a.b c.if-a-b.false
    (sym (w.row a.a a.b) ∙ ap (λ r. has r a.b) (sym c.row-other.ensures) ∙ sym c.contains.ensures ∙ c.if-contains.true)

pub loop-turn-init : goal.loop-turn-init
loop-turn-init c =
    let s = c.remove-left in
    let i : Inner (has c.args.free) c.args.a c.args.b (has s.result) = inner_of c.remove.result s.result c.remove.ensures s.ensures in
    let e = sym c.contains.ensures ∙ c.if-contains.false in
    let n = count_but_two (has s.result) 256 c.args.a c.args.b c.ranges.a.fits c.ranges.b.fits c.if-a-b.false (inner_first i) (inner_second i) in
    (1, refl, omega arith, λ R w. inl (turn_start w c.row-joined.result c.row-other.result i c.row-joined.ensures c.row-other.ensures e))

-- the new level
abbrev level : LocationSet → LocationSet → ℕ → Bool
level to left y = has to y && has left y

-- a turn that meets nothing
module _ {rows : Rows} (to other left : LocationSet) {t : Turn} (u : Advanced rows (level to left) (has other) (has left) 256 t) where
  -- a level takes one at least
  shrinks : (t.any ≡ 0 → ⊥) → count (has t.left) 256 < count (has left) 256
  shrinks a =
      let s = u.some a in
      let n = level_left (has to) (has left) (λ y. refl) s.0 s.1 in
      set_less (level to left) left t.left (all_taken (has to) left (λ y. refl) u) s.0 s.1 n.1

  onward : {R : Region} {B : ℕ → Bool} {a b m : ℕ} → RowsOf R rows → Turns (joined R) B a b (has to) (has other) (has left) m
      → Turns (joined R) B a b (has other) (has t.joined) (has t.left) (m + 1)
  onward w v =
      turns_next w t.joined v (λ y. refl) (level_lt (has to) left (λ y. refl) u) (level_apart (has to) left (λ y. refl) u)
      (all_taken (has to) left (λ y. refl) u) u.next

-- where the next level meets something a location is left, so the levels are fewer than the locations
pub overflow_cast-result : goal.overflow_cast-result
overflow_cast-result c =
    let l = c.loop-turn in
    let t = c.in_default.ensures (level l.joined l.left) (λ y. refl) in
    let n = level_left (has l.joined) (has l.left) (λ y. refl) t.0 t.1 in
    let s = count_some (has l.left) 256 t.0 (has_lt l.left t.0 n.1) n.1 in
    record { fits = omega (arith, l.invariant.1, l.invariant.2, s) }

-- the next level meets what the other end's newest is joined to
pub returns-in_default : goal.returns-in_default
returns-in_default c =
    let l = c.loop-turn in
    let i : Inner (has c.args.free) c.args.a c.args.b (has c.remove-left.result) =
    inner_of c.remove.result c.remove-left.result c.remove.ensures c.remove-left.ensures in
    let t = c.in_default.ensures (level l.joined l.left) (λ y. refl) in
    let n = level_left (has l.joined) (has l.left) (λ y. refl) t.0 t.1 in
    λ R w. ap Some l.invariant.1 ∙ turns_found R i c.if-a-b.false (l.invariant.3 R w) t.0 n.1 n.0 t.2

-- there is no next level
pub returns-then-turn-eq0 : goal.returns-then-turn-eq0
returns-then-turn-eq0 c =
    let l = c.loop-turn in
    let i : Inner (has c.args.free) c.args.a c.args.b (has c.remove-left.result) =
    inner_of c.remove.result c.remove-left.result c.remove.ensures c.remove-left.ensures in
    let u = c.in-Some.ensures (level l.joined l.left) (λ y. refl) in
    let e = level_none (has l.joined) l.left (λ y. refl) u c.if-turn-eq0.true in
    λ R w. turns_none R i c.if-a-b.false (l.invariant.3 R w) e

pub loop-turn-smaller : goal.loop-turn-smaller
loop-turn-smaller c =
    let l = c.loop-turn in
    let u = c.in-Some.ensures (level l.joined l.left) (λ y. refl) in
    shrinks l.joined l.other l.left u c.if-turn-eq0.false

pub loop-turn-preserved : goal.loop-turn-preserved
loop-turn-preserved c =
    let l = c.loop-turn in
    let u = c.in-Some.ensures (level l.joined l.left) (λ y. refl) in
    let s = shrinks l.joined l.other l.left u c.if-turn-eq0.false in
    (l.invariant.0 + 1, omega (arith, l.invariant.1), omega (arith, l.invariant.2), λ R w. onward l.joined l.other l.left u w (l.invariant.3 R w))
