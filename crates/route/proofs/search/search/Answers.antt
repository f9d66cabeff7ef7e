use mathlib.Core.Bool.{Bool, true, false, ◌&&◌}
use mathlib.Core.List.{List}
use mathlib.Core.Logic.{⊎_elim}
use mathlib.Core.Path.{◌≡◌, refl, sym, ap, ◌∙◌}
use native.Mathlib.Omega.{arith}
use Prim.Native.Nat.{ℕ, ◌+◌, ◌≤◌, ◌<◌}
use borrow.Author.Tests.{eq-eqb, ne_eqb}
use lib.Dec.{eqb}
use lib.ListN.{set}
use Rattle.std.specs.Prelude.{Some}
use Rattle.rules.specs.Region.{Region, joined}
use Rattle.sets.specs.declared.LocationSet.{LocationSet}
use Rattle.sets.specs.declared.rows.Rows.{Rows}
use Rattle.sets.specs.Sets.{has, row_of}
use Rattle.sets.proofs.Bools.{clash, either, both_and}
use Rattle.device.specs.Reader.{RowsOf}
use Rattle.route.specs.declared.front.Front.{Front}
use Rattle.route.specs.Hops.{followed}
use Rattle.route.specs.Sweeps.{Spread}
use Rattle.route.proofs.Hunt.{Hunt, whole, inner_whole, spread_apart, hunt_start, hunt_next, hunt_less, hunt_some}
use Rattle.route.proofs.Hunt.{hunt_none, hunt_found, ends_hop}
use Rattle.route.proofs.Sizes.{count_but_two}
use Rattle.route.proofs.Swept.{spread_start}
use Rattle.route.proofs.Turns.{Inner, inner_of, inner_first, inner_second}
use Rattle.route.proofs.search.search.Goals as goal

-- the first level is what the second end is joined to, of the locations that are open
first_level : (rows : Rows) (before hop : List ℕ) (b : ℕ) (left none : LocationSet) (f : Front)
    → ((S L : ℕ → Bool) (h : List ℕ) (n : ℕ) → S b ≡ true → n ≤ b → ((z : ℕ) → n ≤ z → z < b → S z ≡ false)
    → Spread rows S n L h left none before → Spread rows S (b + 1) L h f.left f.next hop)
    → ((y : ℕ) → has none y ≡ false) → Spread rows (λ z. eqb z b) (b + 1) (has left) before f.left f.next hop
first_level rows before hop b left none f on empty =
    on (λ z. eqb z b) _ _ 0 (eq-eqb b b refl) (omega arith) (λ z l h. ne_eqb z b (λ e. absurd (omega arith))) (spread_start (λ y. refl) empty)

pub returns-then-contains : goal.returns-then-contains
returns-then-contains c =
    let a = c.args in
    let e = sym c.contains.ensures ∙ c.if-contains.true in
    let s : has (row_of a.rows.now a.a) a.b ≡ true = ap (λ r. has r a.b) (sym c.row-first.ensures) ∙ e in
    λ R w. ends_hop R (has a.free) a.a a.b a.hop.now c.if-a-b.false (sym (w.row a.a a.b) ∙ s) (omega arith)

pub loop-k-init : goal.loop-k-init
loop-k-init c =
    let a = c.args in
    let f = c.reach-front.result in
    let s = c.remove-2 in
    let o : Inner (has a.free) a.a a.b (has s.result) = inner_of c.remove.result s.result c.remove.ensures s.ensures in
    let level = first_level _ _ _ _ _ _ _ c.reach-front.ensures c.empty.ensures in
    let i : Inner (has a.free) a.a a.b (whole f.left f.next) = inner_whole o level in
    let e = sym c.contains.ensures ∙ c.if-contains.false in
    let n = count_but_two (whole f.left f.next) 256 a.a a.b c.ranges.a.fits c.ranges.b.fits c.if-a-b.false (inner_first i) (inner_second i) in
    (1, refl, omega arith, spread_apart level, λ R w. hunt_start w c.row-first.result f.left f.next o c.row-first.ensures e level)

pub returns-then-is_empty : goal.returns-then-is_empty
returns-then-is_empty c =
    let a = c.args in
    let s = c.remove-2 in
    let level = first_level _ _ _ _ _ _ _ c.reach-front.ensures c.empty.ensures in
    let i : Inner (has a.free) a.a a.b (whole c.reach-front.result.left c.reach-front.result.next) =
    inner_whole (inner_of c.remove.result s.result c.remove.ensures s.ensures) level in
    λ R w. hunt_none R i (c.loop-k.invariant.4 R w) (c.is_empty.ensures.none c.if-is_empty.true)

-- the level meets what is joined to the first end
pub returns-in-Some : goal.returns-in-Some
returns-in-Some c =
    let a = c.args in
    let l = c.loop-k in
    let s = c.remove-2 in
    let level = first_level _ _ _ _ _ _ _ c.reach-front.ensures c.empty.ensures in
    let i : Inner (has a.free) a.a a.b (whole c.reach-front.result.left c.reach-front.result.next) =
    inner_whole (inner_of c.remove.result s.result c.remove.ensures s.ensures) level in
    let x = c.in-Some.x in
    λ R w. hunt_found R i c.row-first.result c.common.result x w (l.invariant.4 R w) c.if-a-b.false c.row-first.ensures c.common.ensures c.in-Some.ensures
    (omega arith)
    ∙ ap (λ n. followed (set l.hop a.a x) a.a (Some n)) (sym l.invariant.1)

-- one level further
module _ {rows : Rows} (first meet : LocationSet) (front : Front) {f : Front} {hop hop' : List ℕ}
    (m : (y : ℕ) → has meet y ≡ (has first y && has front.next y)) (none : (y : ℕ) → has meet y ≡ false)
    (apart : (y : ℕ) → has front.next y ≡ true → has front.left y ≡ false)
    (u : Spread rows (has front.next) 256 (has front.left) hop f.left f.next hop') where
  onward : {R : Region} {B : ℕ → Bool} {a b k : ℕ} → RowsOf R rows → Hunt (joined R) B a b (has first) front.left front.next hop k
      → Hunt (joined R) B a b (has first) f.left f.next hop' (k + 1)
  onward w v = hunt_next w f.left f.next v apart (λ y p q. clash (m y ∙ both_and _ (has front.next y) q p) (none y)) u

pub loop-k-preserved : goal.loop-k-preserved
loop-k-preserved c =
    let l = c.loop-k in
    let t = c.is_empty.ensures.some c.if-is_empty.false in
    let less = hunt_less l.front.left l.front.next c.further-front.ensures l.invariant.3 t.0 t.1 in (
      l.invariant.0 + 1,
      omega (arith, l.invariant.1),
      omega (arith, l.invariant.2),
      spread_apart c.further-front.ensures,
      λ R w. onward c.row-first.result c.common.result l.front c.common.ensures c.in_default.ensures l.invariant.3 c.further-front.ensures w (l.invariant.4 R w),
    )

-- the levels have taken all locations
pub returns-in_default : goal.returns-in_default
returns-in_default c =
    let a = c.args in
    let l = c.loop-k in
    let s = c.remove-2 in
    let level = first_level _ _ _ _ _ _ _ c.reach-front.ensures c.empty.ensures in
    let i : Inner (has a.free) a.a a.b (whole c.reach-front.result.left c.reach-front.result.next) =
    inner_whole (inner_of c.remove.result s.result c.remove.ensures s.ensures) level in
    let t = c.is_empty.ensures.some c.if-is_empty.false in
    let less = hunt_less l.front.left l.front.next c.further-front.ensures l.invariant.3 t.0 t.1 in
    let f = c.further-front.result in
    λ R w. hunt_none R i (onward c.row-first.result c.common.result l.front c.common.ensures c.in_default.ensures l.invariant.3 c.further-front.ensures w (l.invariant.4 R w))
    (λ y. ⊎_elim (λ h. let n = hunt_some f.left f.next y h in absurd (omega (arith, l.invariant.1, l.invariant.2))) (λ h. h) (either (has f.next y)))
