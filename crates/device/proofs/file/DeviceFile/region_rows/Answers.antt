use mathlib.Core.Path.{refl, sym, ◌∙◌}
use native.Mathlib.Omega.{arith}
use Rattle.device.proofs.DeviceLaws.{sound}
use Rattle.device.proofs.RegionLaws.{rows_start, rows_more, rows_done}
use borrow.Author.Rules.{rules}
use Rattle.device.proofs.file.DeviceFile.region_rows.Goals as goal

pub overflow_add-start : goal.overflow_add-start
overflow_add-start c = let k = sound c.args.self.reads in search rules

pub loop-i-init : goal.loop-i-init
loop-i-init c = λ D q x y. rows_start D c.args.job x y _ (c.requires x y)

pub overflow_mul-at : goal.overflow_mul-at
overflow_mul-at c = let k = sound c.args.self.reads in search rules

pub overflow_add-at : goal.overflow_add-at
overflow_add-at c = let k = sound c.args.self.reads in search rules

pub bounds-s-at : goal.bounds-s-at
bounds-s-at c = let k = sound c.args.self.reads in omega arith

pub overflow_add-at-in-loop-i : goal.overflow_add-at-in-loop-i
overflow_add-at-in-loop-i c = let k = sound c.args.self.reads in search rules

pub bounds-s-at-in-loop-i : goal.bounds-s-at-in-loop-i
bounds-s-at-in-loop-i c = let k = sound c.args.self.reads in omega arith

pub join_owned-requires : goal.join_owned-requires
join_owned-requires c =
    let k = sound c.args.self.reads in
    let p = k.edge_rises c.loop-i.i (omega arith) in
    let q = k.edge_within c.loop-i.i (omega arith) in
    (omega arith, omega arith)

pub loop-i-preserved : goal.loop-i-preserved
loop-i-preserved c =
    let l = c.loop-i in
    λ D q x y. rows_more q c.args.job l.i (omega arith) _ _ refl refl x y _ _ (c.join_owned.ensures x y) ∙ l.invariant D q x y

pub returns : goal.returns
returns c =
    let l = c.loop-i in
    λ D r. record { row = λ x y. sym (rows_done D c.args.job l.i x y _ (omega arith)) ∙ l.invariant D r x y }
