-- A law for each exit.
use mathlib.Core.Path.{ap, refl}
use Rattle.std.specs.Prelude.{Ok}
use Rattle.steps.proofs.Passed.{passed_as}
use Rattle.steps.proofs.Perform.{init_unbound, init_outside, init_taken, init_goes}
use Rattle.steps.proofs.operations.init.Goals as goal

pub returns-in_err-may_bind : goal.returns-in_err-may_bind
returns-in_err-may_bind c = init_unbound _ _ _ _ _ c.args.floor.now.map.now _ (passed_as _ c.from_residual.ensures.1) c.in_err-may_bind.ensures

pub returns-then-not-is_inside : goal.returns-then-not-is_inside
returns-then-not-is_inside c = init_outside _ _ _ _ _ c.args.floor.now.map.now c.in_ok-may_bind.ensures _ c.is_inside.ensures c.if-not-is_inside.true refl

pub returns-then-not-is_free : goal.returns-then-not-is_free
returns-then-not-is_free c = init_taken _ _ _ _ _ c.args.floor.now.map.now c.in_ok-may_bind.ensures _ c.is_inside.ensures c.if-not-is_inside.false _
    c.is_free.ensures c.if-not-is_free.true refl

pub returns : goal.returns
returns c = init_goes _ _ _ _ _ c.args.floor.now.map.now c.in_ok-may_bind.ensures _ c.is_inside.ensures c.if-not-is_inside.false _ c.is_free.ensures _
    c.if-not-is_free.false c.occupy.ensures (ap Ok c.new.ensures)
