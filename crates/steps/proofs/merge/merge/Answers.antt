-- A law for each exit.
use mathlib.Core.Path.{refl, sym, ◌∙◌}
use Rattle.steps.proofs.Passed.{passed_as}
use Rattle.steps.proofs.Merging.{merge_unbound, merge_no_first, merge_no_second, merge_twice, merge_routes}
use Rattle.steps.proofs.merge.merge.Goals as goal

pub returns-in_err-may_bind : goal.returns-in_err-may_bind
returns-in_err-may_bind c = merge_unbound _ _ _ _ _ _ _ c.args.floor.now.map.now _ _ (passed_as _ c.from_residual.ensures.1) c.in_err-may_bind.ensures

pub returns-in_err-l : goal.returns-in_err-l
returns-in_err-l c = merge_no_first _ _ _ _ _ _ _ c.args.floor.now.map.now _ _ (passed_as _ c.from_residual-in_err-l.ensures.1) c.in_ok-may_bind.ensures
    c.in_err-l.ensures

pub returns-in_err-k : goal.returns-in_err-k
returns-in_err-k c = merge_no_second _ _ _ _ _ _ _ c.args.floor.now.map.now _ _ (passed_as _ c.from_residual-in_err-k.ensures.1) c.in_ok-may_bind.ensures _
    c.in_ok-l.ensures c.in_err-k.ensures

pub returns-then-index : goal.returns-then-index
returns-then-index c = merge_twice _ _ _ _ _ _ _ c.args.floor.now.map.now _ c.in_ok-may_bind.ensures _ _ c.in_ok-l.ensures c.in_ok-k.ensures
    (sym c.index.ensures.value ∙ c.if-index.true ∙ c.index-2.ensures.value) refl

pub returns : goal.returns
returns c = merge_routes _ _ _ _ _ _ _ c.args.floor.now.map.now _ c.in_ok-may_bind.ensures _ _ c.in_ok-l.ensures c.in_ok-k.ensures
    (λ e. c.if-index.false (c.index.ensures.value ∙ e ∙ sym c.index-2.ensures.value)) c.join.ensures
