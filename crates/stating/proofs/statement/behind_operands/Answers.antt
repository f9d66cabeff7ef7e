-- The line ends behind the operands of every statement but a call; a call's lists follow.
use mathlib.Core.Path.{ap}
use Prim.Native.Nat.{◌+◌}
use Rattle.standing.specs.declared.state.Head.{Head}
use Rattle.stating.proofs.Passed.{passed_as}
use Rattle.stating.proofs.Behind.{ends_past, ends_not, behind_if, behind_while, plain_ended, plain_unended, call_unread, call_ended, call_unended}
use Rattle.stating.proofs.statement.behind_operands.Goals as goal

pub returns-in-If : goal.returns-in-If
returns-in-If c = behind_if _ _ _ _ _ _ _ _ _ _ c.in-If.is c.open_block.ensures

pub returns-in-While : goal.returns-in-While
returns-in-While c = behind_while _ _ _ _ _ _ _ _ _ _ c.in-While.is c.open_block-in-While.ensures

pub returns-in_err-to-in-Call : goal.returns-in_err-to-in-Call
returns-in_err-to-in-Call c =
    rw (passed_as _ c.from_residual.ensures.1) (call_unread _ _ _ _ _ _ _ _ c.in-Call.is _ _ c.in_err-to-in-Call.ensures.reads_lists)

pub returns-in_err-ends-in-Call : goal.returns-in_err-ends-in-Call
returns-in_err-ends-in-Call c =
    let left = ends_not _ _ _ c.in_err-ends-in-Call.ensures in
    rw (passed_as _ c.from_residual-in_err-ends-in-Call.ensures.1)
    (call_unended _ _ _ _ _ _ _ _ c.in-Call.is _ _ c.in_ok-to-in-Call.ensures.reads_lists _ left.0 left.1)

pub returns-in_ok-ends-in-Call : goal.returns-in_ok-ends-in-Call
returns-in_ok-ends-in-Call c =
    rw c.added.ensures
    (call_ended _ _ _ _ _ _ c.args.c.now _ c.in-Call.is _ _ c.in_ok-to-in-Call.ensures.reads_lists _ (ends_past _ _ _ c.in_ok-ends-in-Call.ensures)
    c.in_ok-to-in-Call.ensures.onto.1 (ap (λ (h : Head). 4 + h.locations + h.arguments) c.head-locations.ensures))

pub returns-in_err-ends-in-Init : goal.returns-in_err-ends-in-Init
returns-in_err-ends-in-Init c =
    let left = ends_not _ _ _ c.in_err-ends-in-Init.ensures in
    rw (passed_as _ c.from_residual-in_err-ends-in-Init.ensures.1) (plain_unended _ _ _ _ _ _ _ _ _ c.in-Init.is left.0 left.1)

pub returns-in_ok-ends-in-Init : goal.returns-in_ok-ends-in-Init
returns-in_ok-ends-in-Init c =
    rw c.added-in-Init.ensures
    (plain_ended _ _ _ _ _ _ c.args.c.now _ _ c.in-Init.is (ends_past _ _ _ c.in_ok-ends-in-Init.ensures) c.requires.0 c.requires.2 c.size.ensures.value)
