-- A law for each kind: what it promises is what a step promises.
use Rattle.rules.specs.declared.statements.Kind.TheVariants.{If, While, Call}
use Rattle.steps.proofs.Operate.{byte_is}
use Rattle.steps.proofs.Deciding.{starts_there, operation_no_block, by_anyway, by_call, by_operation}
use Rattle.steps.proofs.step.go_on.Goals as goal

pub bounds-s-at : goal.bounds-s-at
bounds-s-at c = (starts_there c.requires.1).2

pub known-requires : goal.known-requires
known-requires c = let f = starts_there c.requires.1 in (f.0, f.1)

pub branch-s-requires : goal.branch-s-requires
branch-s-requires c = (c.requires.1, byte_is _ If _ c.known.ensures c.in-If.is)

pub repeat-requires : goal.repeat-requires
repeat-requires c = (c.requires.1, byte_is _ While _ c.known.ensures c.in-While.is)

pub call-requires : goal.call-requires
call-requires c = (c.requires.0, c.requires.1, byte_is _ Call _ c.known.ensures c.in-Call.is)

pub operation-requires : goal.operation-requires
operation-requires c = (c.requires.1, operation_no_block _ _ c.known.ensures c.in-Init.is)

pub returns-in-If : goal.returns-in-If
returns-in-If c = by_anyway c.args.s.now _ _ c.args.floor.now.rows.now _ c.args.floor.now.map.now _ _ _ _ c.branch-s.ensures

pub returns-in-While : goal.returns-in-While
returns-in-While c = by_anyway c.args.s.now _ _ c.args.floor.now.rows.now _ c.args.floor.now.map.now _ _ _ _ c.repeat.ensures

pub returns-in-Call : goal.returns-in-Call
returns-in-Call c = by_call c.args.s.now _ _ c.args.floor.now.rows.now _ c.args.floor.now.map.now _ _ _ _ c.call.ensures

pub returns-in-Init : goal.returns-in-Init
returns-in-Init c = by_operation c.args.s.now _ _ c.args.floor.now.rows.now _ c.args.floor.now.map.now _ _ _ _ c.operation.ensures
