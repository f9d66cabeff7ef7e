use Rattle.stating.proofs.Passed.{passed_as}
use Rattle.stating.proofs.Behind.{ends_past, ends_not, block_opened, block_unended}
use Rattle.stating.proofs.statement.open_block.Goals as goal

pub returns-in_err-ends : goal.returns-in_err-ends
returns-in_err-ends c =
    let left = ends_not _ _ _ c.in_err-ends.ensures in
    rw (passed_as _ c.from_residual.ensures.1) (block_unended _ _ _ _ _ _ _ _ _ c.put.ensures c.put-2.ensures _ left.0 left.1)

pub returns : goal.returns
returns c =
    rw c.opened.ensures
    (block_opened _ _ _ _ _ c.args.c.now _ _ _ c.put.ensures c.put-2.ensures (ends_past _ _ _ c.in_ok-ends.ensures) c.requires.0 c.requires.2 c.requires.3)
