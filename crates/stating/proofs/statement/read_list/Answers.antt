-- An empty list has no word; another has its word and its decimals.
use Rattle.stating.proofs.Passed.{passed_as}
use Rattle.stating.proofs.Listed.{list_none, list_err, list_read}
use Rattle.stating.proofs.statement.read_list.Goals as goal

pub returns-then-n-eq0-clause-reads_list : goal.returns-then-n-eq0-clause-reads_list
returns-then-n-eq0-clause-reads_list c = list_none _ _ _ _ _ _ _ _ _ c.if-n-eq0.true

pub returns-in_err-at-clause-reads_list : goal.returns-in_err-at-clause-reads_list
returns-in_err-at-clause-reads_list c =
    rw (passed_as _ c.from_residual.ensures.1) (list_err _ _ _ _ _ _ _ _ _ _ _ c.if-n-eq0.false c.in_err-at.ensures.expects)

pub returns-clause-reads_list : goal.returns-clause-reads_list
returns-clause-reads_list c =
    list_read _ _ _ _ _ _ _ _ _ _ _ _ c.if-n-eq0.false c.in_ok-at.ensures.expects c.read_numbers.ensures.reads_numbers
