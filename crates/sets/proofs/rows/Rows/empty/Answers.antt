-- Each row is an empty set.
use Rattle.sets.proofs.RowLaws.{empty_rows}
use Rattle.sets.proofs.rows.Rows.empty.Goals as goal

pub returns : goal.returns
returns c = empty_rows _ c.empty.ensures 256
