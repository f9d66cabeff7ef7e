-- The first line where nothing has been read, else one that follows.
use Rattle.unlisting.proofs.Outward.{some_program, no_program, any_line, first_any}
use Rattle.unlisting.proofs.lines.read_line.Goals as goal

pub next_line-requires : goal.next_line-requires
next_line-requires c =
    let read = some_program _ _ c.requires.1.1 c.if-c.true in
    (c.requires.0, (read.0, read.2))

pub returns-then-c : goal.returns-then-c
returns-then-c c = any_line _ _ _ _ _ _ c.if-c.true _ _ c.next_line.ensures

pub first_line-requires : goal.first_line-requires
first_line-requires c = (c.requires.0, (no_program _ _ c.requires.1.1 c.if-c.false).1)

pub returns-else-c : goal.returns-else-c
returns-else-c c = first_any _ _ _ _ _ _ c.if-c.false _ c.first_line.ensures
