-- A function's line is asked for first, then main's; in main there is neither.
use Rattle.std.proofs.Common.{refl}
use Rattle.unlisting.proofs.Tops.{nothing_in_main, main_after, function_begins, function_taken}
use Rattle.unlisting.proofs.lines.top_line.Goals as goal

pub returns-then-c : goal.returns-then-c
returns-then-c c = nothing_in_main _ _ _ _ _ _ _ c.if-c.true

pub function_line-requires : goal.function_line-requires
function_line-requires c = (c.requires.0, c.requires.1, c.requires.2, c.if-c.false)

pub main_line-requires : goal.main_line-requires
main_line-requires c = (c.requires.0, c.requires.1, c.requires.2, c.if-c.false)

pub returns-in-Ok : goal.returns-in-Ok
returns-in-Ok c = function_taken _ _ _ _ _ c.if-c.false _ _ _ c.in-Ok.ensures.reads

pub returns-in-Err-Begun : goal.returns-in-Err-Begun
returns-in-Err-Begun c = function_begins _ _ _ _ _ c.if-c.false _ _ (rw c.in-Err-Begun.field-0-is at c.in-Err-Begun.ensures.reads)

pub returns-in-Err-Not : goal.returns-in-Err-Not
returns-in-Err-Not c =
    main_after _ _ _ _ _ c.if-c.false _ _ _ _ (rw c.in-Err-Not.field-0-is at c.in-Err-Not.ensures.reads)
    (c.in-Err-Not.ensures.unchanged (rw c.in-Err-Not.field-0-is refl)) c.main_line.ensures
