-- The line is the answer's.
use Rattle.std.proofs.Common.{[], ◌∷◌, ◌∙◌, arith}
use Rattle.print_check.proofs.LineLaws.{line_text, line_files, line_bad}
use Rattle.print_check.proofs.answer.Goals as goal

pub returns-in_default : goal.returns-in_default
returns-in_default c = line_bad c.args.bytes.now c.in_default.ensures

pub returns-in-Ok : goal.returns-in-Ok
returns-in-Ok c =
    line_text (0x4F ∷ 0x4B ∷ 0x20 ∷ []) c.in-Ok.n.count c.in-Ok.n.live (omega arith) (omega arith)
    ∙ line_files c.args.bytes.now c.in-Some.ensures c.in-Ok.ensures

pub returns-in-Err : goal.returns-in-Err
returns-in-Err c =
    line_text (0x4E ∷ 0x4F ∷ 0x20 ∷ []) c.in-Err.x.number c.in-Err.x.place (omega arith) (omega arith)
    ∙ line_files c.args.bytes.now c.in-Some.ensures c.in-Err.ensures
