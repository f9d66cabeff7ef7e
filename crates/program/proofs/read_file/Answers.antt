-- A file is refused where its header is; else what follows it is read.
use mathlib.Core.Path.{sym}
use Rattle.answers.proofs.Passed.{passed_on}
use Rattle.program.proofs.FileLaws.{headed, read_refused, file_refused, file_made}
use Rattle.program.proofs.read_file.Goals as goal

pub read_bodies-requires : goal.read_bodies-requires
read_bodies-requires c = let h = headed _ _ (sym c.in_ok-header.ensures) in (h.long, h.short, h.few)

pub returns : goal.returns
returns c = file_made _ _ _ (sym c.in_ok-header.ensures) c.read_bodies.ensures

pub returns-in_err-header : goal.returns-in_err-header
returns-in_err-header c = read_refused _ _ _ (file_refused _ _ (sym c.in_err-header.ensures)) (passed_on _ c.from_residual.ensures.1)
