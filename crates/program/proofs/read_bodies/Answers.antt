-- What follows the header is refused where a function is; else main is read after the functions.
use Rattle.answers.proofs.Passed.{passed_on}
use Rattle.program.proofs.FileLaws.{read_refused, body_refused, body_made}
use Rattle.program.proofs.read_bodies.Goals as goal

pub returns : goal.returns
returns c = body_made _ _ _ _ c.in_ok-read.ensures.functions_as (λ fs h. c.read_main.ensures fs h)

pub returns-in_err-read : goal.returns-in_err-read
returns-in_err-read c =
    read_refused _ _ _ (body_refused _ _ _ c.in_err-read.ensures.functions_as) (passed_on _ c.from_residual.ensures.1)
