-- Nothing of what the reader hands on, or its refusal.
use mathlib.Core.Path.{◌∙◌}
use Rattle.answers.proofs.Passed.{passed_on}
use Rattle.abwakiris.proofs.ReadLaws.{program_said}
use Rattle.abwakiris.proofs.reads.read_program.Goals as goal

pub returns-in_err-read_program : goal.returns-in_err-read_program
returns-in_err-read_program c =
    passed_on _ c.from_residual.ensures.1 ∙ c.in_err-read_program.ensures.answers ∙ program_said c.args.bytes.now

pub returns : goal.returns
returns c = c.in_ok-read_program.ensures.answers ∙ program_said c.args.bytes.now
