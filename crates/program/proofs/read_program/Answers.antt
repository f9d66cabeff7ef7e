-- The answer is the file's, its place named by the job.
use Rattle.program.proofs.FileLaws.{read_whole}
use Rattle.program.proofs.read_program.Goals as goal

pub invariant_of-result : goal.invariant_of-result
invariant_of-result c = record { reading = read_whole _ _ c.in-Ok.ensures }
