-- A program that does not read is refused as it was; the others have a listing.
use Rattle.std.proofs.Common.{ap, ◌∙◌}
use Rattle.answers.proofs.Passed.{passed_as}
use Rattle.listing.specs.Whole.{told}
use Rattle.listing.proofs.Writing.{refused_exit}
use Rattle.listing.proofs.write_listing.Goals as goal

pub returns-in_err-program : goal.returns-in_err-program
returns-in_err-program c =
    ap (λ r. told r c.args.out.now) (passed_as _ c.from_residual.ensures.1)
    ∙ refused_exit c.args.s.now c.args.out.now _ c.in_err-program.ensures.answers
