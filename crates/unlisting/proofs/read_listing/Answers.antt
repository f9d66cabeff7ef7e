-- Both readings give what the definition says of the text: the first counts, so that 24 is told before any byte of the program is put, and the second writes.
use Rattle.answers.proofs.Passed.{passed_on}
use Rattle.unlisting.proofs.Twice.{counted_no, counted_short, counted_written}
use Rattle.unlisting.proofs.read_listing.Goals as goal

pub returns-in_err-n : goal.returns-in_err-n
returns-in_err-n c = counted_no c.args.text.now c.args.program.now _ c.in_err-n.ensures.answer _ (passed_on _ c.from_residual.ensures.1)

pub returns-then-program-n : goal.returns-then-program-n
returns-then-program-n c = counted_short c.args.text.now c.args.program.now _ c.in_ok-n.ensures.answer _ c.if-program-n.true c.at.ensures

pub returns : goal.returns
returns c =
    counted_written c.args.text.now c.args.program.now _ c.in_ok-n.ensures.answer c.if-program-n.false _ _
    c.read_lines-2.ensures.answer c.read_lines-2.ensures.bytes
