-- The pass over nothing says how long the listing is; then 24, or the pass over the buffer.
use Rattle.std.proofs.Common.{rules}
use Rattle.listing.proofs.Programs.{listing_is}
use Rattle.listing.proofs.Writing.{short_exit, written_exit}
use Rattle.listing.proofs.write_read.Goals as goal

pub returns-then-out-n : goal.returns-then-out-n
returns-then-out-n c =
    let e = listing_is c.args.program.now.reading in
    short_exit c.args.program.now.bytes.now c.args.out.now e (c.put_program-n.ensures _ e) c.if-out-n.true c.at.ensures

pub returns : goal.returns
returns c =
    let e = listing_is c.args.program.now.reading in
    written_exit c.args.program.now.bytes.now c.args.out.now e (c.put_program-n.ensures _ e) c.if-out-n.false (search rules)
    (c.put_program.ensures _ e)
