-- The first line, the functions, the line of main, main. The buffer ends as the writer left it, which is the writer that was made for it.
use Rattle.std.proofs.Common.{arith}
use Rattle.listing.proofs.Programs.{main_here, program_puts}
use Rattle.listing.proofs.whole.put_program.Goals as goal

pub put_block-requires : goal.put_block-requires
put_block-requires c = main_here c.args.program.now.reading

pub returns : goal.returns
returns c = λ text e.
    let p = program_puts c.args.program.now.reading c.line.ensures c.put_functions.ensures c.line-2.ensures c.put_block.ensures text e in
    let n = p.same_buffer in record { filled = grind (arith, p.page_after) }
