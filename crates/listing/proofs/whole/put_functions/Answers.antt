use Rattle.listing.proofs.Programs.{function_here, functions_start, functions_step, functions_all}
use Rattle.listing.proofs.whole.put_functions.Goals as goal

pub loop-g-init : goal.loop-g-init
loop-g-init c = functions_start

pub put_block-requires : goal.put_block-requires
put_block-requires c = function_here c.args.program.now.reading c.loop-g.g c.loop-g-test.true

pub loop-g-preserved : goal.loop-g-preserved
loop-g-preserved c =
    functions_step c.loop-g.g c.args.program.now.reading c.loop-g-test.true c.loop-g.invariant c.line.ensures c.put_block.ensures

pub returns : goal.returns
returns c = functions_all c.loop-g.g c.args.program.now.reading c.loop-g-test.false c.loop-g.invariant
