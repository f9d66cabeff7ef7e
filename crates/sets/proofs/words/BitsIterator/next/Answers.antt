-- The lowest bit, and the word without it: its common part with the word below it.
use native.Mathlib.Omega.{arith}
use Rattle.sets.proofs.LowBits.{cleared}
use Rattle.sets.proofs.words.BitsIterator.next.Goals as goal

pub returns-clause-steps : goal.returns-clause-steps
returns-clause-steps c = (c.low-t.ensures, cleared _ (omega arith))
