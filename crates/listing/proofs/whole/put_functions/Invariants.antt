-- The functions from number g on are left to be put.
use Rattle.listing.proofs.Programs.{FunctionsLeft}
use Rattle.listing.proofs.whole.put_functions.Given as goal

abbrev pub invariant-loop-g : goal.invariant-loop-g
invariant-loop-g l = FunctionsLeft l.program.bytes.now l.initial.out l.out l.g
