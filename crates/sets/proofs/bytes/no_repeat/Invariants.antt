-- The bytes from i on are apart and in the set.
use Rattle.sets.proofs.Apart.{Met}
use Rattle.sets.proofs.bytes.no_repeat.Given as goal

abbrev pub invariant-loop-i : goal.invariant-loop-i
invariant-loop-i l = Met l.bytes l.i l.later
