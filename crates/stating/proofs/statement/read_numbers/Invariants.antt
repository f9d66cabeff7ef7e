-- The loop has read j of the decimals; the line goes on with the others.
use Prim.Native.Nat.{◌≤◌}
use Rattle.stating.proofs.Listed.{NumbersRead}
use Rattle.stating.proofs.statement.read_numbers.Given as goal

abbrev pub invariant-loop-j : goal.invariant-loop-j
invariant-loop-j l = record {
  onward : l.from ≤ l.at;
  within : l.at ≤ l.line.stop;
  read : NumbersRead l.line.text.now l.from l.line.end l.line.stop l.n l.limit l.i l.initial.out l.j l.at l.out;
}
