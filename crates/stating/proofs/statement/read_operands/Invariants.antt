-- The loop has read the operands before number n, up to a position; the line goes on with the others.
use Prim.Native.Nat.{◌≤◌}
use Rattle.rules.specs.Kinds.{byte_of}
use Rattle.stating.proofs.Operating.{OperandsRead}
use Rattle.stating.proofs.statement.read_operands.Given as goal

abbrev pub invariant-loop-n : goal.invariant-loop-n
invariant-loop-n l = record {
  onward : l.from ≤ l.at;
  within : l.at ≤ l.line.stop;
  read : OperandsRead l.line.text.now l.from l.line.end l.line.stop (byte_of l.kind) l.c l.initial.out l.at l.first l.n l.out;
}
