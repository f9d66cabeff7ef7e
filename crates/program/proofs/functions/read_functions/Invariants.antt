-- The functions left to read from the position on give what is asked, with the heads of those read in the table.
use mathlib.Core.List.{[]}
use Prim.Native.Nat.{◌≤◌}
use lib.ListN.{length}
use Rattle.rules.specs.Program.{functions_at}
use Rattle.program.proofs.FunctionLaws.{FunctionsLeft}
use Rattle.program.proofs.functions.read_functions.Given as goal

abbrev pub invariant-loop : goal.invariant-loop
invariant-loop l =
    (l.at ≤ l.next) × (l.next ≤ length l.s) × FunctionsLeft l.s (functions_at l.s l.n l.at []) l.n l.next l.counter l.table
