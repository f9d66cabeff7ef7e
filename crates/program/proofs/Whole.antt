-- What a program file that reads gives: a program, which stands in its bytes, with its table and main's place.
use mathlib.Core.Bool.{true}
use mathlib.Core.List.{List}
use mathlib.Core.Path.{◌≡◌, refl}
use Prim.Native.Nat.{ℕ}
use Rattle.std.proofs.lemmas.Bool.{false≢true}
use Rattle.answers.specs.Check.{Check, ok, refused}
use Rattle.rules.specs.Syntax.{Program}
use Rattle.rules.specs.Program.{read_program}
use Rattle.program.specs.declared.functions.FunctionTable.{FunctionTable}
use Rattle.program.specs.Heads.{Tabled}
use Rattle.program.specs.In.{ProgramIn}
use Rattle.program.specs.Reading.{accepts, tree, Reading}
use Rattle.program.proofs.In.{program_in}

pub record Whole (s : List ℕ) (t : FunctionTable) (main : ℕ) : Type 0 where
  pub it : Program
  pub reads : read_program s ≡ ok it
  pub stands : ProgramIn s it
  pub tabled : Tabled it t main

pub whole : {s : List ℕ} {t : FunctionTable} {main : ℕ} → Reading s t main → Whole s t main
whole {s} {t} {main} r = go (read_program s) refl
  where
    go : (m : Check Program) → read_program s ≡ m → Whole s t main
    go (ok p) e =
        let z : Tabled (tree s) t main = r.tabled in
        record { it = p; reads = e; stands = program_in s p e; tabled = rw (tree, e) at z }
    go (refused x) e = let z : accepts (read_program s) ≡ true = r.reads in absurd (false≢true (rw e at z))
