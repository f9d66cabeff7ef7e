-- What a table of functions says: the head of each function of a program.
use Rattle.std.specs.Prelude.{List, ◌≡◌, ℕ, ◌<◌, ◌≤◌, get_or, length}
use Rattle.rules.specs.Syntax.{Function, function, Program}
use Rattle.program.specs.declared.functions.Head.{Head}
use Rattle.program.specs.declared.functions.FunctionTable.{FunctionTable}
use Rattle.program.specs.In.{offset_of}

-- the head where there is no function, and the head of function g
abbrev pub no_head : Head
no_head = record { locations = 0; arguments = 0; body = 0 }

abbrev pub entry : FunctionTable → ℕ → Head
entry t g = get_or t.heads g no_head

-- the table's heads are those of the functions read so far
pub record Heads (fs : List Function) (t : FunctionTable) : Type 0 where
  pub count : t.count ≡ length fs
  pub few : length fs ≤ 15
  pub ks : (g : ℕ) → (entry t g).locations ≡ (function fs g).k
  pub ms : (g : ℕ) → (entry t g).arguments ≡ (function fs g).m
  pub bodies : (g : ℕ) → g < length fs → (entry t g).body ≡ offset_of (function fs g).body

-- what a read program's table and main's place say of it
pub record Tabled (p : Program) (t : FunctionTable) (main : ℕ) : Type 0 where
  pub heads : Heads p.functions t
  pub main_at_lem : main ≡ offset_of p.main
