-- A program that was read, in one fact: its bytes read, and the table and main's place are those of what they read as. There is one proof of it.
use Rattle.std.specs.Prelude.{Bool, true, false, List, [], ◌≡◌, ℕ}
use Rattle.std.specs.Coded.{Coded-set, coded_ℕ, coded_bool, le_prop}
use Rattle.answers.specs.Check.{Check, ok, refused}
use Rattle.rules.specs.Syntax.{done, block, Function, Program}
use Rattle.rules.specs.Program.{read_program}
use Rattle.program.specs.declared.functions.FunctionTable.{FunctionTable}
use Rattle.program.specs.Heads.{Heads, Tabled}

abbrev pub accepts : {A : Type 0} → Check A → Bool
accepts (ok a) = true
accepts (refused r) = false

-- what the bytes read as, where they do
abbrev pub tree : List ℕ → Program
tree s = elim (read_program s) [ ok p ↦ p | refused r ↦ record { functions = []; main = block 0 done } ]

pub record Reading (s : List ℕ) (t : FunctionTable) (main : ℕ) : Type 0 where
  pub reads : accepts (read_program s) ≡ true
  pub tabled : Tabled (tree s) t main

Heads-prop : (fs : List Function) (t : FunctionTable) → IsProp (Heads fs t)
Heads-prop fs t a b = λ i. record {
  count = Coded-set coded_ℕ _ _ a.count b.count i;
  few = le_prop a.few b.few i;
  ks = λ g. Coded-set coded_ℕ _ _ (a.ks g) (b.ks g) i;
  ms = λ g. Coded-set coded_ℕ _ _ (a.ms g) (b.ms g) i;
  bodies = λ g h. Coded-set coded_ℕ _ _ (a.bodies g h) (b.bodies g h) i;
}

pub Reading-prop : (s : List ℕ) (t : FunctionTable) (main : ℕ) → IsProp (Reading s t main)
Reading-prop s t main a b = λ i. record {
  reads = Coded-set coded_bool _ _ a.reads b.reads i;
  tabled = record {
    heads = Heads-prop _ t a.tabled.heads b.tabled.heads i;
    main_at_lem = Coded-set coded_ℕ _ _ a.tabled.main_at_lem b.tabled.main_at_lem i;
  };
}
