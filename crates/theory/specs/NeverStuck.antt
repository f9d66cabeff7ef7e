-- Demand 3, never stuck: from the fresh start, whatever the other jobs' programs are, whatever the schedule and the outcomes, every record of an
-- accepted job says moved (0) or finished (1).
use Rattle.std.specs.Prelude.{true, List, ◌≡◌, ℕ, leb}
use Rattle.answers.specs.Check.{ok}
use Rattle.answers.specs.declared.Counted.{Counted}
use Rattle.rules.specs.Basics.{all}
use Rattle.rules.specs.Device.{Device}
use Rattle.rules.specs.Region.{region_of}
use Rattle.rules.specs.Syntax.{Program}
use Rattle.rules.specs.Program.{read_program}
use Rattle.rules.specs.Run.{Turn, started, records}
use Rattle.rules.specs.Promises.{judged}
use Rattle.theory.specs.Interleaving.{records_of}

abbrev pub NeverStuck : Type 0
NeverStuck = (programFile : List ℕ) (D : Device) (programs : ℕ → Program) (j : ℕ) (a : Counted) → read_program programFile ≡ ok (programs j)
    → judged (region_of D j) (programs j) ≡ ok a
    → (ts : List Turn) → all (λ r. leb r.told.code 1) (records_of j (records D programs ts (started D programs))) ≡ true
