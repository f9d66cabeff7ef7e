-- Qubits handed on: an accepted job that has finished occupies as many locations as its check answered to be left live, and those are where typing has the
-- qubits of main's end; whatever the other jobs' programs are, whatever the schedule and the outcomes.
use Rattle.std.specs.Prelude.{List, [], ◌↔◌, ◌≡◌, ℕ, ◌≤◌, get_or}
use Rattle.answers.specs.Check.{ok}
use Rattle.answers.specs.declared.Counted.{Counted}
use Rattle.rules.specs.Device.{Device}
use Rattle.rules.specs.Region.{region_of}
use Rattle.rules.specs.Syntax.{device, Place, Program}
use Rattle.rules.specs.Program.{read_program}
use Rattle.rules.specs.Slots.{qubit, slot}
use Rattle.rules.specs.Typing.{Typed, type_program}
use Rattle.rules.specs.Run.{Turn, started, final}
use Rattle.rules.specs.Promises.{judged}
use Rattle.theory.specs.Tidy.{bytes_of}

abbrev pub LiveAtEnd : Type 0
LiveAtEnd = (programFile : List ℕ) (D : Device) (programs : ℕ → Program) (j : ℕ) (a : Counted) → 1 ≤ j
    → read_program programFile ≡ ok (programs j)
    → judged (region_of D j) (programs j) ≡ ok a
    → (ts : List Turn) → ((final D programs ts (started D programs)).jobs j).items ≡ []
    → bytes_of j (final D programs ts (started D programs)).occupancy ≡ a.live

-- a location's byte is the job exactly where a slot of main's last environment holds a qubit there
abbrev pub LiveWhere : Type 0
LiveWhere = (programFile : List ℕ) (D : Device) (programs : ℕ → Program) (j : ℕ) (a : Counted) (t : Typed device) → 1 ≤ j
    → read_program programFile ≡ ok (programs j)
    → judged (region_of D j) (programs j) ≡ ok a → type_program (region_of D j).owned (programs j) ≡ ok t
    → (ts : List Turn) → ((final D programs ts (started D programs)).jobs j).items ≡ []
    → (l : Place device)
    → (get_or (final D programs ts (started D programs)).occupancy l.no 0 ≡ j) ↔ ((x : ℕ) × (slot t.env.slots x ≡ qubit l))
