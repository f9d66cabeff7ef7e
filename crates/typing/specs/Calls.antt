-- A call in the bytes: its lists, and what is known of it and of its callee.
use Rattle.std.specs.Prelude.{List, map, ◌≡◌, ℕ, ◌+◌, ◌*◌, ◌≤◌, ◌<◌, get_or, length}
use Rattle.rules.specs.Basics.{up_to, byte}
use Rattle.rules.specs.Syntax.{Side, Place, param}
use Rattle.rules.specs.Slots.{slot, is_qubit_at}
use Rattle.rules.specs.Typing.{Signature}
use Rattle.sets.specs.Sets.{has}
use Rattle.typing.specs.declared.calls.Call.{Call}
use Rattle.typing.specs.declared.endings.Endings.{Endings}

-- the places that bytes name
abbrev pub places : (d : Side) → List ℕ → List (Place d)
places d ls = map (λ l. record { no = l }) ls

-- k locations, and after them m slots
pub record CallAt (s : List ℕ) (at : ℕ) : Type 0 where
  pub fits : at + 4 + byte s (at + 2) + byte s (at + 3) ≤ length s
  pub callee : byte s (at + 1) < 15
  pub most : byte s (at + 3) ≤ 8
  pub fewer : byte s (at + 3) ≤ byte s (at + 2)
  pub slots : (i : ℕ) → i < byte s (at + 3) → byte s (at + 4 + byte s (at + 2) + i) < 32

-- c is the call at `at`
pub record CallIs (s : List ℕ) (at : ℕ) (c : Call) : Type 0 where
  pub callee : c.callee ≡ byte s (at + 1)
  pub places : c.places.now ≡ up_to (at + 4) (byte s (at + 2)) (byte s)
  pub slots : c.slots.now ≡ up_to (at + 4 + byte s (at + 2)) (byte s (at + 3)) (byte s)

-- the callee's signature is g, which the code knows, and the call's locations are places of the body
pub record Ends (c : Call) (endings : Endings) (places : ℕ) (g : Signature) : Type 0 where
  pub same : g.m ≡ length c.slots.now
  pub kept : (i : ℕ) → i < length c.slots.now → has endings.kept (8 * c.callee + i) ≡ is_qubit_at (slot g.ends.slots i) (param i)
  pub within : (i : ℕ) → i < length c.places.now → get_or c.places.now i 0 < places
