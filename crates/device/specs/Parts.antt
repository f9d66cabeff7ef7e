-- What the parts of the reader answer: the tests of the owner bytes, of an edge and of all edges, and what comes after the header.
use Rattle.std.specs.Prelude.{Bool, ◌&&◌, List, ℕ, zero, suc, ◌+◌, ◌*◌, eqb, ltb, length}
use Rattle.std.proofs.Math.Option.{Option, none, some}
use Rattle.answers.specs.Check.{Check, ok, refused, ◌>>◌, need}
use Rattle.rules.specs.declared.device.DeviceHeader.{DeviceHeader}
use Rattle.rules.specs.Basics.{byte}
use Rattle.rules.specs.Device.{Edge, owners, edges, increases}

-- whether checks passed, without what they give
unfoldable pub tested : {A : Type 0} → Check A → Check (Unit {0})
tested (ok a) = ok tt
tested (refused r) = refused r

-- what comes after the header, read
unfoldable pub body_read : List ℕ → DeviceHeader → Check DeviceHeader
body_read s h = do
  need (eqb (length s) (9 + h.locations + 2 * h.edges)) 5 0
  tested (owners s 9 h.locations)
  tested (edges s h.locations none (9 + h.locations) h.edges)
  ok h

-- the edge whose two bytes are at a position
abbrev pub edge_at : List ℕ → ℕ → Edge
edge_at s at = record { from = byte s at; to = byte s (at + 1) }

-- the edge before edge number i, where the first edge is at `start`
abbrev pub edge_before : List ℕ → ℕ → ℕ → Option Edge
edge_before s start zero = none
edge_before s start (suc i) = some (edge_at s (start + 2 * i))

-- edge number i passes its test
abbrev pub edge_stands : List ℕ → ℕ → ℕ → ℕ → Bool
edge_stands s n start i =
    let e = edge_at s (start + 2 * i) in
    ltb e.from e.to && ltb e.to n && increases (edge_before s start i) e

-- the owner byte of a location names the job
abbrev pub owned_by : List ℕ → ℕ → ℕ → Bool
owned_by s j x = eqb (byte s (9 + x)) j
