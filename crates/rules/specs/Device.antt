-- Device files. Order: 1, 2, 3, 4 (n, then e), 5, 6, 7.
use Rattle.std.specs.Prelude.{Bool, true, ◌&&◌, ◌||◌, List, [], ◌∷◌, ℕ, zero, suc, ◌+◌, ◌*◌, eqb, ltb, leb, length}
use Rattle.std.proofs.Math.Option.{Option, none, some}
use Rattle.answers.specs.Check.{Check, ok, ◌>>=◌, ◌>>◌, need}
use Rattle.rules.specs.declared.device.DeviceHeader.{DeviceHeader}
use Rattle.rules.specs.Basics.{byte, word, has_mark}

pub record Edge : Type 0 where
  pub from : ℕ
  pub to : ℕ

pub record Device : Type 0 where
  pub owners : List ℕ
  pub edges : List Edge

-- n is 1 to 256 and e 0 to 1,024
abbrev pub device_header : ℕ → ℕ → Check DeviceHeader
device_header n e = do
  need (leb 1 n && leb n 256) 4 5
  need (leb e 1024) 4 7
  ok (record { locations = n; edges = e })

-- m owner bytes from i on: 0 nobody, 1 or 2 that job
abbrev pub owners : List ℕ → ℕ → ℕ → Check (List ℕ)
owners s i zero = ok []
owners s i (suc m) = do
  need (leb (byte s i) 2) 6 i
  rest ← owners s (suc i) m
  ok (byte s i ∷ rest)

-- strictly increasing by (a, b): the edge comes after the one before it, if any
abbrev pub increases : Option Edge → Edge → Bool
increases none e = true
increases (some d) e = ltb d.from e.from || (eqb d.from e.from && ltb d.to e.to)

-- m edges from i on, each two bytes a, b with a < b < n
abbrev pub edges : List ℕ → ℕ → Option Edge → ℕ → ℕ → Check (List Edge)
edges s n before i zero = ok []
edges s n before i (suc m) = do
  let e : Edge = record { from = byte s i; to = byte s (i + 1) }
  need (ltb e.from e.to && ltb e.to n && increases before e) 7 i
  rest ← edges s n (some e) (i + 2) m
  ok (e ∷ rest)

abbrev pub read_device : List ℕ → Check Device
read_device s = do
  need (leb 9 (length s)) 1 0
  need (has_mark s 0x47) 2 0
  need (eqb (word s 3) 1) 3 3
  h ← device_header (word s 5) (word s 7)
  need (eqb (length s) (9 + h.locations + 2 * h.edges)) 5 0
  ws ← owners s 9 h.locations
  es ← edges s h.locations none (9 + h.locations) h.edges
  ok (record { owners = ws; edges = es })
