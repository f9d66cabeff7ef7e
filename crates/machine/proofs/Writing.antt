-- Bytes written one after the other from a position on: what is still to be written, over what is written, gives what the whole gives over what was there
-- before.
use mathlib.Core.List.{List, ◌∷◌, ◌++◌}
use mathlib.Core.Path.{◌≡◌, sym, ap, ◌∙◌}
use native.Mathlib.Omega.{arith}
use Prim.Native.Nat.{ℕ, suc, ◌+◌, ◌/◌, ◌%◌, ◌≤◌}
use lib.ListN.{length, take, drop}
use lib.Seq.{sets, sets-eq, length-take-le}
use Rattle.rules.specs.Promises.{over}
use Rattle.steps.specs.declared.Record.{Record}
use Rattle.machine.specs.Running.{bytes_of}

-- from the buffer's start
pub sets_over : (new before : List ℕ) → length new ≤ length before → sets before 0 new ≡ over new before
sets_over new before h =
    let e : 0 + length new ≡ length new = omega arith in
    sets-eq new before 0 (omega arith) ∙ ap (λ (k : ℕ). new ++ drop k before) e

-- the first n bytes of the map, before what was there
pub map_written : (occupied map : List ℕ) (n : ℕ) → n ≤ length occupied → n ≤ length map → take n occupied ++ drop n map ≡ sets map 0 (take n occupied)
map_written occupied map n h k =
    let l = length-take-le n occupied h in
    ap (λ (m : ℕ). take n occupied ++ drop m map) (sym l) ∙ sym (sets_over (take n occupied) map (omega (arith, l, k)))

-- a record's four bytes, and what comes after them
pub four_more : (out : List ℕ) (p q : ℕ) (r : Record) (rest : List ℕ) → q ≡ p + 4
    → sets out p (r.code ∷ r.edges ∷ r.offset / 256 ∷ r.offset % 256 ∷ rest) ≡ sets (sets out p (bytes_of r)) q rest
four_more out p q r rest e =
    let k : suc (suc (suc (suc p))) ≡ q = omega (arith, e) in
    ap (λ (z : ℕ). sets (sets out p (bytes_of r)) z rest) k
