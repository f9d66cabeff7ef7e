-- The kinds whose words are decimals: all that are written but gates and bases. In the code's `match` they are what is neither of these two.
use mathlib.Core.Bool.{false, false≢true}
use mathlib.Core.Path.{◌≡◌, refl, sym}
use native.Mathlib.Omega.{arith}
use Prim.Native.Nat.{ℕ}
use lib.ListN.{length}
use Rattle.std.specs.Prelude.{Option}
use Rattle.rules.specs.declared.statements.Operand.{Operand}
use Rattle.rules.specs.declared.statements.Operand.TheVariants.{Slot, Location, Gate, Basis, Value, Callee, CalleeK, CalleeM, Nothing}
use Rattle.rules.specs.Words.{Text}
use Rattle.rules.specs.Listing.{silent}
use Rattle.reading.specs.Cursor.{Numeral, Valued}
use Rattle.reading.proofs.Numerals.{numeral_placed, numeral_most}

-- neither a gate nor a basis
abbrev pub Other : Operand → Type 0
Other kind = (kind ≡ Gate → ⊥) × (kind ≡ Basis → ⊥)

-- a number that is written is an operand of such a kind
pub other_valued : (kind : Operand) → silent kind ≡ false → Other kind → (u : Text) (r : Option ℕ) → Numeral u r → Valued kind u r
other_valued Slot e h u r n = record { placed = λ S l. numeral_placed u r n 32 (omega arith); most = numeral_most u r n }
other_valued Location e h u r n = record { placed = λ S l. numeral_placed u r n S.places (omega arith); most = numeral_most u r n }
other_valued Gate e h u r n = absurd (h.0 refl)
other_valued Basis e h u r n = absurd (h.1 refl)
other_valued Value e h u r n = record { placed = λ S l. numeral_placed u r n 2 (omega arith); most = numeral_most u r n }
other_valued Callee e h u r n = record { placed = λ S l. numeral_placed u r n (length S.earlier) (omega arith); most = numeral_most u r n }
other_valued CalleeK e h u r n = absurd (false≢true (sym e))
other_valued CalleeM e h u r n = absurd (false≢true (sym e))
other_valued Nothing e h u r n = absurd (false≢true (sym e))
