-- The characters from 0x30 to 0x39 are the digits.
use native.Mathlib.Omega.{arith}
use Rattle.reading.specs.Cursor.{Digit}
use Rattle.reading.proofs.words.digit.Goals as goal

pub returns-in-48-to-57 : goal.returns-in-48-to-57
unfolding Digit
returns-in-48-to-57 c = (omega arith, omega arith)

pub returns-in_default : goal.returns-in_default
unfolding Digit
returns-in_default c d h e = omega arith

pub returns-in_default-2 : goal.returns-in_default-2
unfolding Digit
returns-in_default-2 c d h e = omega arith
