-- The innermost block's length word stands where the numbers say, and its bytes reach from behind it to the end of the file so far.
use native.Mathlib.Omega.{arith}
use Rattle.unlisting.proofs.Closing.{innermost_word, closes_by}
use Rattle.unlisting.proofs.lines.put_innermost.Goals as goal

pub overflow_sub-c : goal.overflow_sub-c
overflow_sub-c c = omega (arith, innermost_word _ _ c.requires.0.1 c.requires.1)

pub overflow_sub-c-2 : goal.overflow_sub-c-2
overflow_sub-c-2 c = omega (arith, innermost_word _ _ c.requires.0.1 c.requires.1)

pub overflow_cast-c : goal.overflow_cast-c
overflow_cast-c c = omega (arith, c.requires.0.1.fits)

pub put_length-requires : goal.put_length-requires
put_length-requires c = omega (arith, c.requires.0.1.fits, innermost_word _ _ c.requires.0.1 c.requires.1)

pub returns : goal.returns
returns c = closes_by _ _ _ c.put_length.ensures
