use native.Mathlib.Omega.{arith}
use lib.ListN.{length}
use Rattle.rules.specs.Words.{newline}
use Rattle.reading.specs.Cursor.{part}
use Rattle.reading.proofs.Splitting.{length_part, first_most, rest, line_first}
use Rattle.reading.proofs.words.line_end.Goals as goal

pub overflow_add-result : goal.overflow_add-result
unfolding part
overflow_add-result c =
    let text = c.args.text.now in
    let at = c.args.at in
    omega (arith, c.until.ensures, first_most newline (rest text at), length_part text at (length text) c.requires (omega arith))

pub returns : goal.returns
unfolding part
returns c =
    let text = c.args.text.now in
    let at = c.args.at in record {
      within = (
        omega arith,
        omega (arith, c.until.ensures, first_most newline (rest text at), length_part text at (length text) c.requires (omega arith)),
      );
      line_end = line_first text at c.until.result c.requires c.until.ensures;
    }
