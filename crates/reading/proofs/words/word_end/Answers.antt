use native.Mathlib.Omega.{arith}
use Rattle.rules.specs.Words.{space}
use Rattle.reading.specs.Cursor.{part}
use Rattle.reading.proofs.Splitting.{length_part, first_most, word_first}
use Rattle.reading.proofs.words.word_end.Goals as goal

pub overflow_add-result : goal.overflow_add-result
unfolding part
overflow_add-result c =
    let text = c.args.text.now in
    let at = c.args.at in
    let end = c.args.end in
    omega (arith, c.until.ensures, first_most space (part text at end), length_part text at end c.requires.0 c.requires.1)

pub returns : goal.returns
unfolding part
returns c =
    let text = c.args.text.now in
    let at = c.args.at in
    let end = c.args.end in record {
      within = (
        omega arith,
        omega (arith, c.until.ensures, first_most space (part text at end), length_part text at end c.requires.0 c.requires.1),
      );
      word_end = word_first text at end c.requires.0 c.requires.1 c.until.result c.until.ensures;
    }
