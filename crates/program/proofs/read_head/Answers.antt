-- The header is refused at the first of its faults, else made.
use native.Mathlib.Omega.{arith}
use mathlib.Core.Path.{ap, sym, ◌∙◌}
use Rattle.answers.specs.Check.{refused}
use Rattle.program.proofs.FileLaws.{head_short, head_long, head_mark, head_version, head_made}
use Rattle.program.proofs.read_head.Goals as goal

pub returns-then-s-lt-FEWEST_BYTES : goal.returns-then-s-lt-FEWEST_BYTES
returns-then-s-lt-FEWEST_BYTES c = ap refused c.at.ensures ∙ sym (head_short _ (omega arith))

pub returns-then-s-gt-MOST_BYTES : goal.returns-then-s-gt-MOST_BYTES
returns-then-s-gt-MOST_BYTES c = ap refused c.at-then-s-gt-MOST_BYTES.ensures ∙ sym (head_long _ (omega arith) (omega arith))

pub returns-then-not-has_mark : goal.returns-then-not-has_mark
returns-then-not-has_mark c =
    let m = sym c.has_mark.ensures ∙ c.if-not-has_mark.true in
    ap refused c.at-then-not-has_mark.ensures ∙ sym (head_mark _ (omega arith) (omega arith) m)

pub returns-then-word_at-ne-VERSION : goal.returns-then-word_at-ne-VERSION
returns-then-word_at-ne-VERSION c =
    let m = sym c.has_mark.ensures ∙ c.if-not-has_mark.false in
    ap refused c.at-then-word_at-ne-VERSION.ensures
    ∙ sym (head_version _ (omega arith) (omega arith) m (λ e. c.if-word_at-ne-VERSION.true (c.word_at.ensures.value ∙ e)))

pub returns : goal.returns
returns c =
    let m = sym c.has_mark.ensures ∙ c.if-not-has_mark.false in
    c.new.ensures ∙ sym (head_made _ (omega arith) (omega arith) m (omega arith))
