-- Each exit before the body is a law of the row of checks; what comes after the header is the body's.
use mathlib.Core.Bool.{true}
use mathlib.Core.Path.{◌≡◌, sym, ap, ◌∙◌}
use Rattle.answers.specs.Check.{refused}
use Rattle.answers.proofs.Passed.{passed_on}
use Rattle.rules.specs.Basics.{word, has_mark}
use Rattle.device.proofs.HeaderLaws.{read_short, read_mark, read_version, read_header, read_past, made_few}
use Rattle.device.proofs.read.Goals as goal

pub returns-then-s-lt-BYTES : goal.returns-then-s-lt-BYTES
returns-then-s-lt-BYTES c = ap refused c.at.ensures ∙ read_short _ c.if-s-lt-BYTES.true

pub returns-then-not-has_mark : goal.returns-then-not-has_mark
returns-then-not-has_mark c =
    let m = sym c.has_mark.ensures ∙ c.if-not-has_mark.true in
    ap refused c.at-then-not-has_mark.ensures ∙ read_mark _ c.if-s-lt-BYTES.false m

pub returns-then-word_at-ne-VERSION : goal.returns-then-word_at-ne-VERSION
returns-then-word_at-ne-VERSION c =
    let marked : has_mark c.args.s.now 0x47 ≡ true =
    sym c.has_mark.ensures ∙ c.if-not-has_mark.false in
    let w = c.word_at.ensures.value in
    ap refused c.at-then-word_at-ne-VERSION.ensures ∙ read_version _ c.if-s-lt-BYTES.false marked (λ e. c.if-word_at-ne-VERSION.true (w ∙ e))

pub read_body-requires : goal.read_body-requires
read_body-requires c = made_few c.word_at-n.result c.word_at-e.result _ c.in_ok-h.ensures

-- where the header is made the tests before it are passed, and its numbers are those of the bytes
pub returns : goal.returns
returns c =
    let marked : has_mark c.args.s.now 0x47 ≡ true = sym c.has_mark.ensures ∙ c.if-not-has_mark.false in
    let version : word c.args.s.now 3 ≡ 1 = sym c.word_at.ensures.value ∙ c.if-word_at-ne-VERSION.false in
    c.read_body.ensures ∙ sym (read_past c.args.s.now c.if-s-lt-BYTES.false marked version _ _ c.word_at-n.ensures.value c.word_at-e.ensures.value _ c.in_ok-h.ensures)

pub returns-in_err-h : goal.returns-in_err-h
returns-in_err-h c =
    let marked : has_mark c.args.s.now 0x47 ≡ true = sym c.has_mark.ensures ∙ c.if-not-has_mark.false in
    let version : word c.args.s.now 3 ≡ 1 = sym c.word_at.ensures.value ∙ c.if-word_at-ne-VERSION.false in
    passed_on _ c.from_residual.ensures.1
    ∙ read_header c.args.s.now c.if-s-lt-BYTES.false marked version _ _ c.word_at-n.ensures.value c.word_at-e.ensures.value _ c.in_err-h.ensures
