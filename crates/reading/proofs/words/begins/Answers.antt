use mathlib.Core.Path.{ap, ◌∙◌}
use Rattle.rules.specs.Words.{opens}
use Rattle.reading.proofs.Opening.{opens_taken}
use Rattle.reading.proofs.words.begins.Goals as goal

pub returns : goal.returns
returns c =
    c.starts_with.ensures.value ∙ opens_taken c.args.part.now c.letters.result.now ∙ ap (opens c.args.part.now) c.letters.ensures
