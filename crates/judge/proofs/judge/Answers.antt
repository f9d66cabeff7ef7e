-- Typing's refusal, or the count and the walk over the typed program, each with what it says of the commands that the rules derive.
use mathlib.Core.Path.{ap, ◌∙◌}
use native.Mathlib.Omega.{arith}
use Rattle.answers.specs.Check.{refused}
use Rattle.answers.proofs.Passed.{passed_on}
use Rattle.program.proofs.In.{program_in}
use Rattle.program.proofs.Whole.{whole}
use Rattle.judge.proofs.Judged.{not_typed, judgeable, sizes, sizes_fit, no_commands, too_many, no_path, accepted}
use Rattle.judge.proofs.judge.Goals as goal

pub type_program-requires : goal.type_program-requires
type_program-requires c = let w = whole c.args.program.now.reading in (w.it, w.stands, w.tabled)

pub count_program-counted-requires : goal.count_program-counted-requires
count_program-counted-requires c = let w = whole c.args.program.now.reading in (w.it, w.stands, w.tabled)

pub walk_program-requires : goal.walk_program-requires
walk_program-requires c = let w = whole c.args.program.now.reading in (w.it, w.stands, w.tabled)

pub returns-in_err-live : goal.returns-in_err-live
returns-in_err-live c p e t R O W =
    passed_on _ c.from_residual.ensures.1 ∙ not_typed R p _ (c.in_err-live.ensures p (program_in _ p e) t R O)

pub returns-then-counted-gt-MOST_COMMANDS : goal.returns-then-counted-gt-MOST_COMMANDS
returns-then-counted-gt-MOST_COMMANDS c p e t R O W =
    let s = c.args.program.now.bytes.now in
    let P = program_in s p e in
    let j = judgeable R p s _ e (c.in_ok-live.ensures p P t R O) in
    let C = c.count_program-counted.ensures.counts p P t (sizes R p s e j) (sizes_fit R p s e j) in
    ap refused c.at.ensures ∙ too_many R p s e j _ C (omega (arith, c.if-counted-gt-MOST_COMMANDS.true))

pub returns-in_err-walk_program : goal.returns-in_err-walk_program
returns-in_err-walk_program c p e t R O W =
    let s = c.args.program.now.bytes.now in
    let P = program_in s p e in
    let j = judgeable R p s _ e (c.in_ok-live.ensures p P t R O) in
    let C = c.count_program-counted.ensures.counts p P t (sizes R p s e j) (sizes_fit R p s e j) in
    let walked = c.in_err-walk_program.ensures p R j.typed j.derives P t O W (no_commands R p s e j _ C) in
    passed_on _ c.from_residual-in_err-walk_program.ensures.1
    ∙ no_path R p s e j _ C (omega (arith, c.if-counted-gt-MOST_COMMANDS.false)) _ walked

pub returns : goal.returns
returns c p e t R O W =
    let s = c.args.program.now.bytes.now in
    let P = program_in s p e in
    let j = judgeable R p s _ e (c.in_ok-live.ensures p P t R O) in
    let C = c.count_program-counted.ensures.counts p P t (sizes R p s e j) (sizes_fit R p s e j) in
    let walked = c.in_ok-walk_program.ensures p R j.typed j.derives P t O W (no_commands R p s e j _ C) in
    accepted R p s e j _ C (omega (arith, c.if-counted-gt-MOST_COMMANDS.false)) walked
