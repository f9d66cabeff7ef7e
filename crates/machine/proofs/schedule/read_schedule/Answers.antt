use mathlib.Core.Path.{sym, ap, ◌∙◌}
use Rattle.answers.specs.Check.{refused, in_file}
use Rattle.answers.specs.declared.File.TheVariants.{Schedule}
use Rattle.machine.proofs.Scheduling.{too_long, told, first_decides, may_run}
use Rattle.machine.proofs.schedule.read_schedule.Goals as goal

pub returns-then-schedule-gt-MOST_STEPS-clause-passed : goal.returns-then-schedule-gt-MOST_STEPS-clause-passed
returns-then-schedule-gt-MOST_STEPS-clause-passed c = ap refused (c.in_file.ensures ∙ ap (in_file Schedule) c.at.ensures)
    ∙ too_long c.args.schedule.now c.if-schedule-gt-MOST_STEPS.true

pub returns-in-Some-clause-passed : goal.returns-in-Some-clause-passed
returns-in-Some-clause-passed c = ap refused (c.in_file-in-Some.ensures ∙ ap (in_file Schedule) c.at-in-Some.ensures)
    ∙ ap told (sym c.in-Some.is ∙ c.first_no_turn.ensures) ∙ first_decides c.args.schedule.now c.if-schedule-gt-MOST_STEPS.false

pub returns-in-None-clause-passed : goal.returns-in-None-clause-passed
returns-in-None-clause-passed c = ap told (sym c.in-None.is ∙ c.first_no_turn.ensures) ∙ first_decides c.args.schedule.now c.if-schedule-gt-MOST_STEPS.false

pub invariant_of-result : goal.invariant_of-result
invariant_of-result c =
    let e = ap told (sym c.in-None.is ∙ c.first_no_turn.ensures) ∙ first_decides c.args.schedule.now c.if-schedule-gt-MOST_STEPS.false in
    let m = may_run c.args.schedule.now e in
    record { short = m.short; turns = m.all_turns }
