-- The program, then the judgement, whose places are in the program.
use mathlib.Core.Path.{ap, ◌∙◌}
use Rattle.std.proofs.Common.{rules}
use Rattle.answers.specs.Check.{within}
use Rattle.answers.specs.declared.File.TheVariants.{Program}
use Rattle.answers.proofs.Passed.{passed_on}
use Rattle.rules.specs.Region.{region_of}
use Rattle.abwakiris.proofs.CheckLaws.{program_gives, check_no_program, check_judged, judgement_named}
use Rattle.abwakiris.proofs.checks.check_in.Goals as goal

pub returns-in_err-program : goal.returns-in_err-program
returns-in_err-program c D d =
    let a = c.args in
    passed_on _ c.from_residual.ensures.1 ∙ check_no_program a.program.now a.job (region_of D a.job) _ c.in_err-program.ensures.answers

pub returns : goal.returns
returns c D d =
    let a = c.args in
    let r = c.in_ok-program.ensures in
    let p = program_gives a.program.now a.job r.answers in
    let R = region_of D a.job in
    let j = c.judge.ensures p.0 (rw r.bytes p.1) (r.tables p.0 p.1) R (c.owned_by-owned.ensures D d) (c.region_rows.ensures D d) in
    check_judged a.program.now a.job R p.0 p.1 _
    (judgement_named a.job _ _ _ (λ x y h. search rules) c.map_err.ensures.cases ∙ ap (λ m. within (Program a.job) m) j)
