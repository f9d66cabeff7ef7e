-- An accepted job is never stuck: what the check accepts the rules derive, and a program that the rules derive is never stuck.
use Rattle.theory.specs.NeverStuck.{NeverStuck}
use lib.ListN.{length}
use Rattle.answers.proofs.Laws.{holds_at}
use Rattle.rules.specs.Region.{region_of}
use Rattle.theory.proofs.WellRead.{well_read}
use Rattle.theory.proofs.ExactCheck.{judged_sound}
use Rattle.theory.proofs.NeverStuck.{never_stuck_derived}

pub never_stuck : NeverStuck
never_stuck file D programs j n reads accepted ts =
    let read = well_read file (programs j) reads in
    let judged = holds_at (judged_sound (region_of D j) (length file) (programs j) read) accepted in
    never_stuck_derived D programs j (length file) judged.ends judged.commands read judged.derived ts
