use native.Mathlib.Omega.{arith}
use borrow.Author.Rules.{rules}
use mathlib.Core.Path.{◌≡◌, subst, ◌∙◌}
use Prim.Native.Nat.{◌-◌, ◌+◌, ◌<◌}
use lib.ListN.{length, length-set}
use Rattle.walking.proofs.QuietLaws.{Marked, marked_here, marked_run}
use Rattle.walking.proofs.quiet.Quiet.mark.Goals as goal
use Rattle.walking.proofs.quiet.Quiet.mark.Goals.{in-Some, in_default}

pub loop-i-init : goal.loop-i-init
loop-i-init c = record { long = search rules; marked = record { runs = λ k a b. absurd (omega (arith, a, b)) } }

pub loop-i-preserved : goal.loop-i-preserved
loop-i-preserved c =
    let l = c.loop-i.invariant in
    let i = c.loop-i.i - 1 in
    let e : c.loop-i.i ≡ i + 1 = omega (arith, c.loop-i-test.true) in
    let inside : i < length c.loop-i.self.ends = omega (arith, l.long, c.loop-i-test.true, c.loop-i.auto.i, c.requires) in
    let m = subst (Marked c.args.s.now c.args.counts.now c.loop-i.self.ends) e l.marked in record {
      long = length-set c.loop-i.self.ends i _ ∙ l.long;
      marked = elim c.match-quiet_end.branch [
        | in-Some w ↦ rw w.self-is (marked_run _ i _ inside w.in-Some.ensures.0 w.if-next-s.true w.in-Some.ensures.1 m)
        | in_default w ↦ rw w.self-is (marked_here _ i inside m)
      ];
    }

pub returns : goal.returns
returns c = record { runs = λ k. c.loop-i.invariant.marked.runs k (omega (arith, c.loop-i-test.false)) }
