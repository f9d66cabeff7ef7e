use mathlib.Core.Bool.{◌||◌}
use mathlib.Core.Path.{ap, ◌∙◌}
use native.Mathlib.Omega.{arith}
use Prim.Native.Nat.{◌+◌, ◌*◌}
use Rattle.sets.specs.Sets.{has}
use Rattle.route.proofs.Members.{rest_more, rest_first, rest_here, rest_between, rest_end}
use Rattle.route.proofs.Swept.{joined_skip, joined_more}
use Rattle.route.proofs.joined.join_word.Goals as goal

pub loop-j-preserved : goal.loop-j-preserved
loop-j-preserved c =
    let l = c.loop-j in
    let u = l.invariant.1 in
    let j = c.in-Some.j in
    let o = c.in-Some.ensures.steps.0 in
    let i = c.args.i in (
      j + 1,
      rest_more u j _ o c.in-Some.ensures.steps.1,
      λ S s k. joined_skip
          (joined_more (joined_skip (l.invariant.2 S s k) (i * 64 + j) (let h = rest_first u j o in omega arith) (rest_between u s j o)) (rest_here u s j o)
          (λ y. c.union-out.ensures y ∙ ap (λ r. has l.out y || has r y) c.row.ensures))
          _ (omega arith) (λ z h f. absurd (omega arith)),
    )

pub returns : goal.returns
returns c =
    let l = c.loop-j in
    let u = l.invariant.1 in
    λ S s j. joined_skip (l.invariant.2 S s j) _ (let h = u.room in omega arith) (rest_end u s c.in-None.ensures.steps.0)
