use native.Mathlib.Omega.{arith}
use Prim.Native.Nat.{◌+◌}
use Rattle.route.proofs.Members.{set_word, rest_more, rest_first, rest_here, rest_between, rest_end}
use Rattle.route.proofs.Swept.{spread_skip}
use Rattle.route.proofs.front.reach_word.Goals as goal

pub loop-j-preserved : goal.loop-j-preserved
loop-j-preserved c =
    let l = c.loop-j in
    let u = l.invariant.1 in
    let j = c.in-Some.j in
    let o = c.in-Some.ensures.steps.0 in (
      j + 1,
      rest_more u j _ o c.in-Some.ensures.steps.1,
      λ S L h s v. spread_skip
          (c.reach-front.ensures S L h _ (rest_here u s j o) (let f = rest_first u j o in omega arith) (rest_between u s j o) (l.invariant.2 S L h s v))
          _ (omega arith) (λ z f g. absurd (omega arith)),
    )

pub returns : goal.returns
returns c =
    let a = c.args in
    let l = c.loop-j in
    let u = l.invariant.1 in
    let s = set_word a.s a.i c.requires in
    λ L h v. spread_skip (l.invariant.2 _ L h s v) _ (let f = u.room in omega arith) (rest_end u s c.in-None.ensures.steps.0)
