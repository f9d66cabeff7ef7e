-- The hops of the search, followed where the buffer has room.
use Prim.Native.Nat.{◌+◌}
use Rattle.route.proofs.Answered.{none_answered, short_answered, written_answered, written_over}
use Rattle.route.proofs.find_route.Goals as goal

pub returns-in_default : goal.returns-in_default
returns-in_default c =
    let a = c.args in
    λ R w. none_answered c.search.new.hop a.a a.out.now (c.in_default.ensures R w)

pub returns-then-out-n : goal.returns-then-out-n
returns-then-out-n c =
    let a = c.args in
    let hop = c.search.new.hop in
    λ R w. short_answered hop a.a c.in-Some.k a.out.now (c.in-Some.ensures R w) c.if-out-n.true

pub returns : goal.returns
returns c =
    let a = c.args in
    let hop = c.search.new.hop in
    λ R w. written_answered hop a.a c.in-Some.k a.out.now (c.in-Some.ensures R w) _ c.if-out-n.false
    (written_over hop a.a (c.in-Some.k + 1) _ a.out.now c.if-out-n.false c.trace.ensures)
