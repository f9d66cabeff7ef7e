use mathlib.Core.Path.{sym, ◌∙◌}
use native.Mathlib.Omega.{arith}
use Prim.Native.Nat.{◌+◌}
use Rattle.device.proofs.EdgeLaws.{edge_bad, edge_good, edge_done}
use Rattle.device.proofs.edges.test_edges.Goals as goal

pub returns-then-not-stands : goal.returns-then-not-stands
returns-then-not-stands c =
    let a = c.args in
    let l = c.loop-i in
    let b = sym c.stands.ensures ∙ c.if-not-stands.true in
    edge_bad a.s.now a.n (9 + a.n) a.e l.i l.invariant (omega arith) b _ c.at.ensures

pub loop-i-preserved : goal.loop-i-preserved
loop-i-preserved c =
    let a = c.args in
    let l = c.loop-i in
    let b = sym c.stands.ensures ∙ c.if-not-stands.false in
    edge_good a.s.now a.n (9 + a.n) a.e l.i l.invariant (omega arith) b

pub returns : goal.returns
returns c =
    let a = c.args in
    let l = c.loop-i in
    edge_done a.s.now a.n (9 + a.n) a.e l.i l.invariant (omega arith)
