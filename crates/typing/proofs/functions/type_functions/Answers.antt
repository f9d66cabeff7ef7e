use native.Mathlib.Omega.{arith}
use mathlib.Core.Path.{refl, ap, ◌∙◌}
use Prim.Native.Nat.{ℕ, ◌<◌}
use lib.ListN.{length}
use Rattle.answers.proofs.Passed.{passed_as}
use Rattle.program.specs.declared.functions.Head.{Head}
use Rattle.typing.proofs.FunctionTypes.{upto_none, upto_one, upto_all, body_case, function_refused}
use Rattle.typing.proofs.functions.type_functions.Goals as goal

abbrev k : Head → ℕ
k h = h.locations

abbrev m : Head → ℕ
m h = h.arguments

abbrev at : Head → ℕ
at h = h.body

pub loop-f-init : goal.loop-f-init
loop-f-init c = λ p P T. upto_none p.functions c.new-endings.ensures

pub entered-entry-requires : goal.entered-entry-requires
entered-entry-requires c =
    let (p, P, T) = c.requires in
    let f = c.loop-f.f in
    let e = c.head-head.ensures in
    let h = P.head f (omega (arith, T.count, c.loop-f-test.true)) in
    (omega (arith, ap m e ∙ T.ms f, h), omega (arith, ap k e ∙ T.ks f, ap m e ∙ T.ms f, h))

pub remember-endings-requires : goal.remember-endings-requires
remember-endings-requires c =
    let (p, P, T) = c.requires in
    let f = c.loop-f.f in
    let e = c.head-head.ensures in
    let h = P.head f (omega (arith, T.count, c.loop-f-test.true)) in
    (omega (arith, T.count, T.few, c.loop-f-test.true), omega (arith, ap m e ∙ T.ms f, h))

pub type_block-requires : goal.type_block-requires
type_block-requires c =
    let (p, P, T) = c.requires in
    let f = c.loop-f.f in
    let e = c.head-head.ensures in
    let one : f < length p.functions = omega (arith, T.count, c.loop-f-test.true) in
    body_case c.args.s P (c.loop-f.invariant p P T) one (ap k e ∙ T.ks f) (ap m e ∙ T.ms f) (ap at e ∙ T.bodies f one) _ c.first.ensures c.entered-entry.ensures

pub returns-in_err-typed : goal.returns-in_err-typed
returns-in_err-typed c =
    λ p P T.
    let f = c.loop-f.f in
    let e = c.head-head.ensures in
    let one : f < length p.functions = omega (arith, T.count, c.loop-f-test.true) in
    function_refused c.args.s P (c.loop-f.invariant p P T) one (ap k e ∙ T.ks f) (ap m e ∙ T.ms f) (ap at e ∙ T.bodies f one) _
    c.first.ensures c.entered-entry.ensures c.in_err-typed.ensures (passed_as _ c.from_residual.ensures.1)

pub loop-f-preserved : goal.loop-f-preserved
loop-f-preserved c =
    λ p P T.
    let f = c.loop-f.f in
    let e = c.head-head.ensures in
    let one : f < length p.functions = omega (arith, T.count, c.loop-f-test.true) in
    upto_one c.args.s P (c.loop-f.invariant p P T) one (ap k e ∙ T.ks f) (ap m e ∙ T.ms f) (ap at e ∙ T.bodies f one) _ c.first.ensures c.entered-entry.ensures
    c.in_ok-typed.ensures c.remember-endings.ensures

pub returns : goal.returns
returns c = λ p P T. upto_all c.args.s P (c.loop-f.invariant p P T) (omega (arith, T.count)) (omega (arith, T.count)) refl
