use native.Mathlib.Omega.{arith}
use mathlib.Core.Path.{refl}
use Rattle.answers.proofs.Passed.{passed_as}
use Rattle.typing.proofs.CallStatements.{call_at, call_fits, call_refused, call_goes}
use Rattle.typing.proofs.body.Body.type_call.Goals as goal

pub read-call-requires : goal.read-call-requires
read-call-requires c = call_at c.requires.stands c.requires.starts

pub returns-in_err-need_callable : goal.returns-in_err-need_callable
returns-in_err-need_callable c =
    λ t.
    let asks = c.in_err-need_callable.ensures t.side t.places t.context t.entry t.within t.is in
    call_refused t c.requires.starts c.read-call.ensures asks (passed_as _ c.from_residual.ensures.1)

pub overflow_add-result-3 : goal.overflow_add-result-3
overflow_add-result-3 c = let h = call_fits c.requires.stands c.requires.starts c.read-call.ensures in omega arith

pub returns : goal.returns
returns c =
    λ t.
    let asks = c.in_ok-need_callable.ensures t.side t.places t.context t.entry t.within t.is in
    call_goes t c.requires.starts c.read-call.ensures asks (λ e. c.after.ensures t.side t.places t.entry _ t.is e) refl
