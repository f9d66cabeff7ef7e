-- A law for each exit.
use mathlib.Core.Path.{sym}
use lib.ListN.{get_or-map, length-map}
use native.Mathlib.Omega.{arith}
use Rattle.steps.specs.State.{place_of}
use Rattle.steps.proofs.Passed.{passed_as}
use Rattle.steps.proofs.Asking.{left_all, left_more, left_stops, left_end}
use Rattle.steps.proofs.asks.arguments.Goals as goal

pub loop-i-init : goal.loop-i-init
loop-i-init c = left_all _ _ _

pub returns-in_err-argument : goal.returns-in_err-argument
returns-in_err-argument c = left_stops _ _ _ _ c.loop-i.invariant _ _ c.loop-i-test.true
    (omega (arith, c.requires.0, c.loop-i-test.true, length-map c.args.places.now place_of)) c.known.ensures
    (sym (get_or-map place_of c.args.places.now c.loop-i.i (record { 0 = 0 }))) _ _ (passed_as _ c.from_residual.ensures.1) c.in_err-argument.ensures

pub loop-i-preserved : goal.loop-i-preserved
loop-i-preserved c = left_more _ _ _ _ c.loop-i.invariant _ _ c.loop-i-test.true
    (omega (arith, c.requires.0, c.loop-i-test.true, length-map c.args.places.now place_of)) c.known.ensures
    (sym (get_or-map place_of c.args.places.now c.loop-i.i (record { 0 = 0 }))) c.in_ok-argument.ensures

pub returns : goal.returns
returns c = left_end _ _ _ _ c.loop-i.invariant c.loop-i-test.false
