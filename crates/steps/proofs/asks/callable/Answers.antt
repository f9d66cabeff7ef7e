-- A law for each exit.
use Rattle.steps.proofs.Passed.{passed_as}
use Rattle.steps.proofs.Asking.{call_outside, call_twice, call_slot_twice, call_argument, call_taken, call_granted}
use Rattle.steps.proofs.asks.callable.Goals as goal
use Rattle.steps.proofs.asks.callable.Goals.{then-not-no_location_twice-via-then-not-no_location_twice}
use Rattle.steps.proofs.asks.callable.Goals.{then-not-no_location_twice-via-else-not-no_location_twice+then-not-no_repeat}

pub returns-then-not-all_inside : goal.returns-then-not-all_inside
returns-then-not-all_inside c = call_outside c.args.slots.now c.args.given.now c.args.places.now _ c.args.floor.now.map.now _ c.all_inside.ensures
    c.if-not-all_inside.true

pub returns-then-not-no_location_twice : goal.returns-then-not-no_location_twice
returns-then-not-no_location_twice c =
    elim c.then-not-no_location_twice.branch [
      | then-not-no_location_twice-via-then-not-no_location_twice w ↦
          call_twice c.args.slots.now c.args.given.now c.args.places.now _ c.args.floor.now.map.now _ c.all_inside.ensures
          c.if-not-all_inside.false _ c.no_location_twice.ensures w.if-not-no_location_twice.true
      | then-not-no_location_twice-via-else-not-no_location_twice+then-not-no_repeat w ↦
          call_slot_twice c.args.slots.now c.args.given.now c.args.places.now _ c.args.floor.now.map.now _ c.all_inside.ensures
          c.if-not-all_inside.false _ c.no_location_twice.ensures w.if-not-no_location_twice.false _ w.no_repeat.ensures w.if-not-no_repeat.true
    ]

pub returns-in_err-arguments : goal.returns-in_err-arguments
returns-in_err-arguments c =
    call_argument c.args.slots.now c.args.given.now c.args.places.now _ c.args.floor.now.map.now _ c.all_inside.ensures
    c.if-not-all_inside.false _ c.no_location_twice.ensures c.if-not-no_location_twice.false _ c.no_repeat.ensures c.if-not-no_repeat.false _ _
    (passed_as _ c.from_residual.ensures.1) c.in_err-arguments.ensures

pub returns-then-not-all_free : goal.returns-then-not-all_free
returns-then-not-all_free c =
    call_taken c.args.slots.now c.args.given.now c.args.places.now _ c.args.floor.now.map.now _ c.all_inside.ensures
    c.if-not-all_inside.false _ c.no_location_twice.ensures c.if-not-no_location_twice.false _ c.no_repeat.ensures c.if-not-no_repeat.false
    c.in_ok-arguments.ensures
    _ c.all_free.ensures c.if-not-all_free.true

pub returns : goal.returns
returns c =
    call_granted c.args.slots.now c.args.given.now c.args.places.now _ c.args.floor.now.map.now _ c.all_inside.ensures
    c.if-not-all_inside.false _ c.no_location_twice.ensures c.if-not-no_location_twice.false _ c.no_repeat.ensures c.if-not-no_repeat.false
    c.in_ok-arguments.ensures
    _ c.all_free.ensures c.if-not-all_free.false
