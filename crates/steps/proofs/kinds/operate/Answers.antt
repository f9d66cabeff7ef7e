-- A law for each arm.
use mathlib.Core.Path.{refl}
use native.Mathlib.Omega.{arith}
use Rattle.rules.specs.declared.statements.Kind.TheVariants.{Free, Gate, Measure, Merge, Ref, Get, Set}
use Rattle.steps.proofs.Operate.{byte_is, init_byte, last_arm_byte, byte_there, init_there, free_there, gate_there, measure_there, merge_there}
use Rattle.steps.proofs.Operate.{new_there, get_there, set_there, constant_there}
use Rattle.steps.proofs.Operate.{free_goes, new_goes, get_goes, set_goes, constant_goes, init_goes, measure_goes, merge_goes, gate_goes}
use Rattle.steps.proofs.kinds.operate.Goals as goal

pub bounds-s-at : goal.bounds-s-at
bounds-s-at c = (byte_there c.requires).2

pub known-requires : goal.known-requires
known-requires c = let f = byte_there c.requires in (f.0, f.1)

pub slot-requires : goal.slot-requires
slot-requires c = let f = init_there c.requires (init_byte _ _ c.known.ensures c.in-Init.is) in (omega (arith, f.0), f.1)

pub bounds-s-at-in-Init : goal.bounds-s-at-in-Init
bounds-s-at-in-Init c = let f = init_there c.requires (init_byte _ _ c.known.ensures c.in-Init.is) in omega (arith, f.0)

pub located-requires : goal.located-requires
located-requires c = λ h. let f = init_there c.requires (init_byte _ _ c.known.ensures c.in-Init.is) in omega (arith, f.2, c.requires.places h)

pub slot-requires-in-Free : goal.slot-requires-in-Free
slot-requires-in-Free c = let f = free_there c.requires (byte_is _ Free _ c.known.ensures c.in-Free.is) in (omega (arith, f.0), f.1)

pub slot-requires-in-Gate : goal.slot-requires-in-Gate
slot-requires-in-Gate c = let f = gate_there c.requires (byte_is _ Gate _ c.known.ensures c.in-Gate.is) in (omega (arith, f.0), f.1)

pub slot-requires-in-Measure : goal.slot-requires-in-Measure
slot-requires-in-Measure c = let f = measure_there c.requires (byte_is _ Measure _ c.known.ensures c.in-Measure.is) in (omega (arith, f.0), f.1)

pub slot-requires-in-Measure-2 : goal.slot-requires-in-Measure-2
slot-requires-in-Measure-2 c = let f = measure_there c.requires (byte_is _ Measure _ c.known.ensures c.in-Measure.is) in (omega (arith, f.0), f.2)

pub slot-y-requires : goal.slot-y-requires
slot-y-requires c = let f = merge_there c.requires (byte_is _ Merge _ c.known.ensures c.in-Merge.is) in (omega (arith, f.0), f.1)

pub slot-x-requires : goal.slot-x-requires
slot-x-requires c = let f = merge_there c.requires (byte_is _ Merge _ c.known.ensures c.in-Merge.is) in (omega (arith, f.0), f.2)

pub slot-z-requires : goal.slot-z-requires
slot-z-requires c = let f = merge_there c.requires (byte_is _ Merge _ c.known.ensures c.in-Merge.is) in (omega (arith, f.0), f.3)

pub slot-requires-in-Ref : goal.slot-requires-in-Ref
slot-requires-in-Ref c = let f = new_there c.requires (byte_is _ Ref _ c.known.ensures c.in-Ref.is) in (omega (arith, f.0), f.1)

pub slot-requires-in-Ref-2 : goal.slot-requires-in-Ref-2
slot-requires-in-Ref-2 c = let f = new_there c.requires (byte_is _ Ref _ c.known.ensures c.in-Ref.is) in (omega (arith, f.0), f.2)

pub slot-requires-in-Get : goal.slot-requires-in-Get
slot-requires-in-Get c = let f = get_there c.requires (byte_is _ Get _ c.known.ensures c.in-Get.is) in (omega (arith, f.0), f.1)

pub slot-requires-in-Get-2 : goal.slot-requires-in-Get-2
slot-requires-in-Get-2 c = let f = get_there c.requires (byte_is _ Get _ c.known.ensures c.in-Get.is) in (omega (arith, f.0), f.2)

pub slot-requires-in-Set : goal.slot-requires-in-Set
slot-requires-in-Set c = let f = set_there c.requires (byte_is _ Set _ c.known.ensures c.in-Set.is) in (omega (arith, f.0), f.1)

pub slot-requires-in-Set-2 : goal.slot-requires-in-Set-2
slot-requires-in-Set-2 c = let f = set_there c.requires (byte_is _ Set _ c.known.ensures c.in-Set.is) in (omega (arith, f.0), f.2)

pub slot-requires-in-Bool : goal.slot-requires-in-Bool
slot-requires-in-Bool c = let f = constant_there c.requires (last_arm_byte c.requires _ c.known.ensures c.in-Bool.is) in (omega (arith, f.0), f.1)

pub bounds-s-at-in-Bool : goal.bounds-s-at-in-Bool
bounds-s-at-in-Bool c = let f = constant_there c.requires (last_arm_byte c.requires _ c.known.ensures c.in-Bool.is) in omega (arith, f.0)

pub returns-in-Init : goal.returns-in-Init
returns-in-Init c = init_goes c.args.s.now _ _ _ _ c.args.floor.now.map.now _ _ _ c.slot.ensures _ refl (init_byte _ _ c.known.ensures c.in-Init.is) _
    c.located.ensures c.init.ensures

pub returns-in-Free : goal.returns-in-Free
returns-in-Free c = free_goes c.args.s.now _ _ _ _ c.args.floor.now.map.now _ _ _ c.slot-in-Free.ensures (byte_is _ Free _ c.known.ensures c.in-Free.is)
    c.free.ensures

pub returns-in-Gate : goal.returns-in-Gate
returns-in-Gate c = gate_goes c.args.s.now _ _ _ _ c.args.floor.now.map.now _ _ _ c.slot-in-Gate.ensures (byte_is _ Gate _ c.known.ensures c.in-Gate.is)
    c.gate.ensures

pub returns-in-Measure : goal.returns-in-Measure
returns-in-Measure c = measure_goes c.args.s.now _ _ _ _ c.args.floor.now.map.now _ _ _ c.slot-in-Measure.ensures _ c.slot-in-Measure-2.ensures
    (byte_is _ Measure _ c.known.ensures c.in-Measure.is) c.measure.ensures

pub returns-in-Merge : goal.returns-in-Merge
returns-in-Merge c = merge_goes c.args.s.now _ _ _ _ c.args.floor.now.map.now _ _ _ c.slot-y.ensures _ c.slot-x.ensures
    (byte_is _ Merge _ c.known.ensures c.in-Merge.is) _ c.slot-z.ensures c.merge.ensures

pub returns-in-Ref : goal.returns-in-Ref
returns-in-Ref c = new_goes c.args.s.now _ _ _ _ c.args.floor.now.map.now _ _ _ c.slot-in-Ref.ensures _ c.slot-in-Ref-2.ensures
    (byte_is _ Ref _ c.known.ensures c.in-Ref.is) c.new_reference.ensures

pub returns-in-Get : goal.returns-in-Get
returns-in-Get c = get_goes c.args.s.now _ _ _ _ c.args.floor.now.map.now _ _ _ c.slot-in-Get.ensures _ c.slot-in-Get-2.ensures
    (byte_is _ Get _ c.known.ensures c.in-Get.is) c.get_reference.ensures

pub returns-in-Set : goal.returns-in-Set
returns-in-Set c = set_goes c.args.s.now _ _ _ _ c.args.floor.now.map.now _ _ _ c.slot-in-Set.ensures _ c.slot-in-Set-2.ensures
    (byte_is _ Set _ c.known.ensures c.in-Set.is) c.set_reference.ensures

pub returns-in-Bool : goal.returns-in-Bool
returns-in-Bool c = constant_goes c.args.s.now _ _ _ _ c.args.floor.now.map.now _ _ _ c.slot-in-Bool.ensures _ refl
    (last_arm_byte c.requires _ c.known.ensures c.in-Bool.is) c.constant.ensures
