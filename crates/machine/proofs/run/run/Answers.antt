-- Both jobs fresh, all turns dealt, the map written.
use Rattle.device.proofs.DeviceLaws.{sound}
use Rattle.machine.proofs.Finishing.{device_of, begins, loaded, dealing, run_is}
use Rattle.machine.proofs.run.run.Goals as goal

pub start-requires : goal.start-requires
start-requires c = begins c.args.first.now.reading

pub start-requires-2 : goal.start-requires-2
start-requires-2 c = begins c.args.second.now.reading

pub deal-moved-requires : goal.deal-moved-requires
deal-moved-requires c =
    let d = device_of c.args.device.reads in
    let l = loaded c.args.first.now.reading in
    let r = loaded c.args.second.now.reading in
    dealing c.args.device.bytes.now c.args.device.header _ c.args.first.now.main c.args.second.now.main c.args.schedule.bytes.now d.0 l.0 r.0 d.1 l.1 r.1
    (c.owned_by.ensures d.0 d.1) (c.region_rows.ensures d.0 d.1) (c.owned_by-2.ensures d.0 d.1) (c.region_rows-2.ensures d.0 d.1)
    _ _ c.start.ensures c.start-2.ensures c.requires

pub write_map-requires : goal.write_map-requires
write_map-requires c = ((sound c.args.device.reads).few, c.requires.map_fits)

pub returns : goal.returns
returns c = λ D p q Q L₁ L₂.
    run_is c.args.device.bytes.now c.args.device.header _ c.args.first.now.main c.args.second.now.main c.args.schedule.bytes.now D p q Q L₁ L₂
    (c.owned_by.ensures D Q) (c.region_rows.ensures D Q) (c.owned_by-2.ensures D Q) (c.region_rows-2.ensures D Q)
    _ _ c.start.ensures c.start-2.ensures c.args.records.now c.args.map.now _ _ _ _ c.requires c.deal-moved.ensures c.write_map.ensures
