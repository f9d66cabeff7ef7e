use native.Mathlib.Omega.{arith}
use Rattle.machine.proofs.Dealing.{under_start, under_on, under_done}
use Rattle.machine.proofs.run.deal.Goals as goal

pub loop-i-init : goal.loop-i-init
loop-i-init c = under_start c.args.players.now c.args.schedule.bytes.now c.args.records.now c.args.machine.now

pub turn-record-requires : goal.turn-record-requires
turn-record-requires c =
    let d = c.requires in
    let g = c.loop-i.invariant.going d.D d.p d.q d.M d.both d.holds in
    record { D = d.D; p = d.p; q = d.q; M = g.M; both = d.both; holds = g.holds; a_turn = c.args.schedule.turns _ (omega (arith, c.loop-i-test.true)) }

pub write_record-requires : goal.write_record-requires
write_record-requires c = let d = c.requires in omega (arith, d.fits, c.loop-i.invariant.long, c.loop-i-test.true)

pub loop-i-preserved : goal.loop-i-preserved
loop-i-preserved c =
    let l = c.loop-i in
    under_on c.args.players.now c.args.schedule.bytes.now c.args.records.now c.args.machine.now l.i l.machine l.moved.first l.moved.second _ _ l.records _ _
    c.turn-record.result l.invariant c.loop-i-test.true
    c.turn-record.ensures c.moved_more.ensures.more c.moved_more.ensures.one c.moved_more-in-loop-i.ensures.more c.moved_more-in-loop-i.ensures.one
    c.write_record.ensures

pub returns : goal.returns
returns c = under_done c.args.players.now c.args.schedule.bytes.now c.args.records.now c.args.machine.now c.loop-i.i _ _ _ _ c.loop-i-test.false c.loop-i.invariant
