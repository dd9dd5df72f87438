use Rattle.std.proofs.Common.{arith}
use Rattle.node_station.proofs.ForgottenPackets.{forgets_one}
use Rattle.node_station.proofs.ends.forget.Goals as goal

pub loop-i-preserved : goal.loop-i-preserved
loop-i-preserved c =
    let more = c.loop-i-test.true in
    let there = c.requires.there in
    record {
      some = omega arith;
      within = omega arith;
      left = forgets_one c.args.from c.args.to c.loop-i._i c.args.links.now c.loop-i.links c.move_head-in-loop-i.new.self (omega (arith, more, there)) c.loop-i.invariant.left c.move_head-in-loop-i.ensures.rest;
    }
