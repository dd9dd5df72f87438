use Rattle.std.proofs.Common.{refl, ap}
use Rattle.wire_link.specs.Wires.{acks_in}
use Rattle.wire_link.proofs.FirstFrame.{ack_taken, none_front}
use Rattle.wire_link.proofs.sides.take_ack.Goals as goal

pub returns-in-None : goal.returns-in-None
returns-in-None c = (ap acks_in (none_front c.args.acks.now.items c.in-None.ensures), refl)

pub returns-in-Some : goal.returns-in-Some
returns-in-Some c =
    ack_taken c.args.acks.now.items c.in-Some.first.now c.in-Some.ensures c.requires c.skip.new.self.items c.decode-frame.result c.ack_of.result c.decode-frame.ensures c.ack_of.ensures c.skip.ensures
