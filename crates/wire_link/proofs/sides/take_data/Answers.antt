use Rattle.std.proofs.Common.{refl, ap}
use Rattle.wire_link.specs.Wires.{frames_in}
use Rattle.wire_link.proofs.FirstFrame.{data_taken, none_front}
use Rattle.wire_link.proofs.sides.take_data.Goals as goal

pub returns-in-None : goal.returns-in-None
returns-in-None c = (ap frames_in (none_front c.args.frames.now.items c.in-None.ensures), refl)

pub returns-in-Some : goal.returns-in-Some
returns-in-Some c =
    data_taken c.args.frames.now.items c.in-Some.first.now c.in-Some.ensures c.requires c.skip.new.self.items c.decode-frame.result c.data_of.result c.decode-frame.ensures c.data_of.ensures c.skip.ensures
