use Rattle.std.specs.Prelude.{drop}
use Rattle.run_types.specs.declared.types.What.TheVariants as W
use Rattle.run_types.specs.declared.types.WireAct.TheVariants as A
use Rattle.wire_link.proofs.WiresMemory.{happened, late_frames, late_acks}
use Rattle.wire_link.proofs.wire.Wire.late.Goals as goal

pub invariant_of-self : goal.invariant_of-self
invariant_of-self c =
    let w = c.self.inside in let i = c.self.invariant in
    happened w.handed w.acked w.next w.sent w.copies.items w.frames.items w.acks.items i A.Late (W.Late c.in-Some.number) c.put_data.new.frames.items w.acks.items c.put_data.ensures.kept i.told_back
    (late_frames w.handed w.acked w.next w.sent w.copies.items w.frames.items w.acks.items i c.take_data.new.frames.items c.put_data.new.frames.items c.in-Some.number c.in-Some.packet
    (drop w.handed i.carried.0) c.in-Some.ensures.0 c.put_data.ensures.frames)

pub invariant_of-self-in-Some-take_ack : goal.invariant_of-self-in-Some-take_ack
invariant_of-self-in-Some-take_ack c =
    let w = c.self.inside in let i = c.self.invariant in
    happened w.handed w.acked w.next w.sent w.copies.items w.frames.items w.acks.items i A.LateAck (W.Late c.in-Some-take_ack.number) w.frames.items c.put_ack.new.acks.items i.sent_frames c.put_ack.ensures.kept
    (late_acks w.handed w.acked w.next w.sent w.copies.items w.frames.items w.acks.items i c.take_ack.new.acks.items c.put_ack.new.acks.items c.in-Some-take_ack.number
    (drop w.handed i.carried.0) c.in-Some-take_ack.ensures.0 c.put_ack.ensures.acks)
