use Rattle.std.proofs.Common.{◌+◌, arith}
use Rattle.wire_link.proofs.WiresMemory.{arrived}
use Rattle.wire_link.proofs.wire.Wire.arrive.Goals as goal

pub invariant_of-self : goal.invariant_of-self
invariant_of-self c =
    let w = c.self.inside in let i = c.if-number-self.true in
    arrived w.handed w.acked w.next w.sent w.copies.items w.frames.items w.acks.items c.self.invariant c.take_data.new.frames.items c.put_ack.new.acks.items c.in-Some.number c.in-Some.packet (w.handed + 1)
    c.in-Some.ensures.0 c.in-Some.ensures.1 (grind (arith, i)) c.put_ack.ensures.acks c.put_ack.ensures.kept

pub invariant_of-self-else-number-self : goal.invariant_of-self-else-number-self
invariant_of-self-else-number-self c =
    let w = c.self.inside in let i = c.if-number-self.false in
    arrived w.handed w.acked w.next w.sent w.copies.items w.frames.items w.acks.items c.self.invariant c.take_data.new.frames.items c.put_ack-else-number-self.new.acks.items c.in-Some.number c.in-Some.packet w.handed
    c.in-Some.ensures.0 c.in-Some.ensures.1 (grind (arith, i)) c.put_ack-else-number-self.ensures.acks c.put_ack-else-number-self.ensures.kept
