use Rattle.wire_link.proofs.WiresMemory.{heard}
use Rattle.wire_link.proofs.wire.Wire.ack.Goals as goal

pub invariant_of-self-2 : goal.invariant_of-self-2
invariant_of-self-2 c =
    let w = c.self.inside in
    heard w.handed w.acked w.next w.sent w.copies.items w.frames.items w.acks.items c.self.invariant c.take_ack.new.acks.items c.forget.new.copies.items c.in_ok-number.number c.later-acked.result
    c.later-self-inside.result c.in_ok-number.ensures.0 c.in_ok-number.ensures.1 c.later-acked.ensures c.later-self-inside.ensures c.forget.ensures
