use Rattle.rendezvous_protocol.proofs.SlotNumbers.{has_room, issued}
use Rattle.rendezvous_protocol.proofs.outstanding.Outstanding.issue.Goals as goal

pub insert_reserved-number-requires : goal.insert_reserved-number-requires
insert_reserved-number-requires c = has_room c.self.inside.slots c.self.inside.numbers.items c.args.slot c.self.invariant (rw c.self.view_is c.requires.none)

pub invariant_of-self : goal.invariant_of-self
invariant_of-self c =
    let e = c.insert_reserved-number.ensures in
    issued c.self.inside.slots c.insert_reserved-number.new.self c.self.inside.numbers.items c.args.slot c.insert_reserved-number.result c.self.invariant
    (rw c.self.view_is c.requires.none) e.was_vacant e.updates e.len e.capacity
