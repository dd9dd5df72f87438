use Rattle.std.proofs.Common.{◌≡◌, ◌+◌, drop}
use Rattle.slot_queues.specs.Mail.{box_of}
use Rattle.node_heap.specs.Heaps.{object_at}
use Rattle.object_interp.specs.Offers.{offers_at}
use Rattle.node_state.specs.Choices.{first_of_these}
use Rattle.node_state.proofs.state.NodeParts.first_possible.Given as goal

abbrev pub invariant-loop-place : goal.invariant-loop-place
invariant-loop-place l =
    first_of_these (box_of l.self.mailbox l.slot) (l.place + 1) (drop l.place (offers_at l.unit (object_at l.self.heap l.slot)))
    ≡ first_of_these (box_of l.self.mailbox l.slot) 1 (offers_at l.unit (object_at l.self.heap l.slot))
