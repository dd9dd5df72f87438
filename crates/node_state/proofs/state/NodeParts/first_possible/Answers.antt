use Rattle.std.proofs.Common.{sym, arith, length, ◌<◌}
use Rattle.slot_queues.specs.Mail.{box_of}
use Rattle.node_heap.specs.Heaps.{object_at}
use Rattle.object_interp.specs.Offers.{offers_at}
use Rattle.node_state.proofs.FirstAlternative.{chosen_here, chosen_later}
use Rattle.node_state.proofs.state.NodeParts.first_possible.Goals as goal

pub returns-then-is_possible : goal.returns-then-is_possible
returns-then-is_possible c =
    let h : c.loop-place.place < length (offers_at c.args.unit.now (object_at c.args.self.now.heap c.args.slot)) = omega arith in
    chosen_here (box_of c.args.self.now.mailbox c.args.slot) (offers_at c.args.unit.now (object_at c.args.self.now.heap c.args.slot)) c.loop-place.place h c.loop-place.invariant (sym c.if-is_possible.ensures)

pub loop-place-preserved : goal.loop-place-preserved
loop-place-preserved c =
    let h : c.loop-place.place < length (offers_at c.args.unit.now (object_at c.args.self.now.heap c.args.slot)) = omega arith in
    chosen_later (box_of c.args.self.now.mailbox c.args.slot) (offers_at c.args.unit.now (object_at c.args.self.now.heap c.args.slot)) c.loop-place.place h c.loop-place.invariant (sym c.if-is_possible.ensures)
