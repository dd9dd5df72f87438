use Rattle.node_heap.proofs.HeapAbstraction.{in_queues, popped_kept, popped_put}
use Rattle.node_heap.proofs.heap.Heap.pop_frame.Goals as goal

pub discard_front-requires : goal.discard_front-requires
discard_front-requires c = in_queues c.self.inside c.self.invariant c.args.self.now c.self.view_is c.args.slot c.requires.slot

pub invariant_of-self : goal.invariant_of-self
invariant_of-self c =
    popped_kept c.self.inside c.self.invariant c.args.self.now c.self.view_is c.args.slot c.requires.slot c.discard_front.new.self c.requires.frames c.discard_front.ensures

pub returns-clause-frames : goal.returns-clause-frames
returns-clause-frames c =
    popped_put c.self.inside c.self.invariant c.args.self.now c.self.view_is c.args.slot c.requires.slot c.discard_front.new.self c.discard_front.ensures
