use Rattle.std.proofs.Common.{sym, ap}
use Rattle.run_types.specs.declared.frames.Frame.{Frame}
use Rattle.node_heap.proofs.HeapAbstraction.{in_queues, top_is}
use Rattle.node_heap.proofs.heap.Heap.at.Goals as goal

pub get-requires : goal.get-requires
get-requires c = in_queues c.self.inside c.self.invariant c.args.self.now c.self.view_is c.args.slot c.requires

pub returns : goal.returns
returns c =
    sym (ap (λ (f : Frame). f.at) (top_is c.self.inside c.self.invariant c.args.self.now c.self.view_is c.args.slot c.requires c.get.result.now c.get.ensures))
