use Rattle.std.proofs.Common.{refl}
use Rattle.run_types.specs.declared.frames.Frame.{Frame}
use Rattle.node_heap.proofs.HeapAbstraction.{in_queues, top_put, top_kept}
use Rattle.node_heap.proofs.heap.Heap.set_serves.Goals as goal

pub get_mut-frame-requires : goal.get_mut-frame-requires
get_mut-frame-requires c = in_queues c.self.inside c.self.invariant c.args.self.now c.self.view_is c.args.slot c.requires

pub invariant_of-self : goal.invariant_of-self
invariant_of-self c =
    let old = c.get_mut-frame.result.now in
    top_kept c.self.inside c.self.invariant c.args.self.now c.self.view_is c.args.slot c.requires (record old { serves = c.args.serves })

pub returns : goal.returns
returns c =
    let old = c.get_mut-frame.result.now in
    top_put c.self.inside c.self.invariant c.args.self.now c.self.view_is c.args.slot c.requires old (record old { serves = c.args.serves })
    (λ (f : Frame). record f { serves = c.args.serves }) c.get_mut-frame.ensures.value refl
