use Rattle.std.proofs.Common.{ap, ◌≡◌, ◌∷◌, length, arith}
use Rattle.run_types.specs.declared.frames.Frame.{Frame}
use Rattle.node_heap.specs.Heaps.{top_at}
use Rattle.node_heap.specs.Layout.{frame_of}
use Rattle.node_heap.proofs.HeapAbstraction.{in_queues, top_is, top_put, top_kept}
use Rattle.node_heap.proofs.heap.Heap.push.Goals as goal

pub get_mut-frame-requires : goal.get_mut-frame-requires
get_mut-frame-requires c = in_queues c.self.inside c.self.invariant c.args.self.now c.self.view_is c.args.slot c.requires.slot

pub push-requires : goal.push-requires
push-requires c =
    let old = c.get_mut-frame.result.now in
    let long : length (top_at c.args.self.now c.args.slot).operands ≡ length old.operands =
    ap (λ (f : Frame). length f.operands) (top_is c.self.inside c.self.invariant c.args.self.now c.self.view_is c.args.slot c.requires.slot old c.get_mut-frame.ensures.value)
    in
    omega (arith, long, c.requires.room)

pub invariant_of-self : goal.invariant_of-self
invariant_of-self c =
    let old = c.get_mut-frame.result.now in
    top_kept c.self.inside c.self.invariant c.args.self.now c.self.view_is c.args.slot c.requires.slot (record old { operands = c.push.new.self })

pub returns : goal.returns
returns c =
    let old = c.get_mut-frame.result.now in
    top_put c.self.inside c.self.invariant c.args.self.now c.self.view_is c.args.slot c.requires.slot old (record old { operands = c.push.new.self })
    (λ (f : Frame). record f { operands = c.args.value ∷ f.operands }) c.get_mut-frame.ensures.value
    (ap (λ o. frame_of (record old { operands = o })) c.push.ensures)
