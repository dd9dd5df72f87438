use Rattle.std.proofs.Common.{ap, ◌≡◌, length, set, arith}
use Rattle.run_types.specs.declared.frames.Frame.{Frame}
use Rattle.node_heap.specs.Heaps.{top_at}
use Rattle.node_heap.specs.Layout.{frame_of}
use Rattle.node_heap.proofs.HeapAbstraction.{in_queues, top_is, top_put, top_kept}
use Rattle.node_heap.proofs.heap.Heap.store_temp.Goals as goal

pub get_mut-frame-requires : goal.get_mut-frame-requires
get_mut-frame-requires c = in_queues c.self.inside c.self.invariant c.args.self.now c.self.view_is c.args.slot c.requires.slot

pub store-requires : goal.store-requires
store-requires c =
    let old = c.get_mut-frame.result.now in
    let long : length (top_at c.args.self.now c.args.slot).temps ≡ length old.temps =
    ap (λ (f : Frame). length f.temps) (top_is c.self.inside c.self.invariant c.args.self.now c.self.view_is c.args.slot c.requires.slot old c.get_mut-frame.ensures.value)
    in
    omega (arith, long, c.requires.place)

pub invariant_of-self : goal.invariant_of-self
invariant_of-self c =
    let old = c.get_mut-frame.result.now in
    top_kept c.self.inside c.self.invariant c.args.self.now c.self.view_is c.args.slot c.requires.slot (record old { temps = c.store.new.self })

pub returns : goal.returns
returns c =
    let old = c.get_mut-frame.result.now in
    top_put c.self.inside c.self.invariant c.args.self.now c.self.view_is c.args.slot c.requires.slot old (record old { temps = c.store.new.self })
    (λ (f : Frame). record f { temps = set f.temps c.args.k c.args.value }) c.get_mut-frame.ensures.value
    (ap (λ t. frame_of (record old { temps = t })) c.store.ensures)
