use Rattle.std.proofs.Common.{ap, ◌≡◌, suc, arith}
use Rattle.run_types.specs.declared.frames.Frame.{Frame}
use Rattle.node_heap.specs.Heaps.{top_at}
use Rattle.node_heap.specs.Layout.{frame_of}
use Rattle.node_heap.proofs.HeapAbstraction.{in_queues, top_is, top_put, top_kept}
use Rattle.node_heap.proofs.heap.Heap.advance.Goals as goal

pub get_mut-frame-requires : goal.get_mut-frame-requires
get_mut-frame-requires c = in_queues c.self.inside c.self.invariant c.args.self.now c.self.view_is c.args.slot c.requires.slot

pub advance-requires : goal.advance-requires
advance-requires c =
    let old = c.get_mut-frame.result.now in
    let there : (top_at c.args.self.now c.args.slot).at ≡ old.at = ap (λ (f : Frame). f.at) (top_is c.self.inside c.self.invariant c.args.self.now c.self.view_is c.args.slot c.requires.slot old c.get_mut-frame.ensures.value) in
    omega (arith, there, c.requires.place)

pub invariant_of-self : goal.invariant_of-self
invariant_of-self c =
    let old = c.get_mut-frame.result.now in
    top_kept c.self.inside c.self.invariant c.args.self.now c.self.view_is c.args.slot c.requires.slot c.advance.new.self

pub returns : goal.returns
returns c =
    let old = c.get_mut-frame.result.now in
    top_put c.self.inside c.self.invariant c.args.self.now c.self.view_is c.args.slot c.requires.slot old c.advance.new.self
    (λ (f : Frame). record f { at = suc f.at }) c.get_mut-frame.ensures.value
    (ap frame_of c.advance.ensures)
