use Rattle.std.proofs.Common.{ap, ◌≡◌, ◌∷◌, suc, length, arith}
use Rattle.run_types.specs.declared.frames.Frame.{Frame}
use Rattle.node_heap.specs.Heaps.{top_at}
use Rattle.node_heap.specs.Layout.{frame_of}
use Rattle.node_heap.proofs.HeapAbstraction.{in_queues, top_is, top_put, top_kept}
use Rattle.node_heap.proofs.heap.Heap.push_next.Goals as goal

pub get_mut-frame-requires : goal.get_mut-frame-requires
get_mut-frame-requires c = in_queues c.self.inside c.self.invariant c.args.self.now c.self.view_is c.args.slot c.requires.slot

pub push_next-requires-clause-place : goal.push_next-requires-clause-place
push_next-requires-clause-place c =
    let old = c.get_mut-frame.result.now in
    let there : (top_at c.args.self.now c.args.slot).at ≡ old.at = ap (λ (f : Frame). f.at) (top_is c.self.inside c.self.invariant c.args.self.now c.self.view_is c.args.slot c.requires.slot old c.get_mut-frame.ensures.value) in
    omega (arith, there, c.requires.place)

pub push_next-requires-clause-room : goal.push_next-requires-clause-room
push_next-requires-clause-room c =
    let old = c.get_mut-frame.result.now in
    let long : length (top_at c.args.self.now c.args.slot).operands ≡ length old.operands =
    ap (λ (f : Frame). length f.operands) (top_is c.self.inside c.self.invariant c.args.self.now c.self.view_is c.args.slot c.requires.slot old c.get_mut-frame.ensures.value)
    in
    omega (arith, long, c.requires.room)

pub invariant_of-self : goal.invariant_of-self
invariant_of-self c =
    let old = c.get_mut-frame.result.now in
    top_kept c.self.inside c.self.invariant c.args.self.now c.self.view_is c.args.slot c.requires.slot c.push_next.new.self

pub returns : goal.returns
returns c =
    let old = c.get_mut-frame.result.now in
    top_put c.self.inside c.self.invariant c.args.self.now c.self.view_is c.args.slot c.requires.slot old c.push_next.new.self
    (λ (f : Frame). record f { at = suc f.at; operands = c.args.value ∷ f.operands }) c.get_mut-frame.ensures.value
    (ap frame_of c.push_next.ensures)
