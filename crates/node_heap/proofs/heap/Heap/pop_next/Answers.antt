use Rattle.std.proofs.Common.{sym, ap, ◌∙◌, ◌≡◌, suc, length, arith}
use Rattle.run_types.specs.declared.frames.Frame.{Frame}
use Rattle.run_types.specs.Operands.{top, below}
use Rattle.node_heap.specs.Heaps.{top_at}
use Rattle.node_heap.specs.Layout.{frame_of}
use Rattle.node_heap.proofs.HeapAbstraction.{in_queues, top_is, top_put, top_kept}
use Rattle.node_heap.proofs.heap.Heap.pop_next.Goals as goal

pub get_mut-frame-requires : goal.get_mut-frame-requires
get_mut-frame-requires c = in_queues c.self.inside c.self.invariant c.args.self.now c.self.view_is c.args.slot c.requires.slot

pub pop_next-requires-clause-place : goal.pop_next-requires-clause-place
pop_next-requires-clause-place c =
    let old = c.get_mut-frame.result.now in
    let there : (top_at c.args.self.now c.args.slot).at ≡ old.at = ap (λ (f : Frame). f.at) (top_is c.self.inside c.self.invariant c.args.self.now c.self.view_is c.args.slot c.requires.slot old c.get_mut-frame.ensures.value) in
    omega (arith, there, c.requires.place)

pub pop_next-requires-clause-one : goal.pop_next-requires-clause-one
pop_next-requires-clause-one c =
    let old = c.get_mut-frame.result.now in
    let long : length (top_at c.args.self.now c.args.slot).operands ≡ length old.operands =
    ap (λ (f : Frame). length f.operands) (top_is c.self.inside c.self.invariant c.args.self.now c.self.view_is c.args.slot c.requires.slot old c.get_mut-frame.ensures.value)
    in
    omega (arith, long, c.requires.one)

pub invariant_of-self : goal.invariant_of-self
invariant_of-self c =
    let old = c.get_mut-frame.result.now in
    top_kept c.self.inside c.self.invariant c.args.self.now c.self.view_is c.args.slot c.requires.slot c.pop_next.new.self

pub returns-clause-value : goal.returns-clause-value
returns-clause-value c =
    c.pop_next.ensures.value
    ∙ sym (ap (λ (f : Frame). top f.operands) (top_is c.self.inside c.self.invariant c.args.self.now c.self.view_is c.args.slot c.requires.slot c.get_mut-frame.result.now c.get_mut-frame.ensures.value))

pub returns-clause-rest : goal.returns-clause-rest
returns-clause-rest c =
    let old = c.get_mut-frame.result.now in
    top_put c.self.inside c.self.invariant c.args.self.now c.self.view_is c.args.slot c.requires.slot old c.pop_next.new.self
    (λ (f : Frame). record f { at = suc f.at; operands = below f.operands }) c.get_mut-frame.ensures.value
    (ap frame_of c.pop_next.ensures.rest)
