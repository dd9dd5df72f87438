use Rattle.std.proofs.Common.{sym, ap, ◌∙◌, ◌≡◌, length, arith}
use Rattle.run_types.specs.declared.frames.Frame.{Frame}
use Rattle.run_types.specs.Operands.{top, below}
use Rattle.node_heap.specs.Heaps.{top_at}
use Rattle.node_heap.specs.Layout.{frame_of}
use Rattle.node_heap.proofs.HeapAbstraction.{in_queues, top_is, top_put, top_kept}
use Rattle.node_heap.proofs.heap.Heap.pop.Goals as goal

pub get_mut-frame-requires : goal.get_mut-frame-requires
get_mut-frame-requires c = in_queues c.self.inside c.self.invariant c.args.self.now c.self.view_is c.args.slot c.requires.slot

pub pop-requires : goal.pop-requires
pop-requires c =
    let old = c.get_mut-frame.result.now in
    let long : length (top_at c.args.self.now c.args.slot).operands ≡ length old.operands =
    ap (λ (f : Frame). length f.operands) (top_is c.self.inside c.self.invariant c.args.self.now c.self.view_is c.args.slot c.requires.slot old c.get_mut-frame.ensures.value)
    in
    omega (arith, long, c.requires.one)

pub invariant_of-self : goal.invariant_of-self
invariant_of-self c =
    let old = c.get_mut-frame.result.now in
    top_kept c.self.inside c.self.invariant c.args.self.now c.self.view_is c.args.slot c.requires.slot (record old { operands = c.pop.new.self })

pub returns-clause-value : goal.returns-clause-value
returns-clause-value c =
    c.pop.ensures.value
    ∙ sym (ap (λ (f : Frame). top f.operands) (top_is c.self.inside c.self.invariant c.args.self.now c.self.view_is c.args.slot c.requires.slot c.get_mut-frame.result.now c.get_mut-frame.ensures.value))

pub returns-clause-rest : goal.returns-clause-rest
returns-clause-rest c =
    let old = c.get_mut-frame.result.now in
    top_put c.self.inside c.self.invariant c.args.self.now c.self.view_is c.args.slot c.requires.slot old (record old { operands = c.pop.new.self })
    (λ (f : Frame). record f { operands = below f.operands }) c.get_mut-frame.ensures.value
    (ap (λ o. frame_of (record old { operands = o })) c.pop.ensures.rest)
