use Rattle.std.proofs.Common.{sym, ap, ◌∙◌, arith}
use Rattle.run_types.specs.declared.frames.CodeObject.{CodeObject}
use Rattle.node_heap.specs.declared.cells.Slot.{Slot}
use Rattle.node_heap.proofs.HeapAbstraction.{in_slots, object_at_is}
use Rattle.node_heap.proofs.heap.Heap.class_of.Goals as goal

pub index-requires : goal.index-requires
index-requires c =
    let h = c.self.inside in
    omega (arith, in_slots h c.self.invariant c.args.self.now c.self.view_is c.args.slot c.requires, h.slots.ok.0)

pub returns : goal.returns
returns c =
    let s = c.index.result.now in
    ap (λ (t : Slot). t.class) c.index.ensures
    ∙ sym (ap (λ (x : CodeObject). x.class) (object_at_is c.self.inside c.self.invariant c.args.self.now c.self.view_is c.args.slot c.requires s))
