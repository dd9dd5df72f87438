use Rattle.std.proofs.Common.{sym, ap, ◌∙◌, ◌≡◌, length, arith}
use Rattle.run_types.specs.declared.frames.Frame.{Frame}
use Rattle.run_types.specs.Operands.{nth}
use Rattle.node_heap.specs.Heaps.{top_at}
use Rattle.node_heap.proofs.HeapAbstraction.{in_queues, top_is}
use Rattle.node_heap.proofs.heap.Heap.load_temp.Goals as goal

pub get-requires : goal.get-requires
get-requires c = in_queues c.self.inside c.self.invariant c.args.self.now c.self.view_is c.args.slot c.requires.slot

pub load-requires : goal.load-requires
load-requires c =
    let long : length (top_at c.args.self.now c.args.slot).temps ≡ length c.get.result.now.temps =
    ap (λ (f : Frame). length f.temps) (top_is c.self.inside c.self.invariant c.args.self.now c.self.view_is c.args.slot c.requires.slot c.get.result.now c.get.ensures)
    in
    omega (arith, long, c.requires.place)

pub returns : goal.returns
returns c =
    c.load.ensures
    ∙ sym (ap (λ (f : Frame). nth f.temps c.args.k) (top_is c.self.inside c.self.invariant c.args.self.now c.self.view_is c.args.slot c.requires.slot c.get.result.now c.get.ensures))
