use Rattle.std.proofs.Common.{ap, ◌≡◌, arith}
use Rattle.node_heap.specs.Heaps.{HeapOf}
use Rattle.node_heap.proofs.HeapAbstraction.{count, few_objects}
use Rattle.node_heap.proofs.heap.Heap.objects.Goals as goal

pub overflow_cast-result : goal.overflow_cast-result
overflow_cast-result c =
    let h = c.self.inside in
    omega (arith, c.len.ensures, h.slots.ok.0, few_objects h c.self.invariant c.args.self.now c.self.view_is, c.self.invariant.objects)

pub returns-clause-count : goal.returns-clause-count
returns-clause-count c =
    let h = c.self.inside in
    omega (arith, c.len.ensures, h.slots.ok.0, count h c.self.invariant c.args.self.now c.self.view_is)

pub returns-clause-within : goal.returns-clause-within
returns-clause-within c =
    let h = c.self.inside in
    let most : h.limits.objects ≡ c.args.self.now.most_objects = ap (λ (x : HeapOf). x.most_objects) c.self.view_is in
    (omega (arith, c.len.ensures, h.slots.ok.0, few_objects h c.self.invariant c.args.self.now c.self.view_is), omega (arith, c.self.invariant.objects))
