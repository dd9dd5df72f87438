use Rattle.std.proofs.Common.{arith}
use Rattle.node_heap.proofs.HeapAbstraction.{used}
use Rattle.node_heap.proofs.heap.Heap.frames.Goals as goal

pub returns-clause-count : goal.returns-clause-count
returns-clause-count c =
    let h = c.self.inside in
    omega (arith, used h c.self.invariant c.args.self.now c.self.view_is, c.free.ensures.free, c.free.ensures.within, c.self.invariant.cells)
