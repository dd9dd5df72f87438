use Rattle.std.proofs.Common.{arith}
use Rattle.node_heap.proofs.HeapAbstraction.{in_values, var_put, var_kept}
use Rattle.node_heap.proofs.heap.Heap.store_var.Goals as goal

pub index_mut-requires : goal.index_mut-requires
index_mut-requires c =
    let h = c.self.inside in
    omega (arith, in_values h c.self.invariant c.args.self.now c.self.view_is c.args.slot c.requires.slot c.args.k c.requires.place, h.values.ok.0)

pub invariant_of-self : goal.invariant_of-self
invariant_of-self c =
    var_kept c.self.inside c.self.invariant c.args.self.now c.self.view_is c.args.slot c.requires.slot c.args.k c.requires.place c.args.value

pub returns : goal.returns
returns c =
    var_put c.self.inside c.self.invariant c.args.self.now c.self.view_is c.args.slot c.requires.slot c.args.k c.requires.place c.args.value
