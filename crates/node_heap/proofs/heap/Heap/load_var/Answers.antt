use Rattle.std.proofs.Common.{◌∙◌, arith}
use Rattle.node_heap.proofs.HeapAbstraction.{in_values, var_is}
use Rattle.node_heap.proofs.heap.Heap.load_var.Goals as goal

pub index-requires : goal.index-requires
index-requires c =
    let h = c.self.inside in
    omega (arith, in_values h c.self.invariant c.args.self.now c.self.view_is c.args.slot c.requires.slot c.args.k c.requires.place, h.values.ok.0)

pub returns : goal.returns
returns c =
    c.index.ensures
    ∙ var_is c.self.inside c.self.invariant c.args.self.now c.self.view_is c.args.slot c.requires.slot c.args.k c.requires.place c.index.result.now
