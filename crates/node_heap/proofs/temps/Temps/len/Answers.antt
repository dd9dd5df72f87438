use Rattle.std.proofs.Common.{sym, ◌∙◌, ap, length}
use Rattle.node_heap.proofs.ArrayPrefix.{length-first}
use Rattle.node_heap.proofs.temps.Temps.len.Goals as goal

pub returns : goal.returns
returns c =
    let t = c.self.inside in
    sym (length-first t.values t.count c.self.invariant.0 c.self.invariant.1) ∙ ap length c.self.view_is
