use Rattle.std.proofs.Common.{sym, ◌∙◌, ap, ◌≡◌, ◌≤◌, length, arith}
use Rattle.run_types.specs.Operands.{nth}
use Rattle.node_heap.proofs.ArrayPrefix.{loaded, length-first}
use Rattle.node_heap.proofs.temps.Temps.load.Goals as goal

pub returns : goal.returns
returns c =
    let t = c.self.inside in
    let count : t.count ≡ length c.args.self.now = sym (length-first t.values t.count c.self.invariant.0 c.self.invariant.1) ∙ ap length c.self.view_is in
    let few : t.count ≤ 32 = c.self.invariant.0 in
    loaded t.values t.count c.args.k _ (omega (arith, c.requires)) (omega (arith, c.requires, c.self.invariant.1))
    ∙ ap (λ l. nth l c.args.k) c.self.view_is
