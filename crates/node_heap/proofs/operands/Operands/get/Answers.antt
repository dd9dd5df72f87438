use Rattle.std.proofs.Common.{sym, ◌∙◌, ap, ◌≡◌, ◌≤◌, length, arith}
use Rattle.run_types.specs.Operands.{nth}
use Rattle.node_heap.proofs.Stacks.{from_top, length-stack}
use Rattle.node_heap.proofs.operands.Operands.get.Goals as goal

pub overflow_sub-result-2 : goal.overflow_sub-result-2
overflow_sub-result-2 c =
    let s = c.self.inside in
    let count : s.count ≡ length c.args.self.now = sym (length-stack s.values s.count) ∙ ap length c.self.view_is in
    omega (arith, c.requires)

pub returns : goal.returns
returns c =
    let s = c.self.inside in
    let count : s.count ≡ length c.args.self.now = sym (length-stack s.values s.count) ∙ ap length c.self.view_is in
    let long : length s.values ≡ 64 = c.self.invariant.1 in
    let few : s.count ≤ 64 = c.self.invariant.0 in
    from_top s.values s.count c.args.from_top _ (omega (arith, c.requires)) (omega arith)
    ∙ ap (λ l. nth l c.args.from_top) c.self.view_is
