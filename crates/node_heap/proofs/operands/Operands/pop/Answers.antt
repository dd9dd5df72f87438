use Rattle.std.proofs.Common.{sym, ◌∙◌, ap, ◌≡◌, ◌≤◌, length, arith}
use Rattle.run_types.specs.Operands.{top, below}
use Rattle.node_heap.proofs.Stacks.{popped, last, length-stack}
use Rattle.node_heap.proofs.operands.Operands.pop.Goals as goal

pub returns-clause-value : goal.returns-clause-value
returns-clause-value c =
    let s = c.self.inside in
    let count : s.count ≡ length c.args.self.now = sym (length-stack s.values s.count) ∙ ap length c.self.view_is in
    let few : s.count ≤ 64 = c.self.invariant.0 in let long : length s.values ≡ 64 = c.self.invariant.1 in
    last s.values s.count _ (omega (arith, c.requires)) (omega arith) ∙ ap top c.self.view_is

pub returns-clause-rest : goal.returns-clause-rest
returns-clause-rest c =
    let s = c.self.inside in
    let count : s.count ≡ length c.args.self.now = sym (length-stack s.values s.count) ∙ ap length c.self.view_is in
    popped s.values s.count (omega (arith, c.requires)) ∙ ap below c.self.view_is
