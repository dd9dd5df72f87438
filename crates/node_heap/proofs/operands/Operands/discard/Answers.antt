use Rattle.std.proofs.Common.{sym, ◌∙◌, ap, ◌≡◌, length, arith}
use Rattle.run_types.specs.Operands.{dropped}
use Rattle.node_heap.proofs.Stacks.{dropped-stack, length-stack}
use Rattle.node_heap.proofs.operands.Operands.discard.Goals as goal

pub overflow_sub-self : goal.overflow_sub-self
overflow_sub-self c =
    let s = c.self.inside in
    let count : s.count ≡ length c.args.self.now = sym (length-stack s.values s.count) ∙ ap length c.self.view_is in
    omega (arith, count, c.requires)

pub returns : goal.returns
returns c =
    let s = c.self.inside in
    let count : s.count ≡ length c.args.self.now = sym (length-stack s.values s.count) ∙ ap length c.self.view_is in
    dropped-stack s.values s.count c.args.count (omega (arith, count, c.requires)) ∙ ap (dropped c.args.count) c.self.view_is
