use Rattle.std.proofs.Common.{sym, ◌∙◌, ap, ◌≡◌, ◌-◌, ◌<◌, ◌≤◌, ◌∷◌, length, arith}
use Rattle.run_types.specs.Operands.{dropped}
use Rattle.node_heap.proofs.Stacks.{dropped-stack, pushed, length-stack}
use Rattle.node_heap.proofs.operands.Operands.replace.Goals as goal

pub overflow_sub-place : goal.overflow_sub-place
overflow_sub-place c =
    let s = c.self.inside in
    let count : s.count ≡ length c.args.self.now = sym (length-stack s.values s.count) ∙ ap length c.self.view_is in
    omega (arith, count, c.requires.enough)

pub returns : goal.returns
returns c =
    let s = c.self.inside in
    let n = c.args.count in
    let count : s.count ≡ length c.args.self.now = sym (length-stack s.values s.count) ∙ ap length c.self.view_is in
    let enough : n ≤ s.count = omega (arith, count, c.requires.enough) in
    let room : s.count - n < 64 = omega (arith, count, c.requires.room) in
    pushed s.values (s.count - n) c.args.value room c.self.invariant.1
    ∙ ap (λ l. c.args.value ∷ l) (dropped-stack s.values s.count n enough ∙ ap (dropped n) c.self.view_is)
