use Rattle.std.proofs.Common.{sym, ◌∙◌, ap, ◌≡◌, ◌<◌, ◌∷◌, length, arith, length-set}
use Rattle.node_heap.proofs.Stacks.{pushed, length-stack}
use Rattle.node_heap.proofs.operands.Operands.push.Goals as goal

pub invariant_of-self : goal.invariant_of-self
invariant_of-self c =
    let s = c.self.inside in
    let count : s.count ≡ length c.args.self.now = sym (length-stack s.values s.count) ∙ ap length c.self.view_is in
    (omega (arith, c.requires), length-set s.values s.count c.args.value ∙ c.self.invariant.1)

pub returns : goal.returns
returns c =
    let s = c.self.inside in
    let count : s.count ≡ length c.args.self.now = sym (length-stack s.values s.count) ∙ ap length c.self.view_is in
    let room : s.count < 64 = omega (arith, c.requires) in
    pushed s.values s.count c.args.value room c.self.invariant.1
    ∙ ap (λ l. c.args.value ∷ l) c.self.view_is
