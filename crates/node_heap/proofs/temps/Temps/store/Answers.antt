use Rattle.std.proofs.Common.{sym, ◌∙◌, ap, ◌≡◌, length, set, arith, length-set}
use Rattle.std.proofs.Math.Seq.{take-set-lt}
use Rattle.node_heap.proofs.ArrayPrefix.{length-first}
use Rattle.node_heap.proofs.temps.Temps.store.Goals as goal

pub invariant_of-self : goal.invariant_of-self
invariant_of-self c = (c.self.invariant.0, length-set c.self.inside.values c.args.k c.args.value ∙ c.self.invariant.1)

pub returns : goal.returns
returns c =
    let t = c.self.inside in
    let count : t.count ≡ length c.args.self.now = sym (length-first t.values t.count c.self.invariant.0 c.self.invariant.1) ∙ ap length c.self.view_is in
    take-set-lt t.count t.values c.args.k c.args.value (omega (arith, c.requires))
    ∙ ap (λ l. set l c.args.k c.args.value) c.self.view_is
