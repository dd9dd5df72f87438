use Rattle.std.proofs.Common.{◌≡◌, sym, ap, ◌∙◌, length}
use Rattle.run_types.proofs.FirstUnusedPlace.{goes_in}
use Rattle.run_types.proofs.args.Args.add.Goals as goal

-- src/args.rt:41:5
pub invariant_of-self : goal.invariant_of-self
invariant_of-self c =
    let a = c.self.inside in
    let count : a.count ≡ length c.args.self.now = sym c.self.invariant.2 ∙ ap length c.self.view_is in
    goes_in a.values a.count c.args.value (rw count c.requires) c.self.invariant.1 c.self.invariant.2
