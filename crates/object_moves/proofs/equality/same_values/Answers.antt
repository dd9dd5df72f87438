use Rattle.std.proofs.Common.{◌≡◌, sym, ◌∙◌, arith}
use Rattle.std.proofs.lemmas.Grind.{common_steps}
use Rattle.run_types.specs.Same.{are_same}
use Rattle.run_types.proofs.Laws.{same_values}
use Rattle.object_moves.proofs.equality.same_values.Goals as goal

pub returns-clause-same : goal.returns-clause-same
returns-clause-same c = λ h.
    let is : c.is_empty.result ≡ are_same c.args.left.now c.args.right.now = grind (arith, common_steps) in
    same_values c.args.left.now c.args.right.now (sym is ∙ h)
