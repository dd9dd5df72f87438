use Rattle.std.proofs.Common.{◌≡◌, ◌∙◌, sym, ap, ◌<◌, length, slice_index_or, arith}
use Rattle.std.proofs.lemmas.Grind.{common_steps}
use Rattle.pool_relation.specs.Reducible.{set_value}
use Rattle.stepper_terms.proofs.ContinuationChanges.{set_at}
use Rattle.stepper_terms.proofs.changes.set.Goals as goal

pub returns-then-index-name : goal.returns-then-index-name
returns-then-index-name c =
    let xs = c.loop-at.bindings.items in
    let lt : c.loop-at.at < length xs = grind (arith, common_steps) in
    let here : (slice_index_or xs c.loop-at.at c.index.result.now).0 ≡ c.args.name = grind (arith, common_steps) in
    sym (set_at xs c.loop-at.at c.args.name c.args.value c.index.result.now lt here)
    ∙ c.loop-at.invariant.1
    ∙ ap (λ l. set_value l c.args.name c.args.value) c.loop-at.invariant.0
