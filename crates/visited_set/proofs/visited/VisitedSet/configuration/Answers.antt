use Rattle.std.proofs.Common.{ap, ◌∙◌}
use Rattle.object_moves.specs.Rows.{objects_from}
use Rattle.object_moves.specs.Tables.{known_states}
use Rattle.pool_semantics.specs.PlainOf.{configuration_of}
use Rattle.pool_semantics.specs.Plains.{configuration}
use Rattle.visited_set.specs.Rows.{stored_row}
use Rattle.visited_set.specs.VisitedConfigurations.{kept_lists}
use Rattle.visited_set.proofs.NumberingRoundTrip.{configuration_at}
use Rattle.visited_set.proofs.visited.VisitedSet.configuration.Goals as goal

pub returns-clause-configuration : goal.returns-clause-configuration
returns-clause-configuration c =
    let k = c.args.self.now in
    let made = ap configuration c.of.ensures.state in
    configuration_at (known_states k.moves) k.mails (kept_lists k) k.rows c.args.at (stored_row c.get-entry.result) (configuration_of c.of.result) c.get-entry.ensures
    (ap (λ d. d.objects) made ∙ c.in_ok-objects.ensures ∙ ap (objects_from 0 (known_states k.moves)) (c.as_slice.ensures.value ∙ c.in_ok-numbers.ensures)) (ap (λ d. d.messages) made ∙ c.in_ok-messages.ensures)
