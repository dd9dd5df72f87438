use Rattle.std.proofs.Common.{◌≡◌, ◌++◌}
use Rattle.reachability.specs.Labels.{message_labels}
use Rattle.pool_semantics.specs.Mails.{posts}
use Rattle.pool_semantics.specs.Plains.{configuration}
use Rattle.pool_semantics.proofs.plain.Plain.labels.Given as goal

abbrev pub invariant-loop-pair : goal.invariant-loop-pair
invariant-loop-pair l = l.into.items ++ message_labels (posts l.pair-iterator) ≡ l.initial.into.items ++ message_labels (configuration l.self.state).messages
