use Rattle.std.proofs.Common.{ap}
use Rattle.mesh_semantics.specs.Record.{labels}
use Rattle.adequacy.proofs.QuietEnd.{ends_there}
use Rattle.adequacy.proofs.records.labels_are_those_of_transitions.Goals as goal

pub returns-clause-ended : goal.returns-clause-ended
returns-clause-ended s c = λ g l q done e d es h. ap (λ r. labels r.lines) (ends_there g l q done e d es h)
