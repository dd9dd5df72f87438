use Rattle.pool_relation.proofs.Start.{start_typed, starts}
use Rattle.pool_relation.proofs.theorems.start_is_typed.Goals as goal

pub returns-clause-typed : goal.returns-clause-typed
returns-clause-typed c = λ p n d none written e. start_typed p none written n d e

pub returns-clause-starts : goal.returns-clause-starts
returns-clause-starts c = starts
