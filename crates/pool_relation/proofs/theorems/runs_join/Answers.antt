use Rattle.pool_relation.proofs.Runs.{joined, none_joined}
use Rattle.pool_relation.proofs.theorems.runs_join.Goals as goal

pub returns-clause-joined : goal.returns-clause-joined
returns-clause-joined c = joined

pub returns-clause-none : goal.returns-clause-none
returns-clause-none c = none_joined
