use Rattle.pool_relation.proofs.preservation.EachTransition.{typed_kept, run_kept}
use Rattle.pool_relation.proofs.theorems.typed_is_kept.Goals as goal

pub returns-clause-by_transition : goal.returns-clause-by_transition
returns-clause-by_transition c = typed_kept

pub returns-clause-by_run : goal.returns-clause-by_run
returns-clause-by_run c = run_kept
