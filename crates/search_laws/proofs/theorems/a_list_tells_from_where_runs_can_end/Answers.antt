use Rattle.search_laws.proofs.CanEnd.{all_can_end, never_ends}
use Rattle.search_laws.proofs.Known.{known_reached}
use Rattle.search_laws.proofs.theorems.a_list_tells_from_where_runs_can_end.Goals as goal

pub returns-clause-can : goal.returns-clause-can
returns-clause-can c = λ p es d less whole can reached. all_can_end p es less whole can d reached

pub returns-clause-never : goal.returns-clause-never
returns-clause-never c = λ p es n s less closed none i reached. never_ends p es less closed none n s i (known_reached p less n s reached)
