use Rattle.search_laws.proofs.Bounded.{no_run_is_longer}
use Rattle.search_laws.proofs.Least.{no_end_is_cheaper}
use Rattle.search_laws.proofs.Endless.{long_runs}
use Rattle.search_laws.proofs.theorems.no_run_exceeds_the_bounds_of_its_list.Goals as goal

pub returns-clause-length : goal.returns-clause-length
returns-clause-length c = λ p cost es k v root c d ls less kinds whole starts leads. (no_run_is_longer p cost es k v less kinds whole root c d ls starts leads).0

pub returns-clause-cost : goal.returns-clause-cost
returns-clause-cost c = λ p cost es k v root c d ls less kinds whole starts leads. (no_run_is_longer p cost es k v less kinds whole root c d ls starts leads).1

pub returns-clause-least : goal.returns-clause-least
returns-clause-least c = λ p cost es v root c d ls less kinds whole starts leads ended. no_end_is_cheaper p cost es v less kinds whole root c d ls starts leads ended

pub returns-clause-endless : goal.returns-clause-endless
returns-clause-endless c = λ p front loop h. long_runs p front loop h
