use Rattle.adequacy.proofs.RunPrefixes.{one, one_by_one, and_back}
use Rattle.pool_relation.specs.Transition.{run}
use Rattle.adequacy.proofs.ways.each_configuration_on_the_way_is_right.Goals as goal

pub returns-clause-one_by_one : goal.returns-clause-one_by_one
returns-clause-one_by_one c = λ p d z ls h. one_by_one p ls d z h

pub returns-clause-and_back : goal.returns-clause-and_back
returns-clause-and_back c = λ p d z ls front rest w e. and_back p front rest ls d z w e

pub returns-clause-determined : goal.returns-clause-determined
returns-clause-determined c = λ p d e z front rest goes to. one (run p d front) goes.between e goes.to to
