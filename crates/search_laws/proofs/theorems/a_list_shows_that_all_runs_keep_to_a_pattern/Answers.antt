use Rattle.patterns.specs.Patterns.{Pattern}
use Rattle.search_laws.specs.PatternMonitors.{left_of}
use Rattle.search_laws.proofs.PatternMonitors.{ignores_names}
use Rattle.search_laws.proofs.Faultless.{never_faulty_watched}
use Rattle.search_laws.proofs.KeepsTo.{begins_by_list, ends_by_list, can_by_list}
use Rattle.search_laws.proofs.theorems.a_list_shows_that_all_runs_keep_to_a_pattern.Goals as goal

pub returns-clause-begins : goal.returns-clause-begins
returns-clause-begins c = λ p r es w d less whole all reached. begins_by_list p r es less whole all w d reached

pub returns-clause-ends : goal.returns-clause-ends
returns-clause-ends c = λ p r es w d less whole all reached ended. ends_by_list p r es less whole all w d reached ended

pub returns-clause-can : goal.returns-clause-can
returns-clause-can c = λ p r es w d less whole can reached. can_by_list p r es less whole can w d reached

pub returns-clause-no_error : goal.returns-clause-no_error
returns-clause-no_error c = λ p r es w d less whole none reached. never_faulty_watched Pattern p (left_of r) es less (ignores_names r) whole none w d reached
