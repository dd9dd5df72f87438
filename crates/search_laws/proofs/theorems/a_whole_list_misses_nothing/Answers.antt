use Rattle.search_laws.proofs.Dead.{never_dead}
use Rattle.search_laws.proofs.SearchCompleteness.{never_stuck, never_unfinished, never_faulty}
use Rattle.search_laws.proofs.theorems.a_whole_list_misses_nothing.Goals as goal

pub returns-clause-stuck : goal.returns-clause-stuck
returns-clause-stuck c = λ p es d less whole none reached. never_stuck p es less whole none d reached

pub returns-clause-unfinished : goal.returns-clause-unfinished
returns-clause-unfinished c = λ p es d less whole none reached. never_unfinished p es less whole none d reached

pub returns-clause-faulty : goal.returns-clause-faulty
returns-clause-faulty c = λ p es d less whole none reached. never_faulty p es less whole none d reached

pub returns-clause-dead : goal.returns-clause-dead
returns-clause-dead c = λ p es d less whole none reached. never_dead p es less whole none d reached
