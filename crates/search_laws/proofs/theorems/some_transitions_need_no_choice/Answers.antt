use Rattle.search_laws.proofs.ChoiceFreeRuns.{never_stuck_after_settling, never_unfinished_after_settling}
use Rattle.search_laws.proofs.KeptOnTheWay.{never_faulty_after_settling, never_dead_after_settling}
use Rattle.search_laws.proofs.theorems.some_transitions_need_no_choice.Goals as goal

pub returns-clause-stuck : goal.returns-clause-stuck
returns-clause-stuck c = λ p es d less whole none reached. never_stuck_after_settling p es less whole none d reached

pub returns-clause-unfinished : goal.returns-clause-unfinished
returns-clause-unfinished c = λ p es d less whole none reached. never_unfinished_after_settling p es less whole none d reached

pub returns-clause-faulty : goal.returns-clause-faulty
returns-clause-faulty c = λ p es d less whole none reached. never_faulty_after_settling p es less whole none d reached

pub returns-clause-dead : goal.returns-clause-dead
returns-clause-dead c = λ p es d less whole none reached. never_dead_after_settling p es less whole none d reached
