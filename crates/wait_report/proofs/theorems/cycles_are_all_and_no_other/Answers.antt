use Rattle.wait_report.proofs.EachCycle.{every_cycle, is_cycle}
use Rattle.wait_report.proofs.theorems.cycles_are_all_and_no_other.Goals as goal

pub returns-clause-all : goal.returns-clause-all
returns-clause-all c = λ rows ns z. every_cycle rows ns z

pub returns-clause-no_other : goal.returns-clause-no_other
returns-clause-no_other c = λ rows ns i. is_cycle rows ns i
