use Rattle.std.specs.Prelude.{ℕ}
use Rattle.search_laws.proofs.LeadsOn.{leads_on_to, states_are_those}
use Rattle.search_laws.proofs.Watching.{ends_are_watched, all_can_come, never_comes}
use Rattle.search_laws.proofs.Known.{known_reached}
use Rattle.search_laws.proofs.theorems.each_run_leads_on_to_the_list.Goals as goal

pub returns-clause-leads_on : goal.returns-clause-leads_on
returns-clause-leads_on c = λ p m es w d less ignores whole reached. leads_on_to ℕ p m es less ignores whole w d reached

pub returns-clause-states : goal.returns-clause-states
returns-clause-states c = λ p m es test w d less ignores whole all reached. states_are_those ℕ p m es test less ignores whole all w d reached

pub returns-clause-ends : goal.returns-clause-ends
returns-clause-ends c = λ p m es w d less ignores whole reached ended. ends_are_watched ℕ p m es less ignores whole w d reached ended

pub returns-clause-can : goal.returns-clause-can
returns-clause-can c = λ p m es wanted w d less ignores whole can reached. all_can_come ℕ p m wanted es less ignores whole can w d reached

pub returns-clause-never : goal.returns-clause-never
returns-clause-never c = λ p m es wanted n q c less ignores closed none i reached. never_comes ℕ p m wanted es less ignores closed none n q c i (known_reached p less n c reached)
