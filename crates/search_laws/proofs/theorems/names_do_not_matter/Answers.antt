use Rattle.search_laws.proofs.SearchCompleteness.{step_leads, step_none}
use Rattle.search_laws.proofs.theorems.names_do_not_matter.Goals as goal

pub returns-clause-leads : goal.returns-clause-leads
returns-clause-leads c = step_leads

pub returns-clause-none : goal.returns-clause-none
returns-clause-none c = step_none
