use Rattle.adequacy.proofs.OneFault.{one_fault, no_fault}
use Rattle.adequacy.proofs.judgements.a_text_has_one_fault.Goals as goal

pub returns-clause-one : goal.returns-clause-one
returns-clause-one c = one_fault c.front_begins.ensures c.a_text_has_one_program.ensures

pub returns-clause-none : goal.returns-clause-none
returns-clause-none c = no_fault c.front_begins.ensures c.a_text_has_one_program.ensures
