use Rattle.adequacy.proofs.QuietEnd.{ends_there}
use Rattle.adequacy.proofs.records.a_record_by_cases.Goals as goal

pub returns-clause-quiet : goal.returns-clause-quiet
returns-clause-quiet s c = λ g l q done e d es h. ends_there g l q done e d es h
