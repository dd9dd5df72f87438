use Rattle.search_laws.proofs.Outcomes.{every_end_is_kept, nothing_else_is_written, nothing_else_whatever_the_names}
use Rattle.search_laws.proofs.Alike.{ends_alike}
use Rattle.search_laws.proofs.theorems.each_end_wrote_one_of_these.Goals as goal

pub returns-clause-kept : goal.returns-clause-kept
returns-clause-kept c = every_end_is_kept

pub returns-clause-alike : goal.returns-clause-alike
returns-clause-alike c = λ f p d x less same ended. ends_alike f p d x less same ended

pub returns-clause-nothing_else : goal.returns-clause-nothing_else
returns-clause-nothing_else c = nothing_else_is_written

pub returns-clause-whatever_the_names : goal.returns-clause-whatever_the_names
returns-clause-whatever_the_names c = nothing_else_whatever_the_names
