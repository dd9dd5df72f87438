use Rattle.search_laws.proofs.NextName.{at_end_by_next}
use Rattle.search_laws.proofs.theorems.one_name_shows_the_end.Goals as goal

pub returns : goal.returns
returns c = at_end_by_next
