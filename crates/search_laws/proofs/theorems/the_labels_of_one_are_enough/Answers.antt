use Rattle.search_laws.proofs.Enough.{who_is_awaited_is_enough}
use Rattle.search_laws.proofs.theorems.the_labels_of_one_are_enough.Goals as goal

pub returns : goal.returns
returns c = who_is_awaited_is_enough
