use Rattle.search_laws.proofs.OneObject.{transitions_are_moves, an_object_settles}
use Rattle.search_laws.proofs.theorems.transitions_are_moves_of_objects.Goals as goal

pub returns-clause-moves : goal.returns-clause-moves
returns-clause-moves c = transitions_are_moves

pub returns-clause-by_itself : goal.returns-clause-by_itself
returns-clause-by_itself c = an_object_settles
