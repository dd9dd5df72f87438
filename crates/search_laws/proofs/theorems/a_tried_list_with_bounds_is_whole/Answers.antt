use Rattle.search_laws.proofs.TriedBounded.{whole_bounded_by_trying}
use Rattle.search_laws.proofs.theorems.a_tried_list_with_bounds_is_whole.Goals as goal

pub returns : goal.returns
returns c = λ p cost es k v less all. whole_bounded_by_trying p cost es less k v all
