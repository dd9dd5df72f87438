use Rattle.patterns.specs.Patterns.{Pattern}
use Rattle.search_laws.specs.PatternMonitors.{left_of}
use Rattle.search_laws.proofs.TriedWatched.{whole_watched_by_trying}
use Rattle.search_laws.proofs.theorems.a_tried_list_with_a_pattern_is_whole.Goals as goal

pub returns : goal.returns
returns c = λ p r es less all. whole_watched_by_trying Pattern p (left_of r) es less all
