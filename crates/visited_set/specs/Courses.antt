-- What a search keeps of a label, and which labels it follows, for each kind of search.
use Rattle.std.specs.Prelude.{List, [], ◌∷◌, Bool, true, ◌&&◌}
use Rattle.run_types.specs.declared.types.Label.{Label}
use Rattle.search_laws.specs.Tried.{Course, states_only, with_writes}
use Rattle.visited_set.specs.declared.keeps.Keeps.{Keeps}
use Rattle.visited_set.specs.declared.keeps.Keeps.TheVariants as K

abbrev pub course_of : Keeps → Course
course_of K.States = states_only
course_of K.Writes = with_writes

-- each of these labels is followed
abbrev pub all_followed : Course → List Label → Bool
all_followed k [] = true
all_followed k (l ∷ ls) = k.follows l && all_followed k ls
