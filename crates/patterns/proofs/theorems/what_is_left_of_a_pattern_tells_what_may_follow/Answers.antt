use Rattle.patterns.proofs.Derivatives.{after_alike, begins_none, begins_one, matches_whole, whole_is_nullable}
use Rattle.patterns.proofs.theorems.what_is_left_of_a_pattern_tells_what_may_follow.Goals as goal

pub returns-clause-begins : goal.returns-clause-begins
returns-clause-begins c = λ r w e. begins_one r w e

pub returns-clause-begins_none : goal.returns-clause-begins_none
returns-clause-begins_none c = λ r w e. begins_none r w e

pub returns-clause-whole : goal.returns-clause-whole
returns-clause-whole c = λ r w e. matches_whole r w e

pub returns-clause-not_whole : goal.returns-clause-not_whole
returns-clause-not_whole c = λ r w h. whole_is_nullable r w h

pub returns-clause-names : goal.returns-clause-names
returns-clause-names c = λ r i j e. after_alike r i j e
