use Rattle.std.proofs.Common.{arith}
use Rattle.std.proofs.lemmas.Grind.{common_steps}
use Rattle.search_states.specs.Equal.{EqualPlace}
use Rattle.search_states.proofs.PairwiseLists.{as_many, pair_read}
use Rattle.search_states.proofs.contexts.same_places.Goals as goal

pub returns-then-left-right-clause-different : goal.returns-then-left-right-clause-different
returns-then-left-right-clause-different c = λ p.
    let l = as_many EqualPlace _ _ p in
    grind (arith, common_steps)

pub returns-then-not-same_place-clause-different : goal.returns-then-not-same_place-clause-different
returns-then-not-same_place-clause-different c = λ p.
    let s = c.same_place.ensures.different (pair_read EqualPlace _ _ c.loop-i.i _ _ (omega arith) c.index-left-i.is c.index-right-i.is p) in
    grind (arith, common_steps)
