use Rattle.std.proofs.Common.{arith}
use Rattle.std.proofs.lemmas.Grind.{common_steps}
use Rattle.search_states.specs.Equal.{EqualSegment}
use Rattle.search_states.proofs.PairwiseLists.{as_many, pair_read}
use Rattle.search_states.proofs.contexts.same_rest.Goals as goal

pub returns-then-rest-other-clause-different : goal.returns-then-rest-other-clause-different
returns-then-rest-other-clause-different c = λ p.
    let l = as_many EqualSegment _ _ p in
    grind (arith, common_steps)

pub returns-then-not-same_segment-clause-different : goal.returns-then-not-same_segment-clause-different
returns-then-not-same_segment-clause-different c = λ p.
    let s = c.same_segment.ensures.different (pair_read EqualSegment _ _ c.loop-i.i _ _ (omega arith) c.index-rest-i.is c.index-other-i.is p) in
    grind (arith, common_steps)
