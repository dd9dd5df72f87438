use Rattle.std.proofs.Common.{arith}
use Rattle.std.proofs.lemmas.Grind.{common_steps}
use Rattle.search_states.specs.Equal.{EqualCall}
use Rattle.search_states.proofs.PairwiseLists.{as_many, pair_read}
use Rattle.search_states.proofs.calls.same_calls.Goals as goal

pub returns-then-left-right-clause-different : goal.returns-then-left-right-clause-different
returns-then-left-right-clause-different c = λ p.
    let l = as_many EqualCall _ _ p in
    grind (arith, common_steps)

pub returns-then-not-same_call-clause-different : goal.returns-then-not-same_call-clause-different
returns-then-not-same_call-clause-different c = λ p.
    let s = c.same_call.ensures.different (pair_read EqualCall c.args.left.now c.args.right.now _ c.index-left-i.result c.index-right-i.result (omega arith) c.index-left-i.is c.index-right-i.is p) in
    grind (arith, common_steps)
