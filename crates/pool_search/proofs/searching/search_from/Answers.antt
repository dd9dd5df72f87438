use Rattle.std.proofs.Common.{ap, Ok}
use Rattle.search_laws.specs.Tried.{states_only}
use Rattle.pool_search.specs.Entries.{IsPassedOver, entries, searched}
use Rattle.pool_search.proofs.SearchComplete.{searched_begun}
use Rattle.pool_search.proofs.searching.search_from.Goals as goal

pub answer-requires-clause-begun : goal.answer-requires-clause-begun
answer-requires-clause-begun g c =
    let e = c.begin.new.explored in
    searched_begun (searched e) states_only (IsPassedOver (searched e) c.args.question.now) (entries e) (c.in-Ok-true.ensures.begun (ap Ok c.in-Ok-true.field-0-test))
