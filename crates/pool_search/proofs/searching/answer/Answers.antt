use Rattle.std.proofs.Common.{subst, sym, length}
use Rattle.pool_syntax.specs.Terms.{ProgramTree}
use Rattle.search_laws.specs.Tried.{states_only}
use Rattle.pool_search.specs.Entries.{IsPassedOver, entries}
use Rattle.pool_search.specs.Progress.{IsSearchedTo}
use Rattle.pool_search.proofs.searching.answer.Goals as goal

pub whole_answer-requires-clause-whole : goal.whole_answer-requires-clause-whole
whole_answer-requires-clause-whole g c =
    let q = c.args.question.now in
    let es = entries c.look.new.self in
    subst (λ (r : ProgramTree). IsSearchedTo r states_only (IsPassedOver r q) es (length es)) (sym c.look.ensures.program) (c.in_ok-look.ensures.whole (cc))
