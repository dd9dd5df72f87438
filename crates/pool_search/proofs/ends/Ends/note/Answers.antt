use Rattle.std.proofs.Common.{subst, sym}
use Rattle.pool_search.specs.FoundOutcomes.{HasOne}
use Rattle.pool_search.proofs.FoundLists.{has_last}
use Rattle.pool_search.proofs.ends.Ends.note.Goals as goal

pub returns-clause-has : goal.returns-clause-has
returns-clause-has c =
    subst (HasOne c.args.kind c.args.items.items) (sym c.in_ok-push-2.ensures.items) (has_last c.match-try_from.self.list.items c.args.kind c.args.items)
