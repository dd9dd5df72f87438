use Rattle.search_laws.proofs.Laws.{nameless}
use Rattle.pool_search.specs.Entries.{entries, searched}
use Rattle.pool_search.proofs.WaiterLaws.{dead_by_waiters}
use Rattle.pool_search.proofs.explored.Explored.is_dead.Goals as goal

pub returns-clause-dead : goal.returns-clause-dead
returns-clause-dead c = λ i e there reached waits.
    let k = c.args.self.now in
    dead_by_waiters (searched k) (entries k) c.args.waiters.now.list.items c.args.object (nameless k.kept.moves.program.now) c.requires (c.stays.ensures.stays i) c.args.at e (c.has.ensures c.if-not-has.false) there reached
    waits
