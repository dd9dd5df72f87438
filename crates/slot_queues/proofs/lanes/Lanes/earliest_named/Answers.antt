use Rattle.std.proofs.Common.{◌+◌, take, sym, subst}
use Rattle.slot_queues.specs.Lanes.{shared, IsFound, Named}
use Rattle.slot_queues.proofs.Search.{named_more}
use Rattle.slot_queues.proofs.lanes.Lanes.earliest_named.Goals as goal

pub loop-name-preserved : goal.loop-name-preserved
loop-name-preserved c =
    let l = c.args.self.now in let names = c.args.names.now in let k = c.loop-name.name-index in
    subst (λ r. IsFound l.pool.lists (shared l.cells) (Named c.args.to (take (k + 1) names)) r) (sym c.better-best.ensures)
    (named_more l.pool.lists (shared l.cells) c.args.to names k _ c.loop-name.best c.near.result c.loop-name-test.true c.loop-name.invariant c.near.ensures)
