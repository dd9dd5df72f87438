use Rattle.std.proofs.Common.{remove, sym, subst, arith}
use Rattle.cell_pool.specs.Lists.{Pool, list_of}
use Rattle.slot_queues.specs.declared.lanes.Stamped.{Stamped}
use Rattle.slot_queues.specs.Lanes.{shared}
use Rattle.slot_queues.specs.Waiting.{IsListed}
use Rattle.slot_queues.proofs.Waiting.{listed_late}
use Rattle.slot_queues.proofs.lanes.Lanes.remove_late.Goals as goal

pub returns-clause-listed : goal.returns-clause-listed
returns-clause-listed c h =
    let l = c.args.self.now in let q = c.late-late.result in
    subst (λ (p : Pool Stamped). IsListed (shared l.cells) p.lists l.waiting) (sym c.remove.ensures.lists)
    (listed_late (shared l.cells) l.pool.lists l.waiting q (remove (list_of l.pool q) c.args.place) (omega (arith, c.late-late.ensures)) h)
