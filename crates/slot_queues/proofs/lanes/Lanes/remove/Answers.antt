use Rattle.std.proofs.Common.{refl, ap}
use Rattle.cell_pool.specs.Lists.{Pool}
use Rattle.slot_queues.specs.declared.lanes.Stamped.{Stamped}
use Rattle.slot_queues.proofs.Waiting.{removed}
use Rattle.slot_queues.proofs.lanes.Lanes.remove.Goals as goal

pub unlist_empty-requires : goal.unlist_empty-requires
unlist_empty-requires c =
    let l = c.args.self.now in let e = c.remove-stamped.ensures in
    removed l _ c.args.queue c.args.place c.remove-stamped.result c.requires.listed c.requires.queue c.requires.chain e.value (ap (λ (p : Pool Stamped). p.lists) e.lists) refl refl
