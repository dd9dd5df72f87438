use Rattle.std.proofs.Common.{[], get_or, set, refl, sym, ap, ◌∙◌}
use Rattle.cell_pool.specs.Lists.{Pool}
use Rattle.slot_queues.specs.declared.lanes.Stamped.{Stamped}
use Rattle.slot_queues.proofs.Waiting.{removed, without_first}
use Rattle.slot_queues.proofs.lanes.Lanes.pop.Goals as goal

pub unlist_empty-requires : goal.unlist_empty-requires
unlist_empty-requires c =
    let l = c.args.self.now in let q = c.args.queue in let e = c.pop_front.ensures in
    removed l _ q 0 c.in-Some.stamped c.requires.listed c.requires.queue c.requires.chain (sym e.value ∙ c.in-Some.is)
    (ap (λ (p : Pool Stamped). p.lists) e.lists ∙ ap (set l.pool.lists q) (without_first (get_or l.pool.lists q []))) refl refl
