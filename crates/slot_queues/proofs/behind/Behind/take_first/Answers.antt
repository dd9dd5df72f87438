use Rattle.slot_queues.proofs.Counts.{counts_first}
use Rattle.slot_queues.proofs.behind.Behind.take_first.Goals as goal

pub invariant_of-self : goal.invariant_of-self
invariant_of-self c =
    let i = c.self.inside in let q = i.queues in counts_first i.counts.items q c.args.to c.index_mut.result.now c.self.invariant c.args.self.now c.self.view_is c.requires c.index_mut.ensures.value c.take_first.new.self c.args.names.now c.in-Some.message c.in-Some.ensures
