use Rattle.slot_queues.specs.Lanes.{shared}
use Rattle.slot_queues.proofs.Views.{slot_below, queue_below, posted_invariant, posted_view}
use Rattle.slot_queues.proofs.queues.Queues.post.Goals as goal

pub post-requires-clause-slot : goal.post-requires-clause-slot
post-requires-clause-slot c =
    let o = c.self.inside in let l = o.lanes in let k = c.self.invariant.1 in queue_below l.pool.lists l.cells l.next o.objects l.pool.cells c.args.to c.args.self.now k c.self.view_is c.requires

pub invariant_of-self : goal.invariant_of-self
invariant_of-self c =
    let o = c.self.inside in let l = o.lanes in let k = c.self.invariant.1 in let slot = slot_below l.pool.lists (shared l.cells) o.objects l.pool.cells c.args.to c.args.self.now c.self.view_is c.requires in
    let r = posted_invariant l c.post.new.self o.objects c.args.to c.args.message k slot c.post.result c.post.ensures.ok c.post.ensures.err c.self.invariant.0.0 in
    ((r.0, c.post.ensures.listed), r.1)

pub returns-clause-ok : goal.returns-clause-ok
returns-clause-ok c =
    let o = c.self.inside in let l = o.lanes in let k = c.self.invariant.1 in let slot = slot_below l.pool.lists (shared l.cells) o.objects l.pool.cells c.args.to c.args.self.now c.self.view_is c.requires in
    posted_view l c.post.new.self o.objects c.args.to c.args.message k slot c.post.result c.post.ensures.ok c.args.self.now c.self.view_is
