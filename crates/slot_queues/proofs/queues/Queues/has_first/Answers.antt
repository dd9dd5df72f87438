use Rattle.std.proofs.Common.{sym, ◌∙◌}
use Rattle.slot_queues.specs.Lanes.{shared}
use Rattle.slot_queues.proofs.Views.{slot_below, queue_below, has_shared, has_late, has_none}
use Rattle.slot_queues.proofs.queues.Queues.has_first.Goals as goal

pub earliest-requires-clause-slot : goal.earliest-requires-clause-slot
earliest-requires-clause-slot c =
    let o = c.self.inside in let l = o.lanes in let k = c.self.invariant.1 in queue_below l.pool.lists l.cells l.next o.objects l.pool.cells c.args.to c.args.self.now k c.self.view_is c.requires

pub returns-then-is_some : goal.returns-then-is_some
returns-then-is_some c =
    let o = c.self.inside in let l = o.lanes in let k = c.self.invariant.1 in let slot = slot_below l.pool.lists (shared l.cells) o.objects l.pool.cells c.args.to c.args.self.now c.self.view_is c.requires in
    has_shared l o.objects c.args.to k slot c.args.names.now c.args.self.now c.self.view_is c.earliest.result c.earliest.ensures (sym c.is_some.ensures ∙ c.if-is_some.true)

pub late_place-requires : goal.late_place-requires
late_place-requires c =
    let o = c.self.inside in let l = o.lanes in let k = c.self.invariant.1 in queue_below l.pool.lists l.cells l.next o.objects l.pool.cells c.args.to c.args.self.now k c.self.view_is c.requires

pub returns : goal.returns
returns c =
    let o = c.self.inside in let l = o.lanes in let k = c.self.invariant.1 in let slot = slot_below l.pool.lists (shared l.cells) o.objects l.pool.cells c.args.to c.args.self.now c.self.view_is c.requires in
    let none = has_none l o.objects c.args.to k slot c.args.names.now c.earliest.result c.earliest.ensures (sym c.is_some.ensures ∙ c.if-is_some.false) in
    c.is_some-2.ensures
    ∙ has_late l o.objects c.args.to k slot c.args.names.now none c.args.self.now c.self.view_is c.late_place.result c.late_place.ensures
