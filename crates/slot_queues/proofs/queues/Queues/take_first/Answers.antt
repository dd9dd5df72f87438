use Rattle.slot_queues.specs.Lanes.{shared}
use Rattle.slot_queues.proofs.Views.{slot_below, queue_below, pop_invariant, pop_taken, late_within, late_invariant, late_taken, not_taken}
use Rattle.slot_queues.proofs.queues.Queues.take_first.Goals as goal

pub earliest-requires-clause-slot : goal.earliest-requires-clause-slot
earliest-requires-clause-slot c =
    let o = c.self.inside in let l = o.lanes in let k = c.self.invariant.1 in queue_below l.pool.lists l.cells l.next o.objects l.pool.cells c.args.to c.args.self.now k c.self.view_is c.requires

pub pop-requires-clause-queue : goal.pop-requires-clause-queue
pop-requires-clause-queue c = let best = c.in-Some.ensures in best.within

pub pop-requires-clause-chain : goal.pop-requires-clause-chain
pop-requires-clause-chain c = let best = c.in-Some.ensures in c.self.invariant.1.chains c.in-Some.found.0 best.within

pub invariant_of-self : goal.invariant_of-self
invariant_of-self c =
    let o = c.self.inside in let l = o.lanes in let k = c.self.invariant.1 in let slot = slot_below l.pool.lists (shared l.cells) o.objects l.pool.cells c.args.to c.args.self.now c.self.view_is c.requires in
    let r = pop_invariant l o.objects c.args.to k slot c.args.names.now c.in-Some.found c.in-Some.ensures c.pop.new.self c.pop.ensures.lanes c.self.invariant.0.0 in
    ((r.0, c.pop.ensures.listed), r.1)

pub returns-in-Some : goal.returns-in-Some
returns-in-Some c =
    let o = c.self.inside in let l = o.lanes in let k = c.self.invariant.1 in let slot = slot_below l.pool.lists (shared l.cells) o.objects l.pool.cells c.args.to c.args.self.now c.self.view_is c.requires in
    pop_taken l o.objects c.args.to k slot c.args.names.now c.in-Some.found c.in-Some.ensures c.pop.new.self c.pop.ensures.lanes c.pop.result c.pop.ensures.message c.args.self.now c.self.view_is

pub late_place-requires : goal.late_place-requires
late_place-requires c =
    let o = c.self.inside in let l = o.lanes in let k = c.self.invariant.1 in queue_below l.pool.lists l.cells l.next o.objects l.pool.cells c.args.to c.args.self.now k c.self.view_is c.requires

pub remove_late-requires-clause-queue : goal.remove_late-requires-clause-queue
remove_late-requires-clause-queue c =
    let o = c.self.inside in let l = o.lanes in let k = c.self.invariant.1 in queue_below l.pool.lists l.cells l.next o.objects l.pool.cells c.args.to c.args.self.now k c.self.view_is c.requires

pub remove_late-requires-clause-place : goal.remove_late-requires-clause-place
remove_late-requires-clause-place c =
    let o = c.self.inside in let l = o.lanes in let k = c.self.invariant.1 in let slot = slot_below l.pool.lists (shared l.cells) o.objects l.pool.cells c.args.to c.args.self.now c.self.view_is c.requires in
    late_within l o.objects c.args.to k slot c.args.names.now c.in-None.ensures c.in-Some-late_place.place c.in-Some-late_place.ensures

pub invariant_of-self-in-Some-late_place : goal.invariant_of-self-in-Some-late_place
invariant_of-self-in-Some-late_place c =
    let o = c.self.inside in let l = o.lanes in let k = c.self.invariant.1 in let slot = slot_below l.pool.lists (shared l.cells) o.objects l.pool.cells c.args.to c.args.self.now c.self.view_is c.requires in
    let r = late_invariant l o.objects c.args.to k slot c.args.names.now c.in-None.ensures c.in-Some-late_place.place c.in-Some-late_place.ensures c.remove_late.new.self c.remove_late.ensures.lanes c.self.invariant.0.0 in
    ((r.0, c.remove_late.ensures.listed c.self.invariant.0.1), r.1)

pub returns-in-Some-late_place : goal.returns-in-Some-late_place
returns-in-Some-late_place c =
    let o = c.self.inside in let l = o.lanes in let k = c.self.invariant.1 in let slot = slot_below l.pool.lists (shared l.cells) o.objects l.pool.cells c.args.to c.args.self.now c.self.view_is c.requires in
    late_taken l o.objects c.args.to k slot c.args.names.now c.in-None.ensures c.in-Some-late_place.place c.in-Some-late_place.ensures c.remove_late.new.self c.remove_late.ensures.lanes c.remove_late.result c.remove_late.ensures.message c.args.self.now c.self.view_is

pub returns-in-None-late_place : goal.returns-in-None-late_place
returns-in-None-late_place c =
    let o = c.self.inside in let l = o.lanes in let k = c.self.invariant.1 in let slot = slot_below l.pool.lists (shared l.cells) o.objects l.pool.cells c.args.to c.args.self.now c.self.view_is c.requires in
    not_taken l o.objects c.args.to k slot c.args.names.now c.in-None.ensures c.in-None-late_place.ensures c.args.self.now c.self.view_is
