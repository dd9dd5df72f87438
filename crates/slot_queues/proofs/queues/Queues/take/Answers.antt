use Rattle.std.proofs.Common.{◌+◌, ◌<◌, ◌≤◌, [], get_or, sym, subst}
use Rattle.std.proofs.lemmas.Option.{slice_get_within}
use Rattle.slot_queues.specs.Lanes.{shared, joined, rank_in}
use Rattle.slot_queues.proofs.Indexed.{late_place_within, late_message, late_kept, late_boxes, shared_message, shared_kept, shared_boxes, stamp_there}
use Rattle.slot_queues.proofs.Views.{slot_below, queue_below}
use Rattle.slot_queues.proofs.queues.Queues.take.Goals as goal

pub remove_late-requires-clause-queue : goal.remove_late-requires-clause-queue
remove_late-requires-clause-queue c =
    let o = c.self.inside in let l = o.lanes in let k = c.self.invariant.1 in queue_below l.pool.lists l.cells l.next o.objects l.pool.cells c.args.to c.args.self.now k c.self.view_is c.requires.0

pub remove_late-requires-clause-place : goal.remove_late-requires-clause-place
remove_late-requires-clause-place c =
    let o = c.self.inside in let l = o.lanes in let k = c.self.invariant.1 in let slot = slot_below l.pool.lists (shared l.cells) o.objects l.pool.cells c.args.to c.args.self.now c.self.view_is c.requires.0 in
    late_place_within l o.objects c.args.to k slot c.args.self.now c.self.view_is c.args.place c.requires.1 c.rank-early.result c.rank-early.ensures.is c.if-early-place.true

pub invariant_of-self : goal.invariant_of-self
invariant_of-self c =
    let o = c.self.inside in let l = o.lanes in let k = c.self.invariant.1 in let slot = slot_below l.pool.lists (shared l.cells) o.objects l.pool.cells c.args.to c.args.self.now c.self.view_is c.requires.0 in
    let r = late_kept l o.objects c.args.to k slot c.args.self.now c.self.view_is c.args.place c.requires.1 c.rank-early.result c.rank-early.ensures.is c.if-early-place.true c.remove_late.new.self c.remove_late.ensures.lanes c.self.invariant.0.0 in
    ((r.0, c.remove_late.ensures.listed c.self.invariant.0.1), r.1)

pub returns-then-early-place-clause-message : goal.returns-then-early-place-clause-message
returns-then-early-place-clause-message c =
    let o = c.self.inside in let l = o.lanes in let k = c.self.invariant.1 in let slot = slot_below l.pool.lists (shared l.cells) o.objects l.pool.cells c.args.to c.args.self.now c.self.view_is c.requires.0 in
    late_message l o.objects c.args.to k slot c.args.self.now c.self.view_is c.args.place c.requires.1 c.rank-early.result c.rank-early.ensures.is c.if-early-place.true c.remove_late.result c.remove_late.ensures.message

pub returns-then-early-place-clause-boxes : goal.returns-then-early-place-clause-boxes
returns-then-early-place-clause-boxes c =
    let o = c.self.inside in let l = o.lanes in let k = c.self.invariant.1 in let slot = slot_below l.pool.lists (shared l.cells) o.objects l.pool.cells c.args.to c.args.self.now c.self.view_is c.requires.0 in
    late_boxes l o.objects c.args.to k slot c.args.self.now c.self.view_is c.args.place c.requires.1 c.rank-early.result c.rank-early.ensures.is c.if-early-place.true c.remove_late.new.self c.remove_late.ensures.lanes

pub remove-requires-clause-place : goal.remove-requires-clause-place
remove-requires-clause-place c =
    let f = c.in-Some.ensures in slice_get_within (get_or c.self.inside.lanes.pool.lists c.in-Some.found.0 []) c.in-Some.found.1 f.0 f.2

pub remove-requires-clause-chain : goal.remove-requires-clause-chain
remove-requires-clause-chain c = let f = c.in-Some.ensures in c.self.invariant.1.chains c.in-Some.found.0 f.1

pub invariant_of-self-in-Some : goal.invariant_of-self-in-Some
invariant_of-self-in-Some c =
    let o = c.self.inside in let l = o.lanes in let k = c.self.invariant.1 in let slot = slot_below l.pool.lists (shared l.cells) o.objects l.pool.cells c.args.to c.args.self.now c.self.view_is c.requires.0 in
    let all = joined (shared l.cells) l.pool.lists in let f = c.in-Some.ensures in
    let low = subst (λ t. rank_in c.args.to t all ≤ c.args.place) (sym f.3) c.stamp_at-stamp.ensures.low in let high = subst (λ t. c.args.place < rank_in c.args.to (t + 1) all) (sym f.3) c.stamp_at-stamp.ensures.high in
    let r = shared_kept l o.objects c.args.to k slot c.args.self.now c.self.view_is c.args.place c.requires.1 c.in-Some.found f.1 f.0 f.2 low high c.remove.new.self c.remove.ensures.lanes c.self.invariant.0.0 in
    ((r.0, c.remove.ensures.listed), r.1)

pub unreachable-requires : goal.unreachable-requires
unreachable-requires c =
    let l = c.self.inside.lanes in stamp_there c.args.to c.stamp_at-stamp.result c.args.place (joined (shared l.cells) l.pool.lists) c.in-None.ensures c.stamp_at-stamp.ensures.low c.stamp_at-stamp.ensures.high

pub returns-clause-message : goal.returns-clause-message
returns-clause-message c =
    let o = c.self.inside in let l = o.lanes in let k = c.self.invariant.1 in let slot = slot_below l.pool.lists (shared l.cells) o.objects l.pool.cells c.args.to c.args.self.now c.self.view_is c.requires.0 in
    let all = joined (shared l.cells) l.pool.lists in let f = c.in-Some.ensures in
    let low = subst (λ t. rank_in c.args.to t all ≤ c.args.place) (sym f.3) c.stamp_at-stamp.ensures.low in let high = subst (λ t. c.args.place < rank_in c.args.to (t + 1) all) (sym f.3) c.stamp_at-stamp.ensures.high in
    shared_message l o.objects c.args.to k slot c.args.self.now c.self.view_is c.args.place c.requires.1 c.in-Some.found f.1 f.0 f.2 low high c.remove.result c.remove.ensures.message

pub returns-clause-boxes : goal.returns-clause-boxes
returns-clause-boxes c =
    let o = c.self.inside in let l = o.lanes in let k = c.self.invariant.1 in let slot = slot_below l.pool.lists (shared l.cells) o.objects l.pool.cells c.args.to c.args.self.now c.self.view_is c.requires.0 in
    let all = joined (shared l.cells) l.pool.lists in let f = c.in-Some.ensures in
    let low = subst (λ t. rank_in c.args.to t all ≤ c.args.place) (sym f.3) c.stamp_at-stamp.ensures.low in let high = subst (λ t. c.args.place < rank_in c.args.to (t + 1) all) (sym f.3) c.stamp_at-stamp.ensures.high in
    shared_boxes l o.objects c.args.to k slot c.args.self.now c.self.view_is c.args.place c.requires.1 c.in-Some.found f.1 f.0 f.2 low high c.remove.new.self c.remove.ensures.lanes
