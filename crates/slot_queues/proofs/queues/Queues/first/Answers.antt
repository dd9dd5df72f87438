use Rattle.std.proofs.Common.{◌≡◌, ◌+◌, ◌<◌, ◌^◌, List, position, Some, None, subst, arith}
use Rattle.run_types.specs.declared.types.NameId.{NameId}
use Rattle.slot_queues.specs.declared.Message.{Message}
use Rattle.slot_queues.specs.Lanes.{shared}
use Rattle.slot_queues.specs.Mail.{box_of, is_named}
use Rattle.slot_queues.proofs.Views.{slot_below, queue_below, first_shared, first_late, first_none, place_fits}
use Rattle.slot_queues.proofs.queues.Queues.first.Goals as goal

pub earliest-requires-clause-slot : goal.earliest-requires-clause-slot
earliest-requires-clause-slot c =
    let o = c.self.inside in let l = o.lanes in let k = c.self.invariant.1 in queue_below l.pool.lists l.cells l.next o.objects l.pool.cells c.args.to c.args.self.now k c.self.view_is c.requires

pub late_place-requires : goal.late_place-requires
late_place-requires c =
    let o = c.self.inside in let l = o.lanes in let k = c.self.invariant.1 in queue_below l.pool.lists l.cells l.next o.objects l.pool.cells c.args.to c.args.self.now k c.self.view_is c.requires

pub overflow_add-result : goal.overflow_add-result
overflow_add-result c =
    let o = c.self.inside in let l = o.lanes in let k = c.self.invariant.1 in let slot = slot_below l.pool.lists (shared l.cells) o.objects l.pool.cells c.args.to c.args.self.now c.self.view_is c.requires in
    let below = place_fits l o.objects c.args.to k slot c.items-names.result.now c.in-None.ensures c.in-Some-late_place.place c.in-Some-late_place.ensures c.rank-in-Some-late_place.result c.rank-in-Some-late_place.ensures.is in
    let fits : c.rank-in-Some-late_place.result + c.in-Some-late_place.place < 2 ^ 64 = omega (arith, below, c.rank-in-Some-late_place.ensures.small) in record { fits = fits }

pub returns-in-Some : goal.returns-in-Some
returns-in-Some c =
    let o = c.self.inside in let l = o.lanes in let k = c.self.invariant.1 in let slot = slot_below l.pool.lists (shared l.cells) o.objects l.pool.cells c.args.to c.args.self.now c.self.view_is c.requires in
    subst (λ (z : List NameId). Some c.rank.result ≡ position (λ (m : Message). is_named z m.method) (box_of c.args.self.now c.args.to)) c.items-names.ensures
    (first_shared l o.objects c.args.to k slot c.items-names.result.now c.in-Some.found c.in-Some.ensures c.args.self.now c.self.view_is c.rank.result c.rank.ensures.is)

pub returns-in-Some-late_place : goal.returns-in-Some-late_place
returns-in-Some-late_place c =
    let o = c.self.inside in let l = o.lanes in let k = c.self.invariant.1 in let slot = slot_below l.pool.lists (shared l.cells) o.objects l.pool.cells c.args.to c.args.self.now c.self.view_is c.requires in
    subst (λ (z : List NameId). Some (c.rank-in-Some-late_place.result + c.in-Some-late_place.place) ≡ position (λ (m : Message). is_named z m.method) (box_of c.args.self.now c.args.to)) c.items-names.ensures
    (first_late l o.objects c.args.to k slot c.items-names.result.now c.in-None.ensures c.in-Some-late_place.place c.in-Some-late_place.ensures c.args.self.now c.self.view_is c.rank-in-Some-late_place.result c.rank-in-Some-late_place.ensures.is)

pub returns-in-None-late_place : goal.returns-in-None-late_place
returns-in-None-late_place c =
    let o = c.self.inside in let l = o.lanes in let k = c.self.invariant.1 in let slot = slot_below l.pool.lists (shared l.cells) o.objects l.pool.cells c.args.to c.args.self.now c.self.view_is c.requires in
    subst (λ (z : List NameId). None ≡ position (λ (m : Message). is_named z m.method) (box_of c.args.self.now c.args.to)) c.items-names.ensures
    (first_none l o.objects c.args.to k slot c.items-names.result.now c.in-None.ensures c.in-None-late_place.ensures c.args.self.now c.self.view_is)
