use Rattle.std.proofs.Common.{rules, Some, None}
use Rattle.std.proofs.lemmas.Option.{slice_get_within}
use Rattle.cell_pool.specs.Lists.{list_of}
use Rattle.cell_pool.proofs.Laws.{least_by_function}
use Rattle.slot_queues.specs.Lanes.{shared}
use Rattle.slot_queues.specs.Waiting.{named_stamp}
use Rattle.slot_queues.proofs.Waiting.{none_waits, earliest_waits}
use Rattle.slot_queues.proofs.lanes.Lanes.earliest_waiting.Goals as goal

pub get-requires : goal.get-requires
get-requires c =
    let f = c.in-Some.ensures in (c.requires.slot, slice_get_within (list_of c.args.self.now.waiting c.args.to) c.in-Some.place f.0 f.1)

pub returns-in-Some : goal.returns-in-Some
returns-in-Some c =
    let l = c.args.self.now in
    earliest_waits (shared l.cells) l.pool.lists l.waiting c.requires.listed c.requires.chains c.args.to c.args.names.now (c.in-Some.place, c.in-Some.stamp)
    (least_by_function (named_stamp l.pool.lists (shared l.cells) c.args.to c.args.names.now) (list_of l.waiting c.args.to) (Some (c.in-Some.place, c.in-Some.stamp)) c.in-Some.ensures (λ q o told. search rules)) c.get.result.now c.get.ensures

pub returns-in-None : goal.returns-in-None
returns-in-None c =
    let l = c.args.self.now in
    none_waits (shared l.cells) l.pool.lists l.waiting c.requires.listed c.requires.chains c.args.to c.args.names.now
    (least_by_function (named_stamp l.pool.lists (shared l.cells) c.args.to c.args.names.now) (list_of l.waiting c.args.to) None c.in-None.ensures (λ q o told. search rules))
