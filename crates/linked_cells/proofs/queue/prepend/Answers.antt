use Rattle.std.proofs.Common.{◌+◌, ap, refl}
use Rattle.linked_cells.proofs.Links.{loose_place, prepend_after, prepended, prepended_cells}
use Rattle.linked_cells.proofs.queue.prepend.Goals as goal

pub write-requires : goal.write-requires
write-requires g c =
    let w = c.requires.1 in loose_place c.args.region.now.grid c.requires.0 c.args.region.now.slots c.args.queue.now c.args.place.ptr w.0 w.1 w.2

pub join_previous-requires : goal.join_previous-requires
join_previous-requires g c =
    let w = c.requires.1 in
    prepend_after c.args.region.now.grid c.requires.0 c.args.region.now.slots c.args.queue.now c.args.place.ptr w.0 w.1 w.2 c.args.value c.write.new.self.grid c.write.ensures.0 c.write.new.self.slots c.write.ensures.1

pub returns-clause-queue : goal.returns-clause-queue
returns-clause-queue g c xs n loose =
    let q2 = c.join_previous.new.queue in
    prepended c.args.region.now.grid c.requires.0 c.args.region.now.slots c.args.queue.now c.args.place.ptr xs n loose c.args.value c.write.new.self.grid c.write.ensures.0 c.write.new.self.slots
    c.join_previous.new.region.slots c.write.ensures.1 c.join_previous.ensures.slots (record q2 { first = c.args.place; len = q2.len + 1 }) refl c.join_previous.ensures.last (ap (λ k. k + 1) c.join_previous.ensures.rest.1)

pub returns-clause-cells : goal.returns-clause-cells
returns-clause-cells g c xs n loose =
    prepended_cells c.args.region.now.grid c.requires.0 c.args.region.now.slots c.args.queue.now c.args.place.ptr xs n loose c.args.value c.write.new.self.grid c.write.ensures.0 c.write.new.self.slots
    c.join_previous.new.region.slots c.write.ensures.1 c.join_previous.ensures.slots
