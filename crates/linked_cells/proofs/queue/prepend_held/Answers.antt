use Rattle.std.proofs.Common.{◌+◌, ap, refl, ◌∙◌}
use Rattle.linked_cells.specs.Slots.{index_of}
use Rattle.linked_cells.proofs.Links.{value_in, links_written, prepend_after, prepended, prepended_cells}
use Rattle.linked_cells.proofs.queue.prepend_held.Goals as goal

pub join_previous-requires : goal.join_previous-requires
join_previous-requires g c =
    let w = c.requires.loose.1 in let p = c.args.region.now in let q = c.args.queue.now in let at = c.args.place.ptr in let i = index_of p.grid at in
    let cell = c.requires.held.1.0 in
    prepend_after p.grid c.requires.loose.0 p.slots q at w.0 w.1 w.2 cell.value c.set_links.new.region.grid c.set_links.ensures.grid c.set_links.new.region.slots
    (c.set_links.ensures.slots ∙ links_written p.slots i at q.first.ptr cell.value (value_in p.slots i cell c.requires.held.1.1))

pub returns-clause-queue : goal.returns-clause-queue
returns-clause-queue g c xs n loose =
    let p = c.args.region.now in let q = c.args.queue.now in let at = c.args.place.ptr in let i = index_of p.grid at in
    let cell = c.requires.held.1.0 in let q2 = c.join_previous.new.queue in
    prepended p.grid c.requires.loose.0 p.slots q at xs n loose cell.value c.set_links.new.region.grid c.set_links.ensures.grid c.set_links.new.region.slots c.join_previous.new.region.slots
    (c.set_links.ensures.slots ∙ links_written p.slots i at q.first.ptr cell.value (value_in p.slots i cell c.requires.held.1.1))
    c.join_previous.ensures.slots (record q2 { first = c.args.place; len = q2.len + 1 }) refl c.join_previous.ensures.last (ap (λ k. k + 1) c.join_previous.ensures.rest.1)

pub returns-clause-cells : goal.returns-clause-cells
returns-clause-cells g c xs n v loose is =
    let p = c.args.region.now in let q = c.args.queue.now in let at = c.args.place.ptr in let i = index_of p.grid at in
    prepended_cells p.grid c.requires.loose.0 p.slots q at xs n loose v c.set_links.new.region.grid c.set_links.ensures.grid c.set_links.new.region.slots c.join_previous.new.region.slots
    (c.set_links.ensures.slots ∙ links_written p.slots i at q.first.ptr v is) c.join_previous.ensures.slots
