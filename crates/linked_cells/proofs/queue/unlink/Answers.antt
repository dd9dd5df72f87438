use Rattle.std.proofs.Common.{◌-◌, ◌∷◌, cond, eqb, sym, ap, subst, ◌∙◌, arith, length-append}
use denote.RawPtr.{Ptr}
use Rattle.linked_cells.specs.Slots.{Grid, IsCell}
use Rattle.linked_cells.proofs.Links.{nth_cell, out_before, out_after, unlinked_queue, unlinked_same, unlinked_values}
use Rattle.linked_cells.proofs.queue.unlink.Goals as goal

pub get-cell-requires : goal.get-cell-requires
get-cell-requires g c =
    let w = c.requires.1 in nth_cell c.args.region.now.grid c.requires.0 c.args.region.now.slots c.args.queue.now c.args.index c.args.place.ptr w.0 w.1 w.2 w.3

pub join_next-requires : goal.join_next-requires
join_next-requires g c =
    let w = c.requires.1 in out_before c.args.region.now.grid c.requires.0 c.args.region.now.slots c.args.queue.now c.args.index c.args.place.ptr w.0 w.1 w.2 w.3 c.get-cell.result.now c.get-cell.ensures

pub join_previous-requires : goal.join_previous-requires
join_previous-requires g c =
    let w = c.requires.1 in let q = c.args.queue.now in let p = c.args.region.now.grid in let next = c.get-cell.result.now.next in
    λ lt. subst (λ (r : Grid). IsCell r c.join_next.new.region.slots next) (sym c.join_next.ensures.grid)
    (subst (λ s. IsCell p s next) (sym c.join_next.ensures.slots)
    (out_after p c.requires.0 c.args.region.now.slots q c.args.index c.args.place.ptr w.0 w.1 w.2 w.3 c.get-cell.result.now c.get-cell.ensures
    (q.len - c.args.index - 1) (omega (arith, w.3.0.0, w.3.1, length-append w.0 (w.1 ∷ w.2))) lt))

pub returns-clause-queue : goal.returns-clause-queue
returns-clause-queue g c xs n ys nth =
    let q = c.args.queue.now in let q1 = c.join_next.new.queue in let q2 = c.join_previous.new.queue in
    unlinked_queue c.args.region.now.grid c.requires.0 c.args.region.now.slots q c.args.index c.args.place.ptr xs n ys nth c.get-cell.result.now c.get-cell.ensures
    c.join_next.new.region.grid c.join_next.ensures.grid c.join_next.new.region.slots c.join_previous.new.region.slots (q.len - c.args.index - 1) (omega arith) c.join_next.ensures.slots c.join_previous.ensures.slots
    (record q2 { len = q2.len - 1 }) (c.join_previous.ensures.rest.0 ∙ c.join_next.ensures.first)
    (c.join_previous.ensures.last ∙ ap (λ (r : Ptr). cond (eqb (q.len - c.args.index - 1) 0) c.get-cell.result.now.previous r) c.join_next.ensures.rest.0)
    (omega (arith, c.join_previous.ensures.rest.1, c.join_next.ensures.rest.1, nth.0.0, length-append xs (n ∷ ys)))

pub returns-clause-cells : goal.returns-clause-cells
returns-clause-cells g c xs n ys nth =
    let q = c.args.queue.now in
    unlinked_same c.args.region.now.grid c.requires.0 c.args.region.now.slots q c.args.index c.args.place.ptr xs n ys nth c.get-cell.result.now c.get-cell.ensures
    c.join_next.new.region.grid c.join_next.ensures.grid c.join_next.new.region.slots c.join_previous.new.region.slots (q.len - c.args.index - 1) (omega arith) c.join_next.ensures.slots c.join_previous.ensures.slots

pub returns-clause-values : goal.returns-clause-values
returns-clause-values g c =
    let q = c.args.queue.now in let w = c.requires.1 in
    unlinked_values c.args.region.now.grid c.requires.0 c.args.region.now.slots q c.args.index c.args.place.ptr w.0 w.1 w.2 w.3 c.get-cell.result.now c.get-cell.ensures
    c.join_next.new.region.grid c.join_next.ensures.grid c.join_next.new.region.slots c.join_previous.new.region.slots (q.len - c.args.index - 1) (omega arith) c.join_next.ensures.slots c.join_previous.ensures.slots
