use Rattle.std.proofs.Common.{ℕ, suc, ◌<◌, List, [], ◌∷◌, length, get_or, set, refl, arith}
use Rattle.std.specs.Vec.{with_item}
use Rattle.linked_cells.specs.Slots.{index_of}
use Rattle.linked_cells.proofs.Laws.{value_in}
use Rattle.cell_pool.proofs.Moves.{loose_in, room_in, put_holds, put_first_list}
use Rattle.cell_pool.proofs.parts.Parts.put_first_held.Goals as goal

pub prepend_held-requires-clause-loose : goal.prepend_held-requires-clause-loose
prepend_held-requires-clause-loose g c =
    let p = c.args.self.now in let w = c.requires.without.0 in let q = c.index_mut-head.result.now in let k : ℕ = suc c.args.queue in
    let lt : k < suc (length p.queues.items) = omega (arith, c.requires.without.1) in
    (w.2.room.0, (get_or w.0 k [], w.1, loose_in p w.0 w.1 c.args.place.ptr k q w.2 w.3 w.4 w.5 lt c.index_mut-head.ensures.value), room_in p w.0 1 k q w.2 lt c.index_mut-head.ensures.value)

pub returns-clause-pool : goal.returns-clause-pool
returns-clause-pool g c =
    let p = c.args.self.now in let w = c.requires.without.0 in let q = c.index_mut-head.result.now in let k : ℕ = suc c.args.queue in let xs : List ℕ = get_or w.0 k [] in let n : ℕ = w.1 in
    let lt : k < suc (length p.queues.items) = omega (arith, c.requires.without.1) in let cell = c.requires.held.1.0 in
    let loose = loose_in p w.0 n c.args.place.ptr k q w.2 w.3 w.4 w.5 lt c.index_mut-head.ensures.value in (
      set w.0 k (n ∷ xs),
      put_holds p c.prepend_held.new.region p.vacant (with_item p.queues c.args.queue c.prepend_held.new.queue) c.prepend_held.ensures.grid w.0 k c.prepend_held.new.queue (n ∷ xs) lt refl
          (c.prepend_held.ensures.queue xs n loose) n cell.value w.2 w.5 w.4 (λ a. refl) refl
          (c.prepend_held.ensures.cells xs n cell.value loose (value_in p.region.slots (index_of p.region.grid c.args.place.ptr) cell c.requires.held.1.1)),
    )

pub returns-clause-lists : goal.returns-clause-lists
returns-clause-lists g c =
    let p = c.args.self.now in let w = c.requires.without.0 in let q = c.index_mut-head.result.now in let k : ℕ = suc c.args.queue in let xs : List ℕ = get_or w.0 k [] in let n : ℕ = w.1 in
    let lt : k < suc (length p.queues.items) = omega (arith, c.requires.without.1) in let cell = c.requires.held.1.0 in
    let loose = loose_in p w.0 n c.args.place.ptr k q w.2 w.3 w.4 w.5 lt c.index_mut-head.ensures.value in (
      cell.value,
      put_first_list p c.prepend_held.new.region p.vacant (with_item p.queues c.args.queue c.prepend_held.new.queue) c.prepend_held.ensures.grid w.0 k c.prepend_held.new.queue (n ∷ xs) lt refl
          (c.prepend_held.ensures.queue xs n loose) n cell.value w.2 w.5 w.4 (λ a. refl) refl
          (c.prepend_held.ensures.cells xs n cell.value loose (value_in p.region.slots (index_of p.region.grid c.args.place.ptr) cell c.requires.held.1.1)) c.args.queue refl refl,
    )
