use Rattle.std.proofs.Common.{ℕ, suc, ◌<◌, List, [], ◌++◌, length, get_or, set, take, drop, refl, sym, ap, ◌∙◌, arith}
use Rattle.linked_cells.specs.Slots.{Grid, place_at}
use Rattle.linked_cells.proofs.Laws.{cell_of, still_held}
use Rattle.cell_pool.proofs.Moves.{nth_of, queue_is, first_at, split_at, filled_at, out_holds, out_none, out_below, out_vacant, lists_total, vacant_length}
use Rattle.cell_pool.proofs.parts.Parts.take_vacant.Goals as goal

pub unlink-requires : goal.unlink-requires
unlink-requires g c =
    let p = c.args.self.now in let w = c.requires.0 in let order : List ℕ = get_or w.0 0 [] in let lt : 0 < suc (length p.queues.items) = omega arith in
    let le : 0 < length order = omega (arith, c.requires.1, vacant_length p w.0 0 w.1) in
    let at = first_at (place_at p.region.grid) p.region.slots p.vacant order le (queue_is p w.0 0 w.1 0 p.vacant lt refl) in
    (w.1.room.0, (take 0 order, get_or order 0 0, drop 1 order, nth_of p w.0 0 w.1 0 0 p.vacant p.vacant.first.ptr lt refl le at))

pub returns-clause-pool : goal.returns-clause-pool
returns-clause-pool g c =
    let p = c.args.self.now in let w = c.requires.0 in let order : List ℕ = get_or w.0 0 [] in let lt : 0 < suc (length p.queues.items) = omega arith in
    let le : 0 < length order = omega (arith, c.requires.1, vacant_length p w.0 0 w.1) in
    let at = first_at (place_at p.region.grid) p.region.slots p.vacant order le (queue_is p w.0 0 w.1 0 p.vacant lt refl) in
    let nth = nth_of p w.0 0 w.1 0 0 p.vacant p.vacant.first.ptr lt refl le at in
    let xs : List ℕ = take 0 order in let n : ℕ = get_or order 0 0 in let zs : List ℕ = drop 1 order in
    let r = c.unlink.new.region in let v = c.unlink.new.queue in let cut = split_at order 0 le in let is = c.unlink.ensures.queue xs n zs nth in let same = c.unlink.ensures.cells xs n zs nth in (
      set w.0 0 (xs ++ zs),
      n,
      out_holds p r v p.queues c.unlink.ensures.grid w.0 0 v (xs ++ zs) lt refl is xs n zs w.1 cut refl same c.unlink.ensures.values,
      at ∙ ap (λ (m : Grid). place_at m n) (sym c.unlink.ensures.grid),
      out_below p r v p.queues c.unlink.ensures.grid w.0 0 v (xs ++ zs) lt refl is xs n zs w.1 cut refl same c.unlink.ensures.values,
      out_none p r v p.queues c.unlink.ensures.grid w.0 0 v (xs ++ zs) lt refl is xs n zs w.1 cut refl same c.unlink.ensures.values,
    )

pub returns-clause-held : goal.returns-clause-held
returns-clause-held g c =
    let p = c.args.self.now in let w = c.requires.0 in let order : List ℕ = get_or w.0 0 [] in let lt : 0 < suc (length p.queues.items) = omega arith in
    let le : 0 < length order = omega (arith, c.requires.1, vacant_length p w.0 0 w.1) in let is = queue_is p w.0 0 w.1 0 p.vacant lt refl in
    let at = first_at (place_at p.region.grid) p.region.slots p.vacant order le is in
    still_held p.region.grid c.unlink.new.region.grid p.region.slots c.unlink.new.region.slots p.vacant.first.ptr c.unlink.ensures.grid c.unlink.ensures.values
    (cell_of p.region.grid w.1.room.0 p.region.slots p.vacant.first.ptr (get_or order 0 0) at (filled_at (place_at p.region.grid) p.region.slots p.vacant.first.ptr order 0 le is.1))

pub returns-clause-free : goal.returns-clause-free
returns-clause-free g c =
    let p = c.args.self.now in let w = c.requires.0 in omega (arith, c.requires.1, vacant_length p w.0 0 w.1, lists_total p w.0 0 w.1, w.1.taken, w.1.room.2)

pub returns-clause-lists : goal.returns-clause-lists
returns-clause-lists g c =
    let p = c.args.self.now in let w = c.requires.0 in let order : List ℕ = get_or w.0 0 [] in let lt : 0 < suc (length p.queues.items) = omega arith in
    let le : 0 < length order = omega (arith, c.requires.1, vacant_length p w.0 0 w.1) in
    let at = first_at (place_at p.region.grid) p.region.slots p.vacant order le (queue_is p w.0 0 w.1 0 p.vacant lt refl) in
    let nth = nth_of p w.0 0 w.1 0 0 p.vacant p.vacant.first.ptr lt refl le at in
    let xs : List ℕ = take 0 order in let n : ℕ = get_or order 0 0 in let zs : List ℕ = drop 1 order in
    let r = c.unlink.new.region in let v = c.unlink.new.queue in let cut = split_at order 0 le in let is = c.unlink.ensures.queue xs n zs nth in let same = c.unlink.ensures.cells xs n zs nth in
    out_vacant p r v p.queues c.unlink.ensures.grid w.0 0 v (xs ++ zs) lt refl is xs n zs w.1 cut refl same c.unlink.ensures.values refl
