use Rattle.std.proofs.Common.{◌≡◌, ℕ, suc, ◌<◌, List, [], length, get_or}
use Rattle.std.specs.Fn.{FnReturnsAt}
use Rattle.linked_cells.specs.Slots.{place_at}
use Rattle.cell_pool.specs.Lists.{IsLeastOf}
use Rattle.cell_pool.specs.Pools.{Holds, lists_of}
use Rattle.cell_pool.proofs.parts.Parts.least.Given as goal

abbrev pub invariant-loop-index : goal.invariant-loop-index
invariant-loop-index g l = ((orders : List (List ℕ)) → Holds l.self orders 0 → l.index < length (get_or orders (suc l.queue) []) → l.place.ptr ≡ place_at l.self.region.grid (get_or (get_or orders (suc l.queue) []) l.index 0))
    × IsLeastOf (FnReturnsAt g.F.Fn l.key) (get_or (lists_of l.self) l.queue []) l.index l.least
