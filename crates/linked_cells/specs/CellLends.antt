-- A region after a `&mut` to the value of one of its linked cells has ended.
use Rattle.std.specs.Prelude.{ℕ, List, set, get_or, Option, None, option_map}
use Rattle.std.specs.Borrow.{Fml, RattleType, MutBor, Lends}
use denote.RawPtr.{Ptr}
use Rattle.linked_cells.specs.Slots.{index_of}
use Rattle.linked_cells.specs.RegionLends.{with_slots}
use Rattle.linked_cells.specs.declared.queue.Cell.{Cell}
use Rattle.linked_cells.specs.declared.region.Region.{Region}
use Rattle.linked_cells.specs.contracts.queue.Cell.{the_row as cell_row}
use Rattle.linked_cells.specs.contracts.region.Region.{the_row as region_row}

module _ {X : Type 0} where
  -- the slots after w was written as the value of the cell with the number i
  abbrev pub with_value : List (Option (Cell X)) → ℕ → X → List (Option (Cell X))
  with_value slots i w = set slots i (option_map (λ (c : Cell X). record c { value = w }) (get_or slots i None))

  -- the region after w was written as the value of the cell at the pointer
  abbrev pub region_with : Region (Cell X) → Ptr → X → Region (Cell X)
  region_with r at w = with_slots r (with_value r.slots (index_of r.grid at) w)

-- when r ends, the value of the cell at the pointer is the last one that was written through r
abbrev pub lends_in_region : (R : RattleType) → MutBor (Region (Cell R.Denot)) → Ptr → MutBor R.Denot → Fml
lends_in_region R c at r = Lends (region_row (cell_row R)) R c r (region_with c.now at)
