-- A region after a `&mut` to the value of one of its cells has ended.
use Rattle.std.specs.Prelude.{List, slice_set, Option, Some}
use Rattle.std.specs.Borrow.{Fml, RattleType, MutBor, Lends}
use denote.RawPtr.{Ptr}
use Rattle.linked_cells.specs.Slots.{index_of}
use Rattle.linked_cells.specs.declared.region.Region.{Region}
use Rattle.linked_cells.specs.contracts.region.Region.{the_row}

-- the region with other slots
abbrev pub with_slots : {X : Type 0} → Region X → List (Option X) → Region X
with_slots c cs = record { mark = c.mark; grid = c.grid; slots = cs }

-- when r ends, the cell at the pointer holds the last value that was written through r
abbrev pub lends_slot : (R : RattleType) → MutBor (Region R.Denot) → Ptr → MutBor R.Denot → Fml
lends_slot R c p r = Lends (the_row R) R c r (λ w. with_slots c.now (slice_set c.now.slots (index_of c.now.grid p) (Some w)))
