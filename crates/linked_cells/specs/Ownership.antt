-- Assertions of separation logic for a region of values of the row R: its owner's, that of a `&` to it, and the right
-- to free it.
use Rattle.std.specs.Prelude.{ℕ, ◌+◌, ◌*◌, ◌^◌, List, [], ◌∷◌, length, Option, Some, None}
use Rattle.std.specs.Mem.{type_size}
use base.Fraction.{full_share}
use base.Fml.{Lft, Fml, ftrue, ffalse, fsep, feq, flt, froom}
use mir.Syntax.{Ty, ty_array}
use mir.Raw.{raw}
use denote.RattleType.{RattleType}
use denote.Memory.{lone, part_at, shared_of}
use denote.Sharing.{nothing, said, beside}
use denote.RawPtr.{Ptr, block_ptr, null_ptr}

module _ (R : RattleType) where
  -- the cell that begins o bytes into the block b: its value, or the room for one
  abbrev pub cell_owns : ℕ → ℕ → Option R.Denot → Fml
  cell_owns b o None = froom (raw (lone R.mir)) b o
  cell_owns b o (Some x) = part_at R full_share x b o

  -- adjacent cells, of which the first begins o bytes into the block b
  abbrev pub cells_own : ℕ → ℕ → List (Option R.Denot) → Fml
  cells_own b o [] = ftrue
  cells_own b o (c ∷ cs) = fsep (cell_owns b o c) (cells_own b (o + type_size R) cs)

  -- a cell that is lent by `&`
  abbrev pub cell_lends : ℕ → ℕ → Option R.Denot → Lft → Fml
  cell_lends b o None = nothing
  cell_lends b o (Some x) = shared_of R x b o

  -- adjacent cells that are lent by `&`
  abbrev pub cells_lend : ℕ → ℕ → List (Option R.Denot) → Lft → Fml
  cells_lend b o [] = nothing
  cells_lend b o (c ∷ cs) = beside (cell_lends b o c) (cells_lend b (o + type_size R) cs)

  -- a cell takes s bytes, and n cells take fewer than 2 ^ 63 bytes
  abbrev pub sized : ℕ → ℕ → Fml
  sized s n = fsep (feq ℕ s (type_size R)) (flt (n * s) (2 ^ 63))

  -- the assertion of a region's owner: its cells of s bytes begin at the pointer and hold cs
  abbrev pub region_owns : ℕ → Ptr → List (Option R.Denot) → Fml
  region_owns s (block_ptr b o) cs = fsep (sized s (length cs)) (cells_own b o cs)
  region_owns s null_ptr cs = ffalse

  -- the assertion of a `&` to the region
  abbrev pub region_lends : ℕ → Ptr → List (Option R.Denot) → Lft → Fml
  region_lends s (block_ptr b o) cs = beside (said (sized s (length cs))) (cells_lend b o cs)
  region_lends s null_ptr cs = said ffalse

  -- the allocator's right to free a block of n cells
  abbrev pub deed_owns : (Ty → Ptr → Fml) → Ptr → ℕ → Fml
  deed_owns right at n = right (raw (ty_array (lone R.mir) n)) at
