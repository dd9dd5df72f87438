-- The invariant of the outstanding numbers: the table by slot and the table by number agree.
use Rattle.std.specs.Prelude.{◌≡◌, ℕ, ◌^◌, ◌<◌, ◌≤◌, List, length, Option, Some, is_some, slice_get, count_by}
use Rattle.slab.specs.Slab.{Slab, get, slab_len}

pub record AreOut (slots : Slab ℕ) (numbers : List (Option ℕ)) : Type 0 where
  pub forth : (n k : ℕ) → get slots n ≡ Some k → slice_get numbers k ≡ Some (Some n)
  pub back : (n k : ℕ) → slice_get numbers k ≡ Some (Some n) → get slots n ≡ Some k
  -- as many numbers as slots that have one, and room for a number of each slot
  pub many : slab_len slots ≡ count_by is_some numbers
  pub room : length numbers ≤ slots.capacity
  pub narrow : slots.capacity < 2 ^ 32
