-- The ready bit of the object whose turn it is.
use Rattle.std.specs.Prelude.{ℕ, ◌+◌, List, Option, Some, None, Bool}
use Rattle.std.specs.Option.{option_or}
use Rattle.node_state.specs.Bits.{first_bit, first_bit_from}

-- the first set bit above the last one, or else the first set bit
abbrev pub bit_in_turn : Option ℕ → List Bool → Option ℕ
bit_in_turn None bs = first_bit 0 bs
bit_in_turn (Some last) bs = option_or (first_bit_from (last + 1) bs) (first_bit 0 bs)
