-- The first set bit of a list of bits.
use Rattle.std.specs.Prelude.{ℕ, ◌+◌, List, [], ◌∷◌, drop, Option, Some, None, Bool, if◌then◌else◌}

-- the number of the first set bit, if the first bit has the number n
abbrev pub first_bit : ℕ → List Bool → Option ℕ
first_bit n [] = None
first_bit n (b ∷ bs) = if b then Some n else first_bit (n + 1) bs

-- the first set bit from the number n on
abbrev pub first_bit_from : ℕ → List Bool → Option ℕ
first_bit_from n bs = first_bit n (drop n bs)
