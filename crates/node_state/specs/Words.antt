-- The bits of a list of 64-bit words.
use Rattle.std.specs.Prelude.{◌≡◌, ℕ, ◌/◌, ◌%◌, ◌==◌, ◌<◌, ◌≤◌, List, map, get_or, Bool, true, false}
use Rattle.std.specs.Int.{bit_at}
use Rattle.std.specs.List.{range_with_len}

-- whether the bit of this number is set
abbrev pub is_set : List ℕ → ℕ → Bool
is_set words place = bit_at (get_or words (place / 64) 0) (place % 64) == 1

-- the first `count` bits
abbrev pub bits_of : List ℕ → ℕ → List Bool
bits_of words count = map (λ place. is_set words place) (range_with_len 0 count)

-- no bit from `from` on, below `end`, is set
abbrev pub AreClear : List ℕ → ℕ → ℕ → Type 0
AreClear words from end = (place : ℕ) → from ≤ place → place < end → is_set words place ≡ false

-- The first set bit from `from` on.
pub record IsFirstSet (words : List ℕ) (from place : ℕ) : Type 0 where
  pub after : from ≤ place
  pub set : is_set words place ≡ true
  pub passed : AreClear words from place
