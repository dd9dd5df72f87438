-- Numbers of at most 32 bits in units of 16 bits.
use Rattle.std.specs.Prelude.{ℕ, ◌+◌, ◌*◌, ◌/◌, ◌%◌, ◌==◌, nat_lt, List, [], ◌∷◌, if◌then◌else◌}

-- the units of a number: the number alone, or 65,535 and then its two halves
abbrev pub units_of : ℕ → List ℕ
units_of n = if nat_lt n 65535 then n ∷ [] else 65535 ∷ n / 65536 ∷ n % 65536 ∷ []

-- the numbers that units stand for
abbrev pub numbers_of : List ℕ → List ℕ
numbers_of [] = []
numbers_of (u ∷ []) = if u == 65535 then [] else u ∷ []
numbers_of (u ∷ h ∷ []) = if u == 65535 then [] else u ∷ numbers_of (h ∷ [])
numbers_of (u ∷ h ∷ l ∷ us) = if u == 65535 then (h * 65536 + l) ∷ numbers_of us else u ∷ numbers_of (h ∷ l ∷ us)
