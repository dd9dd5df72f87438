-- The items of a ring buffer in its array.
use Rattle.std.specs.Prelude.{ℕ, ◌-◌, List, ◌++◌, take, drop, if◌then◌else◌, nat_lt}

-- an index, counted around an array of this size
abbrev pub wrap : ℕ → ℕ → ℕ
wrap place size = if nat_lt place size then place else place - size

-- `count` items from an index on, around the end
abbrev pub from_place : {X : Type 0} → ℕ → ℕ → List X → List X
from_place first count xs = take count (drop first (xs ++ xs))
