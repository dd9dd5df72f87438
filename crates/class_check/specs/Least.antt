-- The least fault of a list of faults, by their tokens and then by their numbers.
use Rattle.std.specs.Prelude.{◌≡◌, ◌<◌, ◌⊎◌, List, Contains}
use Rattle.pool_syntax.specs.Typing.{FaultAt}

-- x has an earlier token than y, or the same token and a smaller number
abbrev pub IsBelow : FaultAt → FaultAt → Type 0
IsBelow x y = (x.0 < y.0) ⊎ ((x.0 ≡ y.0) × (x.1 < y.1))

-- x is one of the faults, and none of them is below it
abbrev pub IsLeastFault : List FaultAt → FaultAt → Type 0
IsLeastFault fs x = Contains fs x × ((y : FaultAt) → Contains fs y → IsBelow y x → ⊥)
