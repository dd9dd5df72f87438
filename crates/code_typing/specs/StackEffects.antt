-- The stacks of sorts that the verifier's numbered cells represent, and their change by a push or a pop.
use Rattle.std.specs.Prelude.{◌≡◌, ℕ, ◌≤◌, [], ◌∷◌, length, Option, Some, None}
use Rattle.code_typing.specs.Sorts.{Stack}
use Rattle.code_typing.specs.declared.sort.Sort.{Sort}
use Rattle.code_typing.specs.declared.cell.Cell.{Cell}
use Rattle.code_typing.specs.declared.cell.Stacks.{Stacks}
use Rattle.code_typing.specs.Chained.{sort_tree, stack_by}

-- the stack of this number
abbrev pub stack_of : Stacks → ℕ → Stack
stack_of s n = stack_by s.cells.items n

-- n is the number of a stack
abbrev pub Holds : Stacks → ℕ → Type 0
Holds s n = n ≤ length s.cells.items

-- each stack of the first is the stack with the same number of the second
abbrev pub Keeps : Stacks → Stacks → Type 0
Keeps s t = (n : ℕ) → Holds s n → Holds t n × (stack_of t n ≡ stack_of s n)

-- a stack by its last cell
abbrev pub topped : Stacks → Option Cell → Stack
topped s None = []
topped s (Some c) = sort_tree c.sort ∷ stack_of s c.below

-- the stack of this number, if there is one
abbrev pub stack_at : Stacks → Option ℕ → Option Stack
stack_at s None = None
stack_at s (Some n) = Some (stack_of s n)

-- the stack with the sort pushed, if there is one
abbrev pub with_sort : Option Sort → Stack → Stack
with_sort None ss = ss
with_sort (Some s) ss = sort_tree s ∷ ss
