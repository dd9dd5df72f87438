-- Cells that represent stacks of sorts: each has the sort of its last operand, and the smaller number of the stack
-- below it.
use Rattle.std.specs.Prelude.{◌≡◌, ℕ, zero, suc, ◌≤◌, List, [], ◌∷◌, Option, Some, None, slice_get}
use Rattle.run_types.specs.Sorts as T
use Rattle.code_typing.specs.Sorts.{Stack}
use Rattle.code_typing.specs.declared.sort.Sort.{Sort}
use Rattle.code_typing.specs.declared.sort.Sort.TheVariants as S
use Rattle.code_typing.specs.declared.cell.Cell.{Cell}

-- the sort in the definitions
abbrev pub sort_tree : Sort → T.Sort
sort_tree S.Int = T.IntSort
sort_tree S.Bool = T.BoolSort
sort_tree (S.Class c) = T.ClassSort c.0
sort_tree S.Nil = T.NilSort
sort_tree S.NoResult = T.NoSort

-- the depth of a stack that is a cell
abbrev pub cell_depth : Option Cell → ℕ
cell_depth None = 0
cell_depth (Some c) = c.depth

-- the depth of the stack of this number: stack 0 is empty
abbrev pub depth_of : List Cell → ℕ → ℕ
depth_of cells zero = 0
depth_of cells (suc n) = cell_depth (slice_get cells n)

-- the cell's operand on the stack below it
abbrev pub on_cell : Option Cell → (ℕ → Stack) → Stack
on_cell None below = []
on_cell (Some c) below = sort_tree c.sort ∷ below c.below

-- the last d operands of the stack n
abbrev pub unwound : ℕ → List Cell → ℕ → Stack
unwound zero cells n = []
unwound (suc d) cells zero = []
unwound (suc d) cells (suc n) = on_cell (slice_get cells n) (λ m. unwound d cells m)

-- the stack of this number
abbrev pub stack_by : List Cell → ℕ → Stack
stack_by cells n = unwound (depth_of cells n) cells n

-- each cell is on a stack with a smaller number, and has the depth of its own stack
abbrev pub IsChained : List Cell → Type 0
IsChained cells = (i : ℕ) (c : Cell) → slice_get cells i ≡ Some c → (c.below ≤ i) × (c.depth ≡ suc (depth_of cells c.below))
