-- The sorts of expressions and operands, and the sorts that each operator takes and gives.
use Rattle.std.specs.Prelude.{ℕ, ◌==◌, Bool, true, false}
use Rattle.run_types.specs.declared.types.Op.{Op}
use Rattle.run_types.specs.declared.types.Op.TheVariants as O

-- the sort of an expression
pub data Sort : Type 0 where
  IntSort : Sort
  BoolSort : Sort
  ClassSort : (class : ℕ) → Sort
  NilSort : Sort
  -- the sort of a call without result
  NoSort : Sort
  -- the sort of an expression in which a fault was already found
  BrokenSort : Sort

-- the sort of an operator's value
abbrev pub op_sort : Op → Sort
op_sort O.Add = IntSort
op_sort O.Sub = IntSort
op_sort O.Mul = IntSort
op_sort O.Div = IntSort
op_sort O.Rem = IntSort
op_sort O.Neg = IntSort
op_sort _ = BoolSort

-- the sort of an operator's operands, except for `==` and `!=`, which take any sort
abbrev pub operand_sort : Op → Sort
operand_sort O.And = BoolSort
operand_sort O.Or = BoolSort
operand_sort O.Not = BoolSort
operand_sort _ = IntSort

-- whether two sorts of values are equal; `NoSort` and `BrokenSort` equal no sort
abbrev pub is_same_sort : Sort → Sort → Bool
is_same_sort IntSort IntSort = true
is_same_sort BoolSort BoolSort = true
is_same_sort (ClassSort c) (ClassSort d) = c == d
is_same_sort NilSort NilSort = true
is_same_sort _ _ = false
