-- The sorts and scopes of `Typing` that the checker's sorts and scopes represent, and the faults of an expression by
-- its sort and token.
use Rattle.std.specs.Prelude.{ℕ, ◌++◌, map, List, Option, Some, None, false, is_some, not, if◌then◌else◌, option_map}
use Rattle.std.specs.Borrow.{Bor}
use Rattle.std.specs.Option.{option_copied}
use Rattle.run_types.specs.declared.types.Op.{Op}
use Rattle.run_types.specs.declared.types.Op.TheVariants as O
use Rattle.run_types.specs.declared.types.Kind.{Kind}
use Rattle.pool_syntax.specs.declared.tree.Var.{Var}
use Rattle.pool_syntax.specs.declared.tree.Method.{Method}
use Rattle.pool_syntax.specs.FaultNumbers as N
use Rattle.pool_syntax.specs.Terms.{MethodTree, ProgramTree}
use Rattle.pool_syntax.specs.Classes.{class_of}
use Rattle.pool_syntax.specs.TreeOf.{class_tree, method_tree}
use Rattle.pool_syntax.specs.Typing as T
use Rattle.run_types.specs.Sorts as TSorts
use Rattle.type_check.specs.declared.sort.Sort.{Sort}
use Rattle.type_check.specs.declared.sort.Sort.TheVariants as S
use Rattle.type_check.specs.declared.scope.Scope.{Scope}

-- the sort that a sort of the checker represents
abbrev pub sort_tree : Sort → TSorts.Sort
sort_tree S.Int = TSorts.IntSort
sort_tree S.Bool = TSorts.BoolSort
sort_tree (S.Class c) = TSorts.ClassSort c.0
sort_tree S.Nil = TSorts.NilSort
sort_tree S.NoResult = TSorts.NoSort
sort_tree S.Broken = TSorts.BrokenSort

-- the method that was found, if there is one
abbrev pub method_of : Option (Bor Method) → Option MethodTree
method_of m = option_map method_tree (option_copied m)

-- the scope that a scope of the checker represents
abbrev pub scope_of : Scope → T.Scope
scope_of s = record {
  program = map class_tree s.classes.now.list.now;
  class = s.own.now.name.name.0;
  own = Some (class_tree s.own.now);
  temps = s.params.now.list.now ++ s.locals.now.list.now;
  object_class = λ n. None;
  under_way = false;
  held = if s.in_post then 1 else 0;
}

-- the sort of a name with this declared type; broken if it is not declared
abbrev pub declared_sort : T.Scope → Option Kind → TSorts.Sort
declared_sort g None = TSorts.BrokenSort
declared_sort g (Some k) = T.kind_sort g.program k

-- the sort of a `new` of this class
abbrev pub creation_sort : T.Scope → ℕ → TSorts.Sort
creation_sort g c = if is_some (class_of g.program c) then TSorts.ClassSort c else TSorts.BrokenSort

-- the faults of a `new` of this class
abbrev pub creation_faults : T.Scope → ℕ → ℕ → List T.FaultAt
creation_faults g c at = T.fault_if (not (is_some (class_of g.program c))) at N.unknown_class

-- the faults of operands of these sorts at these tokens
abbrev pub operands_faults : Op → TSorts.Sort → ℕ → TSorts.Sort → ℕ → List T.FaultAt
operands_faults O.Same s at t to = T.no_result_faults s at ++ (T.no_result_faults t to ++ T.fault_if (not (T.is_comparable (T.counted s) (T.counted t))) to N.type_differs)
operands_faults O.Differs s at t to = T.no_result_faults s at ++ (T.no_result_faults t to ++ T.fault_if (not (T.is_comparable (T.counted s) (T.counted t))) to N.type_differs)
operands_faults op s at t to = T.misfit s (TSorts.operand_sort op) at ++ T.misfit t (TSorts.operand_sort op) to

-- the faults of an argument of this sort against its parameter, if there is one
abbrev pub argument_faults : ProgramTree → Option Var → TSorts.Sort → ℕ → List T.FaultAt
argument_faults p None s at = T.no_result_faults s at
argument_faults p (Some v) s at = T.misfit s (T.kind_sort p v.kind) at
