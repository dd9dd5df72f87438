-- The look-up of a class or a method by its name, in which the first declaration counts.
use Rattle.std.specs.Prelude.{ℕ, ◌==◌, List, [], ◌∷◌, Option, Some, None, if◌then◌else◌}
use Rattle.pool_syntax.specs.Terms.{MethodTree, ClassTree, ProgramTree}

-- the first class of this name
abbrev pub class_of : ProgramTree → ℕ → Option ClassTree
class_of [] c = None
class_of (k ∷ ks) c = if k.name.name.0 == c then Some k else class_of ks c

-- the first method of this name
abbrev pub named_method : List MethodTree → ℕ → Option MethodTree
named_method [] m = None
named_method (k ∷ ks) m = if k.name.name.0 == m then Some k else named_method ks m
