-- The trees of the classes and methods that a lookup of the stepper finds.
use Rattle.std.specs.Prelude.{List, map, Option, Some, None}
use Rattle.pool_syntax.specs.declared.tree.Method.{Method}
use Rattle.pool_syntax.specs.declared.tree.ClassDecl.{ClassDecl}
use Rattle.pool_syntax.specs.Terms.{MethodTree, ClassTree}
use Rattle.pool_syntax.specs.TreeOf.{class_tree, method_tree}
use denote.Bor.{Bor}

-- the class, if one was found
abbrev pub class_seen : Option (Bor ClassDecl) → Option ClassTree
class_seen None = None
class_seen (Some c) = Some (class_tree c.now)

-- the method, if one was found
abbrev pub method_seen : Option (Bor Method) → Option MethodTree
method_seen None = None
method_seen (Some m) = Some (method_tree m.now)

-- the methods of a class
abbrev pub methods_of : ClassDecl → List MethodTree
methods_of c = map method_tree c.methods
