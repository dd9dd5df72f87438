use Rattle.std.proofs.Common.{◌≡◌, map, take}
use Rattle.pool_syntax.specs.TreeOf.{method_tree}
use Rattle.compiler_correctness.specs.DeclaredKinds.{method_kinds}
use Rattle.code_verify.proofs.unit_file.class_kinds.Given as goal

abbrev pub invariant-loop-method : goal.invariant-loop-method
invariant-loop-method l = l.methods ≡ map method_kinds (map method_tree (take l.method-index l.class.methods))
