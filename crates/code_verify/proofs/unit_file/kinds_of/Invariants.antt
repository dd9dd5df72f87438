use Rattle.std.proofs.Common.{◌≡◌, map, take}
use Rattle.pool_syntax.specs.TreeOf.{class_tree}
use Rattle.compiler_correctness.specs.DeclaredKinds.{class_kinds}
use Rattle.code_verify.proofs.unit_file.kinds_of.Given as goal

abbrev pub invariant-loop-class : goal.invariant-loop-class
invariant-loop-class l = l.list ≡ map class_kinds (map class_tree (take l.class-index l.classes))
