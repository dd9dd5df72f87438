use Rattle.std.proofs.Common.{◌≡◌, [], take, drop, map}
use Rattle.pool_syntax.specs.TreeOf.{class_tree}
use Rattle.pool_syntax.specs.Typing.{classes_faults, faults}
use Rattle.type_check.specs.Before.{names_before}
use Rattle.type_check.specs.NotedFaults.{noted, found_of}
use Rattle.declaration_check.proofs.declarations.each_class.Given as goal

-- noting the rest gives what noting all gives
abbrev pub invariant-loop-i : goal.invariant-loop-i
invariant-loop-i l =
    noted (found_of l.first) (classes_faults (map class_tree l.classes.list.now) (names_before (λ k. k.name.name.0) [] (take l.i l.classes.list.now)) (map class_tree (drop l.i l.classes.list.now)))
    ≡ noted (found_of l.initial.first) (faults (map class_tree l.classes.list.now))
