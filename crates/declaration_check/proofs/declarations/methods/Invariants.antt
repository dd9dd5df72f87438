use Rattle.std.proofs.Common.{◌≡◌, [], take, drop, map}
use Rattle.pool_syntax.specs.TreeOf.{method_tree}
use Rattle.pool_syntax.specs.Typing.{methods_faults}
use Rattle.type_check.specs.Before.{names_before}
use Rattle.type_check.specs.NotedFaults.{noted, found_of}
use Rattle.type_check.specs.CheckerScopes.{scope_of}
use Rattle.declaration_check.proofs.declarations.methods.Given as goal

-- noting the rest gives what noting all gives
abbrev pub invariant-loop-i : goal.invariant-loop-i
invariant-loop-i l =
    noted (found_of l.first) (methods_faults (scope_of l.scope) (names_before (λ m. m.name.name.0) [] (take l.i l.scope.own.now.methods)) (map method_tree (drop l.i l.scope.own.now.methods)))
    ≡ noted (found_of l.initial.first) (methods_faults (scope_of l.scope) [] (map method_tree l.scope.own.now.methods))
