use Rattle.std.proofs.Common.{◌≡◌, ◌≤◌, drop}
use Rattle.pool_syntax.specs.TreeOf.{expressions_of}
use Rattle.pool_syntax.specs.Typing.{arguments_faults}
use Rattle.type_check.specs.NotedFaults.{noted, found_of}
use Rattle.type_check.specs.CheckerScopes.{scope_of}
use Rattle.type_check.proofs.expressions.+expressions.Given as goal

-- noting the rest gives what noting all gives
abbrev pub invariant-arguments-loop-i : goal.invariant-arguments-loop-i
invariant-arguments-loop-i l =
    (l.now_held ≤ 64)
    × (noted (found_of l.first) (arguments_faults (scope_of l.scope) l.now_held (drop l.i l.params) (expressions_of (drop l.i l.args)))
    ≡ noted (found_of l.initial.first) (arguments_faults (scope_of l.scope) l.held l.params (expressions_of l.args)))
