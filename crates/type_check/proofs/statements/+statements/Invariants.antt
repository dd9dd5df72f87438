use Rattle.std.proofs.Common.{◌≡◌, ◌+◌, min, drop}
use Rattle.pool_syntax.specs.TreeOf.{statements_of, alternatives_of}
use Rattle.pool_syntax.specs.Typing.{statements_faults, alternatives_faults}
use Rattle.type_check.specs.NotedFaults.{noted, found_of}
use Rattle.type_check.specs.CheckerScopes.{scope_of}
use Rattle.type_check.proofs.statements.+statements.Given as goal

-- noting the rest gives what noting all gives
abbrev pub invariant-statements-loop-stmt : goal.invariant-statements-loop-stmt
invariant-statements-loop-stmt l =
    noted (found_of l.first) (statements_faults (scope_of l.scope) (statements_of (drop l.stmt-index l.stmts)))
    ≡ noted (found_of l.initial.first) (statements_faults (scope_of l.scope) (statements_of l.stmts))

abbrev pub invariant-alternatives-loop-alt : goal.invariant-alternatives-loop-alt
invariant-alternatives-loop-alt l =
    (l.held ≡ min ((scope_of l.scope).held + l.alt-index) 64)
    × (noted (found_of l.first) (alternatives_faults (scope_of l.scope) ((scope_of l.scope).held + l.alt-index) (alternatives_of (drop l.alt-index l.alts)))
    ≡ noted (found_of l.initial.first) (alternatives_faults (scope_of l.scope) (scope_of l.scope).held (alternatives_of l.alts)))
