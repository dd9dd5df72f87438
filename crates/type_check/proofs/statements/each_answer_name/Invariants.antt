use Rattle.std.proofs.Common.{◌≡◌, [], take, drop}
use Rattle.pool_syntax.specs.Typing.{names_faults}
use Rattle.type_check.specs.Before.{names_before}
use Rattle.type_check.specs.NotedFaults.{noted, found_of}
use Rattle.type_check.specs.CheckerScopes.{scope_of}
use Rattle.type_check.proofs.statements.each_answer_name.Given as goal

-- noting the rest gives what noting all gives
abbrev pub invariant-loop-i : goal.invariant-loop-i
invariant-loop-i l =
    noted (found_of l.first) (names_faults (scope_of l.scope) (names_before (λ n. n.name.0) [] (take l.i l.names.list.now)) (drop l.i l.names.list.now))
    ≡ noted (found_of l.initial.first) (names_faults (scope_of l.scope) [] l.names.list.now)
