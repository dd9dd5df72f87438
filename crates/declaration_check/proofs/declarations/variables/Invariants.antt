use Rattle.std.proofs.Common.{◌≡◌, [], take, drop, map}
use Rattle.pool_syntax.specs.TreeOf.{class_tree}
use Rattle.pool_syntax.specs.Typing.{vars_faults}
use Rattle.type_check.specs.Before.{names_before}
use Rattle.type_check.specs.NotedFaults.{noted, found_of}
use Rattle.declaration_check.specs.TwiceNumber.{twice_number}
use Rattle.declaration_check.proofs.declarations.variables.Given as goal

-- noting the rest gives what noting all gives
abbrev pub invariant-loop-i : goal.invariant-loop-i
invariant-loop-i l =
    noted (found_of l.first) (vars_faults (map class_tree l.classes.list.now) (twice_number l.owner) (names_before (λ v. v.name.0) (names_before (λ v. v.name.0) [] l.before.list.now) (take l.i l.vars.list.now)) (drop l.i l.vars.list.now))
    ≡ noted (found_of l.initial.first) (vars_faults (map class_tree l.classes.list.now) (twice_number l.owner) (names_before (λ v. v.name.0) [] l.before.list.now) l.vars.list.now)
