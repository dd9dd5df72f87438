use Rattle.std.proofs.Common.{◌≡◌, ◌++◌, take}
use Rattle.pool_compile.specs.Code.{names_of}
use Rattle.pool_compile.proofs.numbers.push_names.Given as goal

abbrev pub invariant-loop-var : goal.invariant-loop-var
invariant-loop-var l = l.names.items ≡ l.initial.names.items ++ names_of (take l.var-index l.vars)
