use Rattle.std.proofs.Common.{◌≡◌, map, take}
use Rattle.pool_compile.proofs.statements.names_of.Given as goal

abbrev pub invariant-loop-named : goal.invariant-loop-named
invariant-loop-named l = l.names ≡ map (λ n. n.name) (take l.named-index l.listed)
