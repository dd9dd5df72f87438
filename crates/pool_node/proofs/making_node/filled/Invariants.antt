use Rattle.std.proofs.Common.{◌≡◌, replicate}
use Rattle.pool_node.proofs.making_node.filled.Given as goal

abbrev pub invariant-loop-i : goal.invariant-loop-i
invariant-loop-i g l = l.list ≡ replicate l._i l.value
