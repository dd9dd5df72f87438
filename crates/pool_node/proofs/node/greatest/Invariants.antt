use Rattle.std.proofs.Common.{◌≡◌, drop}
use Rattle.pool_node.specs.MadeCounts.{most_made}
use Rattle.pool_node.proofs.node.greatest.Given as goal

abbrev pub invariant-loop-i : goal.invariant-loop-i
invariant-loop-i l = l.most ≡ most_made (drop l.i l.counts)
