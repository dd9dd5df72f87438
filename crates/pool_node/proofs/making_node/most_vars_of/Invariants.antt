use Rattle.std.proofs.Common.{◌≡◌, drop}
use Rattle.code_semantics.specs.NodeWords.{most_vars}
use Rattle.pool_node.proofs.making_node.most_vars_of.Given as goal

abbrev pub invariant-loop-i : goal.invariant-loop-i
invariant-loop-i l = l.most ≡ most_vars (drop l.i l.classes)
