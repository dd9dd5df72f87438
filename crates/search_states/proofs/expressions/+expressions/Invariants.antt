use Rattle.std.proofs.Common.{◌≡◌, drop}
use Rattle.pool_syntax.specs.TreeOf.{expressions_of}
use Rattle.search_states.proofs.expressions.+expressions.Given as goal

-- if what is left is the same, all is
abbrev pub invariant-same_expressions-loop-i : goal.invariant-same_expressions-loop-i
invariant-same_expressions-loop-i l =
    expressions_of (drop l.i l.left) ≡ expressions_of (drop l.i l.right) → expressions_of l.left ≡ expressions_of l.right
