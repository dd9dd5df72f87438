use Rattle.std.proofs.Common.{◌≡◌, drop}
use Rattle.pool_syntax.specs.TreeOf.{alternatives_of, statements_of}
use Rattle.search_states.proofs.statements.+statements.Given as goal

-- if what is left is the same, all is
abbrev pub invariant-same_statements-loop-i : goal.invariant-same_statements-loop-i
invariant-same_statements-loop-i l =
    statements_of (drop l.i l.left) ≡ statements_of (drop l.i l.right) → statements_of l.left ≡ statements_of l.right

abbrev pub invariant-same_alternatives-loop-i : goal.invariant-same_alternatives-loop-i
invariant-same_alternatives-loop-i l =
    alternatives_of (drop l.i l.left) ≡ alternatives_of (drop l.i l.right) → alternatives_of l.left ≡ alternatives_of l.right
