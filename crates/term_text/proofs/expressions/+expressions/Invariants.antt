use Rattle.std.proofs.Common.{◌≡◌, ◌++◌, drop}
use Rattle.pool_syntax.specs.TreeOf.{expressions_of}
use Rattle.term_text.specs.Words.{arguments_text, more_arguments}
use Rattle.term_text.proofs.expressions.+expressions.Given as goal

-- the text so far and what is left are the text of all
abbrev pub invariant-push_arguments-loop-i : goal.invariant-push_arguments-loop-i
invariant-push_arguments-loop-i l =
    l.text.items ++ more_arguments l.names (expressions_of (drop l.i l.args)) ≡ l.fn.text.items ++ arguments_text l.names (expressions_of l.args)
