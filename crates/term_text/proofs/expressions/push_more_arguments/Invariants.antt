use Rattle.std.proofs.Common.{◌≡◌, ◌++◌, drop}
use Rattle.pool_syntax.specs.TreeOf.{expressions_of}
use Rattle.term_text.specs.Words.{more_arguments}
use Rattle.term_text.proofs.expressions.push_more_arguments.Given as goal

-- the text so far and what is left are the text of all
abbrev pub invariant-loop-arg : goal.invariant-loop-arg
invariant-loop-arg l = l.text.items ++ more_arguments l.names (expressions_of (drop l.arg-index l.args)) ≡ l.initial.text.items ++ more_arguments l.names (expressions_of l.args)
