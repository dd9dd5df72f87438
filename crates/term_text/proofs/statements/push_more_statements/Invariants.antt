use Rattle.std.proofs.Common.{◌≡◌, ◌++◌, drop}
use Rattle.pool_syntax.specs.TreeOf.{statements_of}
use Rattle.term_text.specs.Words.{more_statements}
use Rattle.term_text.proofs.statements.push_more_statements.Given as goal

-- the text so far and what is left are the text of all
abbrev pub invariant-loop-stmt : goal.invariant-loop-stmt
invariant-loop-stmt l = l.text.items ++ more_statements l.names (statements_of (drop l.stmt-index l.stmts)) ≡ l.initial.text.items ++ more_statements l.names (statements_of l.stmts)
