use Rattle.std.proofs.Common.{◌≡◌, ◌++◌, drop}
use Rattle.pool_syntax.specs.TreeOf.{alternatives_of, statements_of}
use Rattle.term_text.specs.Words.{alternatives_text, more_statements, statements_text}
use Rattle.term_text.proofs.statements.+statements.Given as goal

-- the text so far and what is left are the text of all
abbrev pub invariant-push_alternatives-loop-alt : goal.invariant-push_alternatives-loop-alt
invariant-push_alternatives-loop-alt l =
    l.text.items ++ alternatives_text l.names (alternatives_of (drop l.alt-index l.alts)) ≡ l.initial.text.items ++ alternatives_text l.names (alternatives_of l.alts)

abbrev pub invariant-push_statements-loop-i : goal.invariant-push_statements-loop-i
invariant-push_statements-loop-i l =
    l.text.items ++ more_statements l.names (statements_of (drop l.i l.stmts)) ≡ l.fn.text.items ++ statements_text l.names (statements_of l.stmts)
