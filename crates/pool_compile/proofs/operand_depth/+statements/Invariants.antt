use Rattle.std.proofs.Common.{◌≡◌, ◌≤◌, drop}
use Rattle.pool_syntax.specs.TreeOf.{statements_of, alternatives_of}
use Rattle.pool_compile.specs.Code.{more, statements_words, works_words}
use Rattle.pool_compile.proofs.operand_depth.+statements.Given as goal

abbrev pub invariant-statements_words-loop-stmt : goal.invariant-statements_words-loop-stmt
invariant-statements_words-loop-stmt l =
    statements_words (statements_of l.stmts) ≤ 64 → more l.most (statements_words (statements_of (drop l.stmt-index l.stmts))) ≡ statements_words (statements_of l.stmts)

abbrev pub invariant-works_words-loop-alt : goal.invariant-works_words-loop-alt
invariant-works_words-loop-alt l =
    works_words (alternatives_of l.alts) ≤ 64 → more l.most (works_words (alternatives_of (drop l.alt-index l.alts))) ≡ works_words (alternatives_of l.alts)
