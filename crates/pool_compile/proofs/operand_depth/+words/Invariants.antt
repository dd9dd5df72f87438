use Rattle.std.proofs.Common.{◌≡◌, ◌≤◌, drop}
use Rattle.pool_syntax.specs.TreeOf.{expressions_of}
use Rattle.pool_compile.specs.Code.{expressions_words}
use Rattle.pool_compile.proofs.operand_depth.+words.Given as goal

abbrev pub invariant-expressions_words-loop-left : goal.invariant-expressions_words-loop-left
invariant-expressions_words-loop-left l =
    expressions_words (expressions_of (drop l.left l.exprs)) ≤ 64 → l.most ≡ expressions_words (expressions_of (drop l.left l.exprs))
